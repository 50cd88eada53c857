-- Games of a text that stands behind another one.
use Rattle.std.specs.Prelude.{ℕ, ◌+◌}
use Rattle.std.specs.Option.{option_map}
use Rattle.pgn_games.specs.declared.faults.GameFault.{GameFault}
use Rattle.pgn_games.specs.declared.faults.GameFault.TheVariants.{BadToken}
use Rattle.pgn_games.specs.declared.played.Game.{Game}
use Rattle.pgn_games.specs.declared.played.PlacedGame.{PlacedGame}
use Rattle.pgn_games.specs.declared.played.Span.{Span}

-- a span, so many bytes and lines further on
abbrev pub moved_span : ℕ → ℕ → Span → Span
moved_span n k span = record { start = n + span.start; end = n + span.end; line = k + span.line }

-- a fault, so many bytes further on
abbrev pub moved_fault : ℕ → GameFault → GameFault
moved_fault n (BadToken offset) = BadToken (n + offset)
moved_fault n fault = fault

-- what a game says, so many bytes further on: only the place of a bad token moves
abbrev pub moved_game : ℕ → Game → Game
moved_game n game = record {
  start = game.start;
  recorded = game.recorded;
  forfeit = game.forfeit;
  flag_fell = game.flag_fell;
  words = game.words;
  before_fault = game.before_fault;
  fault = option_map (moved_fault n) game.fault;
}

-- a game, so many bytes and lines further on
abbrev pub moved : ℕ → ℕ → PlacedGame → PlacedGame
moved n k placed = record { span = moved_span n k placed.span; game = moved_game n placed.game }
