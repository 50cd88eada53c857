-- Games that are settled: a byte follows the token that ends each of them.
use Rattle.std.specs.Prelude.{ℕ, ◌+◌, List, [], ◌∷◌}
use Rattle.pgn_lex.specs.declared.kinds.Placed.{Placed}
use Rattle.pgn_lex.specs.Tokens.{settled_tokens}
use Rattle.pgn_games.specs.declared.token_turns.Place.{Place}
use Rattle.pgn_games.specs.declared.token_turns.Place.TheVariants.{Before}
use Rattle.pgn_games.specs.declared.token_turns.Turn.{Turn}
use Rattle.pgn_games.specs.declared.token_turns.Turn.TheVariants.{Stays, Ends, Begins}
use Rattle.pgn_games.specs.Cutting.{turn, place_after}

-- how many games a token ends: one by a result, or by a tag that begins the next
abbrev pub ends_by : Turn → ℕ
ends_by (Stays place) = 0
ends_by Ends = 1
ends_by Begins = 1

-- how many games these tokens end, from a place on
unfoldable pub games_ended : Place → List Placed → ℕ
games_ended place [] = 0
games_ended place (t ∷ ts) = ends_by (turn place t.token) + games_ended (place_after (turn place t.token)) ts

-- how many games are settled in a text: those that its settled tokens end
unfoldable pub settled_games : List ℕ → ℕ
settled_games bytes = games_ended Before (settled_tokens bytes)
