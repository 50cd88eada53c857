-- The items that an input is made of (this project).
use Rattle.std.specs.Prelude.{ℕ, ◌-◌, if◌then◌else◌, List, [], length, take, Option, Some, None, Result, Ok, Err, nat_lt, slice_index_or}
use Rattle.cha_board.specs.Board.{Board}
use Rattle.cha_fen.specs.declared.faults.FenFault.{FenFault}
use Rattle.cha_fen.specs.declared.faults.FenFault.TheVariants.{Shape}
use Rattle.cha_fen.specs.Fen.{fen}
use Rattle.pgn_games.specs.declared.faults.GameFault.{GameFault}
use Rattle.pgn_games.specs.declared.played.Game.{Game}
use Rattle.pgn_games.specs.declared.played.PlacedGame.{PlacedGame}
use Rattle.pgn_games.specs.declared.played.Span.{Span}
use Rattle.cha_moves.specs.Step.{Move}
use Rattle.cha_san.specs.declared.faults.PlayFault.{PlayFault}
use Rattle.cha_san.specs.Playing.{positions, moves_named}
use Rattle.cha_outcome.specs.declared.unreadable.Unreadable.{Unreadable}
use Rattle.cha_outcome.specs.declared.unreadable.Unreadable.TheVariants.{Tokens, Moves, TooLong}
use Rattle.cha_outcome.specs.declared.items.PlayedGame.{PlayedGame}
use Rattle.cha_outcome.specs.declared.items.ReplayedGame.{ReplayedGame}
use Rattle.cha_outcome.specs.declared.items.Item.{Item}
use Rattle.cha_outcome.specs.declared.items.TheConstants.{MOST_GAME_BYTES}
use Rattle.cha_outcome.specs.declared.items.Item.TheVariants.{Position, RefusedLine, Played, UnreadableGame, Replayed}

-- the most bytes that a line may have
abbrev pub most_line_bytes : ℕ
most_line_bytes = 4096

abbrev pub line_read : ℕ → Result Board FenFault → Item
line_read number (Ok q) = Position number q
line_read number (Err fault) = RefusedLine number fault

-- the item of a line that is not blank, by its number and its text: a position in FEN, or why it is none
unfoldable pub line_item : ℕ → List ℕ → Item
line_item number text = if nat_lt most_line_bytes (length text) then RefusedLine number Shape else line_read number (fen text)

-- the last of the positions of a game
abbrev pub final_of : Board → List Board → Board
final_of start qs = slice_index_or qs (length qs - 1) start

-- a game that was played to its final position
abbrev pub played : Span → Game → List Board → PlayedGame
played span game qs = record { span = span; last = final_of game.start qs; positions = qs; recorded = game.recorded; forfeit = game.forfeit; flag_fell = game.flag_fell }

-- the first word of a game that names no move
abbrev pub stopped_by : Game → PlayFault → Unreadable
stopped_by game stop = Moves stop.ply (slice_index_or game.words (stop.ply - 1) []) stop.fault

-- the item of a game whose words gave these positions, or not
abbrev pub played_item : Span → Game → Result (List Board) PlayFault → Item
played_item span game (Ok qs) = Played (played span game qs)
played_item span game (Err stop) = UnreadableGame span (stopped_by game stop)

abbrev pub item_unless : Option GameFault → Span → Game → Item
item_unless None span game = played_item span game (positions game.start game.words)
item_unless (Some fault) span game = UnreadableGame span (Tokens fault)

-- the item of a game: its first fault, or else its first word that names no move, or else its positions
unfoldable pub game_item : PlacedGame → Item
game_item placed = item_unless placed.game.fault placed.span placed.game

-- the same of a game whose result may be corrected: none is read of more bytes than are kept of one
unfoldable pub kept_item : PlacedGame → Item
kept_item placed = if nat_lt MOST_GAME_BYTES (placed.span.end - placed.span.start) then UnreadableGame placed.span TooLong else game_item placed

-- why an item is no game that can be read
abbrev pub reason_of : Item → Option Unreadable
reason_of (UnreadableGame span why) = Some why
reason_of _ = None

-- the moves of a game whose words before its first fault are so many; it starts nowhere where a tag has a fault
abbrev pub start_if_known : Option ℕ → Board → Option Board
start_if_known None start = None
start_if_known (Some n) start = Some start

abbrev pub moves_before : Option ℕ → Game → List Move
moves_before None game = []
moves_before (Some n) game = moves_named game.start (take n game.words)

-- The moves of a game that are before its first fault, as far as words name moves. The reason why it cannot be read is the one for which
-- it cannot be judged (this project).
abbrev pub replayed : PlacedGame → ReplayedGame
replayed placed = record {
  span = placed.span;
  start = start_if_known placed.game.before_fault placed.game.start;
  moves = moves_before placed.game.before_fault placed.game;
  why = reason_of (game_item placed);
}

-- the item of a game whose moves are told
unfoldable pub replay_item : PlacedGame → Item
replay_item placed = Replayed (replayed placed)
