-- The games of a text.
use Rattle.std.specs.Prelude.{ℕ, Bool, true, not, ◌&&◌, ◌||◌, if◌then◌else◌, List, [], ◌∷◌, map, take, length, Option, Some, None, is_some, Result, Ok, Err, codes, nat_lt}
use Rattle.std.specs.List.{fold, list_any}
use Rattle.std.specs.Option.{option_map, option_or}
use Rattle.cha_board.specs.declared.men.Color.TheVariants.{White}
use Rattle.cha_board.specs.declared.opening.TheConstants.{OPENING_MEN}
use Rattle.cha_board.specs.Board.{Board}
use Rattle.cha_fen.specs.declared.faults.FenFault.{FenFault}
use Rattle.cha_fen.specs.Fen.{fen}
use Rattle.pgn_lex.specs.declared.kinds.Placed.{Placed}
use Rattle.pgn_lex.specs.Lines.{ends_line}
use Rattle.pgn_lex.specs.Tokens.{tokens}
use Rattle.pgn_games.specs.declared.faults.GameFault.{GameFault}
use Rattle.pgn_games.specs.declared.faults.GameFault.TheVariants.{BadToken, Unclosed, ValueTooLong, Variant, BadStart, TooManyPlies}
use Rattle.pgn_games.specs.declared.played.Game.{Game}
use Rattle.pgn_games.specs.declared.played.PlacedGame.{PlacedGame}
use Rattle.pgn_games.specs.declared.played.Span.{Span}
use Rattle.pgn_games.specs.declared.token_turns.Place.TheVariants.{Before}
use Rattle.pgn_games.specs.Cutting.{cut, place_behind, is_before}
use Rattle.pgn_games.specs.Fields.{depth_at_end, tag_value, recorded_in, move_words, sound_words, first_bad, is_unclosed, is_cut, says_forfeit, says_flag_fell, says_chess, passes}

-- the opening position (Laws of Chess, Article 2.3)
unfoldable pub opening : Board
opening = record {
  men = OPENING_MEN;
  side = White;
  rights = record { white_king = true; white_queen = true; black_king = true; black_queen = true };
  target = None;
}

-- the position that a FEN tag gives, or else the opening position
abbrev pub position_or_opening : Result Board FenFault → Board
position_or_opening (Ok q) = q
position_or_opening (Err fault) = opening

-- where a game starts, by its FEN tag (PGN standard, 9.7.2); the SetUp tag plays no part (this project)
unfoldable pub start_of : Option (List ℕ) → Board
start_of None = opening
start_of (Some value) = position_or_opening (fen value)

-- the fault of a FEN tag
abbrev pub refusal : Result Board FenFault → Option GameFault
refusal (Ok q) = None
refusal (Err fault) = Some (BadStart fault)

-- the fault of a game's start
unfoldable pub start_fault : Option (List ℕ) → Option GameFault
start_fault None = None
start_fault (Some value) = refusal (fen value)

-- a fault, if there is cause for it
abbrev pub fault_if : Bool → GameFault → Option GameFault
fault_if cause fault = if cause then Some fault else None

infixr 10 ◌or_else◌
-- the first of two faults
abbrev pub ◌or_else◌ : Option GameFault → Option GameFault → Option GameFault
a or_else b = option_or a b

-- a comment or a variation is open where the game ends
unfoldable pub is_open : List Placed → Bool
is_open slice = if list_any (λ t. is_unclosed t.token) slice then true else nat_lt 0 (depth_at_end slice)

-- the first fault of a game (this project)
unfoldable pub fault_of : List Placed → Option GameFault
fault_of slice =
    option_map BadToken (first_bad slice)
    or_else fault_if (is_open slice) Unclosed
    or_else fault_if (list_any (λ t. is_cut t.token) slice) ValueTooLong
    or_else fault_if (passes (λ value. not (says_chess value)) (tag_value (codes "Variant") slice)) Variant
    or_else start_fault (tag_value (codes "FEN") slice)
    or_else fault_if (nat_lt 12000 (length (move_words slice))) TooManyPlies

-- a tag of the game has a fault: no words are moves of chess from a known position
unfoldable pub has_bad_tag : List Placed → Bool
has_bad_tag slice =
    list_any (λ t. is_cut t.token) slice || passes (λ value. not (says_chess value)) (tag_value (codes "Variant") slice)
    || is_some (start_fault (tag_value (codes "FEN") slice))

-- how many words stand before the first fault of the movetext, of which the 12,001st word is one (this project)
unfoldable pub words_before_fault : List Placed → Option ℕ
words_before_fault slice = if has_bad_tag slice then None else Some (length (take 12000 (sound_words slice)))

-- the game of these tokens; the 12,001st move word is the last that is kept (this project)
unfoldable pub game_of : List Placed → Game
game_of slice = record {
  start = start_of (tag_value (codes "FEN") slice);
  recorded = recorded_in slice;
  forfeit = passes says_forfeit (tag_value (codes "Termination") slice);
  flag_fell = passes says_flag_fell (tag_value (codes "Termination") slice);
  words = take 12001 (move_words slice);
  before_fault = words_before_fault slice;
  fault = fault_of slice;
}

-- where the game of these tokens stands: from its first token to its last one, and in which line it begins
unfoldable pub span_of : List Placed → Span
span_of [] = record { start = 0; end = 0; line = 0 }
span_of (t ∷ ts) = record { start = t.offset; end = fold (λ end later. later.end) t.end ts; line = t.line }

-- the game of these tokens, and where it stands
abbrev pub placed_game_of : List Placed → PlacedGame
placed_game_of slice = record { span = span_of slice; game = game_of slice }

-- Reading a text leaves a reader as new: the next byte begins a line, and no game is open. A comment or a string that is open
-- is a token of an open game (this project).
unfoldable pub is_closed : List ℕ → Bool
is_closed bytes = ends_line bytes && is_before (place_behind Before (tokens bytes))

-- the games of a text, in order
unfoldable pub games : List ℕ → List Game
games bytes = map game_of (cut Before (tokens bytes))

-- the same games, and where each stands
unfoldable pub placed_games : List ℕ → List PlacedGame
placed_games bytes = map placed_game_of (cut Before (tokens bytes))
