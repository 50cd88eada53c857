-- Lines of moves as values (this project).
use Rattle.std.specs.Prelude.{ℕ, List, [], ◌∷◌, map, codes, decimal}
use Rattle.cha_board.specs.Board.{Board}
use Rattle.cha_fen.specs.Written.{fen_text}
use Rattle.cha_moves.specs.Step.{Move}
use Rattle.cha_moves.specs.Moves.{after}
use Rattle.cha_moves.specs.Texts.{move_bytes}
use Rattle.cha_san.specs.Writing.{san_text}
use Rattle.json.specs.Json.{Json, number, string, array, Items, no_items, item, Members, member}

-- a number, in decimal digits
abbrev pub count : ℕ → Json
count n = number (decimal n)

-- texts in order
abbrev pub texts : List (List ℕ) → Items
texts [] = no_items
texts (text ∷ more) = item (string text) (texts more)

-- the words of moves that are made one after the other (PGN standard, 8.2.3)
abbrev pub words_of : Board → List Move → List (List ℕ)
words_of q [] = []
words_of q (m ∷ ms) = san_text q m ∷ words_of (after q m) ms

-- the position after each of them (PGN standard, 16.1)
abbrev pub fens_of : Board → List Move → List (List ℕ)
fens_of q [] = []
fens_of q (m ∷ ms) = fen_text (after q m) ∷ fens_of (after q m) ms

-- the members that say a line of moves, before others
abbrev pub line_members : Board → List Move → Members → Members
line_members q ms more = member (codes "moves") (array (texts (map move_bytes ms))) (member (codes "san") (array (texts (words_of q ms))) more)
