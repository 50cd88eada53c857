-- Which moves fit what a word says (PGN standard, 8.2.3).
use Rattle.std.specs.Prelude.{ℕ, ◌==◌, Bool, true, false, not, ◌&&◌, Option, Some, None}
use Rattle.cha_board.specs.declared.men.Kind.{Kind}
use Rattle.cha_board.specs.declared.men.Kind.TheVariants.{King}
use Rattle.cha_board.specs.Men.{same_kind, is_man}
use Rattle.cha_board.specs.Squares.{file_of, rank_of, files_apart}
use Rattle.cha_board.specs.Board.{Board, man_at}
use Rattle.cha_moves.specs.Step.{Move}
use Rattle.cha_san.specs.declared.forms.Form.{Form}
use Rattle.cha_san.specs.declared.forms.Form.TheVariants.{Short, Long, Plain}
use Rattle.cha_san.specs.declared.forms.Parts.{Parts}

-- castling: the king's move of two files (Laws of Chess, Article 3.8.2)
unfoldable pub is_castling : Board → Move → Bool
is_castling q m = is_man q.side King (man_at q.men m.from) && (files_apart m.from m.to == 2)

-- a number is the one that is named, if one is named
abbrev pub is_named : Option ℕ → ℕ → Bool
is_named None n = true
is_named (Some k) n = n == k

-- a pawn becomes what is named; where nothing is named, this is left open
abbrev pub promotes_as : Option Kind → Option Kind → Bool
promotes_as None promotion = true
promotes_as (Some k) None = false
promotes_as (Some k) (Some j) = same_kind j k

-- a move that is no castling fits the parts of a word
unfoldable pub fits_parts : Board → Parts → Move → Bool
fits_parts q p m =
    not (is_castling q m)
    && is_man q.side p.kind (man_at q.men m.from)
    && is_named p.file (file_of m.from) && is_named p.rank (rank_of m.from)
    && (m.to == p.to) && promotes_as p.promotion m.promotion

-- a move fits what a word says
unfoldable pub fits : Board → Form → Move → Bool
fits q Short m = is_castling q m && (file_of m.to == 6)
fits q Long m = is_castling q m && (file_of m.to == 2)
fits q (Plain p) m = fits_parts q p m
