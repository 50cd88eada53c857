-- A move as a word that tells both of its squares (PGN standard, 8.2.3).
use Rattle.std.specs.Prelude.{ℕ, if◌then◌else◌, List, [], ◌++◌, Option, None, Some}
use Rattle.cha_board.specs.declared.men.Man.{Man}
use Rattle.cha_board.specs.Board.{Board, man_at}
use Rattle.cha_board.specs.Letters.{square_text}
use Rattle.cha_moves.specs.Step.{Move}
use Rattle.cha_san.specs.Fitting.{is_castling}
use Rattle.cha_san.specs.Writing.{kind_text, promotion_text, castling_text}

-- the letter of what stands on a square
abbrev pub man_text : Option Man → List ℕ
man_text None = []
man_text (Some man) = kind_text man.kind

-- a move that is no castling: the letter of the man, the square that it leaves, the one that it enters, and what a pawn becomes
unfoldable pub plain_text : Board → Move → List ℕ
plain_text q m = man_text (man_at q.men m.from) ++ square_text m.from ++ square_text m.to ++ promotion_text m.promotion

-- a move as a word (this project: always with the whole square that the man leaves)
unfoldable pub move_word : Board → Move → List ℕ
move_word q m = if is_castling q m then castling_text m.to else plain_text q m
