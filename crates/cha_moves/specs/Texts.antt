-- The text of a move.
use Rattle.std.specs.Prelude.{ℕ, List, [], ◌∷◌, ◌++◌, Option, Some}
use Rattle.cha_board.specs.declared.men.Kind.{Kind}
use Rattle.cha_board.specs.declared.men.Kind.TheVariants.{Knight, Bishop, Rook, Queen}
use Rattle.cha_board.specs.Letters.{square_text}
use Rattle.cha_moves.specs.Step.{Move}

-- the letter of what a pawn becomes: q, r, b or n
unfoldable pub promotion_text : Option Kind → List ℕ
promotion_text (Some Queen) = 113 ∷ []
promotion_text (Some Rook) = 114 ∷ []
promotion_text (Some Bishop) = 98 ∷ []
promotion_text (Some Knight) = 110 ∷ []
promotion_text _ = []

-- the text of a move, as e2e4, e7e8q or e1g1
unfoldable pub move_bytes : Move → List ℕ
move_bytes m = square_text m.from ++ square_text m.to ++ promotion_text m.promotion
