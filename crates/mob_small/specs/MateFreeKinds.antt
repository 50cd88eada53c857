-- What code and proofs use beside the definitions.
use Rattle.std.specs.Prelude.{Bool, true, false, ⊤, List, Option, Some, None}
use Rattle.cha_board.specs.declared.men.Color.{Color}
use Rattle.cha_board.specs.declared.men.Kind.{Kind}
use Rattle.cha_board.specs.declared.men.Kind.TheVariants.{Knight, Bishop, Rook, Queen}
use Rattle.cha_board.specs.declared.men.Man.{Man}
use Rattle.mob_small.specs.Small.{HasBeside, IsMateFree}

-- the kinds with which a side cannot mate: a knight alone or against a queen, a bishop alone or against a queen or a rook
unfoldable pub is_free : Kind → Option Kind → Bool
is_free Knight None = true
is_free Knight (Some Queen) = true
is_free Bishop None = true
is_free Bishop (Some Rook) = true
is_free Bishop (Some Queen) = true
is_free _ _ = false

-- c has neither only its king nor one man beside it
abbrev pub HasSeveral : List (Option Man) → Color → Type 0
HasSeveral men c = (k : Option Kind) → HasBeside men c k → ⊥

-- no mate by the man that is named, if one is
abbrev pub AreMateFree : Color → Option Kind → Option Kind → Type 0
AreMateFree w None other = ⊤
AreMateFree w (Some own) other = IsMateFree w own other
