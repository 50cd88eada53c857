-- Small material: no pawn, and at most one man beside each king (this project).
use Rattle.std.specs.Prelude.{◌≡◌, ◌≢◌, ℕ, true, false, ◌⊎◌, List, Option, Some, None}
use Rattle.cha_board.specs.declared.men.Color.{Color}
use Rattle.cha_board.specs.declared.men.Kind.{Kind}
use Rattle.cha_board.specs.declared.men.Kind.TheVariants.{King}
use Rattle.cha_board.specs.declared.men.Man.{Man}
use Rattle.cha_board.specs.Men.{other_color, is_man, is_pawn, is_non_king}
use Rattle.cha_board.specs.Board.{Board, man_at, IsValid, no_rights}
use Rattle.cha_moves.specs.Ends.{IsMated}

-- no pawn stands on the board
abbrev pub HasNoPawn : List (Option Man) → Type 0
HasNoPawn men = (u : ℕ) → is_pawn (man_at men u) ≡ false

-- c has no man but its king
abbrev pub HasOnlyKing : List (Option Man) → Color → Type 0
HasOnlyKing men c = (u : ℕ) → is_non_king c (man_at men u) ≡ false

-- c has one man beside its king, of kind k
pub record HasOneBeside (men : List (Option Man)) (c : Color) (k : Kind) : Type 0 where
  pub square : ℕ
  pub stands : is_man c k (man_at men square) ≡ true
  pub no_king : k ≢ King
  pub alone : (u : ℕ) → is_non_king c (man_at men u) ≡ true → u ≡ square

-- c has beside its king one man of the kind that is named, or none where none is
abbrev pub HasBeside : List (Option Man) → Color → Option Kind → Type 0
HasBeside men c None = HasOnlyKing men c
HasBeside men c (Some k) = HasOneBeside men c k

-- Small material: no pawn stands on the board, and each side has at most one man beside its king.
pub record IsSmall (p : Board) : Type 0 where
  pub no_pawn : HasNoPawn p.men
  pub few : (c : Color) → (k : Option Kind) × HasBeside p.men c k

-- A valid position without rights and target that is a mate for the winner w, whose men are the two kings, one man of w of
-- kind own, and, or not, one man of the loser of the kind that other names.
pub record IsSmallMate (w : Color) (own : Kind) (other : Option Kind) (q : Board) : Type 0 where
  pub valid : IsValid q
  pub rights : q.rights ≡ no_rights
  pub target : q.target ≡ None
  pub winner : HasOneBeside q.men w own
  pub loser : HasOnlyKing q.men (other_color w) ⊎ HasBeside q.men (other_color w) other
  pub mate : IsMated q (other_color w)

-- no such position is there
abbrev pub IsMateFree : Color → Kind → Option Kind → Type 0
IsMateFree w own other = (q : Board) → IsSmallMate w own other q → ⊥

-- Small material with which w cannot mate: it has only its king, or no position with the kinds of men that the two sides
-- have, the loser's man being there or not, is a mate for w.
pub record IsSmallUnwinnable (p : Board) (w : Color) : Type 0 where
  pub small : IsSmall p
  pub free : (own : Kind) (other : Option Kind) → HasOneBeside p.men w own → HasBeside p.men (other_color w) other → IsMateFree w own other
