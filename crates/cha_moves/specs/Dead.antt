-- Dead positions, and the positions of a game.
use Rattle.std.specs.Prelude.{◌≡◌, ℕ, ◌+◌, List, Some, slice_get, Contains}
use Rattle.cha_board.specs.declared.men.Color.{Color}
use Rattle.cha_board.specs.Board.{Board}
use Rattle.cha_moves.specs.Step.{Move}
use Rattle.cha_moves.specs.Moves.{after, legal}
use Rattle.cha_moves.specs.Ends.{IsUnwinnable}

-- no series of legal moves mates for either side (Laws of Chess, Article 5.2.2)
abbrev pub IsDead : Board → Type 0
IsDead q = (winner : Color) → IsUnwinnable q winner

-- each position of a list comes from the one before it by a legal move
unfoldable pub ArePlayed : List Board → Type 0
ArePlayed qs = (i : ℕ) (p q : Board) → slice_get qs i ≡ Some p → slice_get qs (i + 1) ≡ Some q → (m : Move) × Contains (legal p) m × (q ≡ after p m)
