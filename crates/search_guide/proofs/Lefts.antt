-- Sets of which the first square is taken.
use Rattle.std.proofs.Common.{◌≡◌, ℕ, ◌<◌, List, Bool, Some, length, slice_get, arith, ap}
use Rattle.cha_board.specs.SquareSets.{squares_in, set_without}
use Rattle.cha_board.proofs.SetLaws.{squares_from_first}

-- fewer squares are left
pub fewer_left : (left next : List Bool) (s : ℕ) → slice_get (squares_in left) 0 ≡ Some s → next ≡ set_without left s → length (squares_in next) < length (squares_in left)
fewer_left left next s first e =
    let whole = ap length (squares_from_first left s first) in
    let same = ap (λ set. length (squares_in set)) e in
    omega (arith, whole, same)
