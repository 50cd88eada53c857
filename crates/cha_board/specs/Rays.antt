-- The squares between two squares, by the rays from each.
use Rattle.std.specs.Prelude.{ℕ, slice_index, bit_and, bit_or}
use Rattle.cha_board.specs.declared.rays.TheConstants.{NORTH, EAST, NORTH_EAST, NORTH_WEST, SOUTH, WEST, SOUTH_EAST, SOUTH_WEST}

-- the number of the squares that are on a ray from s and on the opposite ray from t (this project)
unfoldable pub rays_between : ℕ → ℕ → ℕ
rays_between s t =
    bit_or (bit_or (bit_or (bit_or (bit_or (bit_or (bit_or (bit_and (slice_index NORTH s) (slice_index SOUTH t)) (bit_and (slice_index SOUTH s) (slice_index NORTH t)))
    (bit_and (slice_index EAST s) (slice_index WEST t))) (bit_and (slice_index WEST s) (slice_index EAST t)))
    (bit_and (slice_index NORTH_EAST s) (slice_index SOUTH_WEST t))) (bit_and (slice_index SOUTH_WEST s) (slice_index NORTH_EAST t)))
    (bit_and (slice_index NORTH_WEST s) (slice_index SOUTH_EAST t))) (bit_and (slice_index SOUTH_EAST s) (slice_index NORTH_WEST t))
