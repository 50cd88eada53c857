-- Loops over squares: what they find.
use Rattle.std.proofs.Common.{◌≡◌, ℕ, ◌<◌, Bool, false}
use Rattle.std.specs.List.{list_all}
use Rattle.std.proofs.lemmas.Bool.{both_ways, false_from_ne_true}
use Rattle.cha_board.specs.Squares.{squares}
use Rattle.cha_board.proofs.Scans.{all_squares_at}

-- a square that fails settles that not all squares pass
pub not_all_squares : (p : ℕ → Bool) (s : ℕ) → s < 64 → p s ≡ false → list_all p squares ≡ false
not_all_squares p s small fails = false_from_ne_true (list_all p squares) (λ all. both_ways (p s) fails (all_squares_at p s all small))
