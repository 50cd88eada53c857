-- Mobility sets: the squares that each man of a position may ever reach (this project).
use Rattle.std.specs.Prelude.{◌≡◌, ℕ, Bool, true}
use Rattle.cha_board.specs.declared.men.Kind.{Kind}

-- A man is named by its origin, the square on which it stands in the position: `has o k u` says that the man of o may ever
-- stand on u as a k, and `loose o` that it may ever leave o, change or be captured there.
pub record Sets : Type 0 where
  pub has : ℕ → Kind → ℕ → Bool
  pub loose : ℕ → Bool

-- sets lie within others: what is in reach or loose in them is so in the others
pub record IsWithin (s r : Sets) : Type 0 where
  pub has : (o : ℕ) (k : Kind) (u : ℕ) → s.has o k u ≡ true → r.has o k u ≡ true
  pub loose : (o : ℕ) → s.loose o ≡ true → r.loose o ≡ true
