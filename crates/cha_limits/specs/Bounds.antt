-- What a search may spend (this project).
use Rattle.std.specs.Prelude.{ℕ, ◌≤◌}

-- the positions expanded for a side, the plies of the rounds, the workers, and the rows of each shard of the table of facts
pub record Bounds : Type 0 where
  pub budget : ℕ
  pub depth : ℕ
  pub workers : ℕ
  pub entries : ℕ

-- each number lies in its range
pub record AreInRange (b : Bounds) : Type 0 where
  pub budget : (1 ≤ b.budget) × (b.budget ≤ 100000)
  pub depth : (2 ≤ b.depth) × (b.depth ≤ 8)
  pub workers : (1 ≤ b.workers) × (b.workers ≤ 16)
  pub entries : (1 ≤ b.entries) × (b.entries ≤ 65536)
