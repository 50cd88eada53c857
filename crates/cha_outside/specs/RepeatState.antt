-- What a source of equal bytes has left. It is this project's.
use Rattle.std.specs.Prelude.{ℕ}

-- the byte, and how often it is still given
pub record RepeatState : Type 0 where
  pub byte : ℕ
  pub count : ℕ
