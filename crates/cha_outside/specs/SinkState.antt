-- What a sink in memory keeps, and how it answers. It is this project's.
use Rattle.std.specs.Prelude.{ℕ, ◌-◌, ◌++◌, cond, nat_le, List, length, take}
use Rattle.cha_outside.specs.declared.writing.Wrote.{Wrote}
use Rattle.cha_outside.specs.declared.writing.Wrote.TheVariants.{All, Failed}
use Rattle.cha_outside.specs.Faults.{counted, is_to_fail}

-- the bytes written, how many it has room for in all, the numbers of the calls that are to fail, and the counts so far
pub record SinkState : Type 0 where
  pub written : List ℕ
  pub room : ℕ
  pub fails : List ℕ
  pub calls : ℕ
  pub faults : ℕ

-- a call was counted, and took these bytes
abbrev pub with_taken : SinkState → List ℕ → SinkState
with_taken kept bytes = record kept { written = kept.written ++ bytes; calls = counted kept.calls }

-- a call was counted as a fault, and took these bytes
abbrev pub with_fault : SinkState → List ℕ → SinkState
with_fault kept bytes = record kept { written = kept.written ++ bytes; calls = counted kept.calls; faults = counted kept.faults }

-- how many bytes it has room for yet
abbrev pub free : SinkState → ℕ
free kept = kept.room - length kept.written

-- a numbered call fails with no byte taken, and a piece that does not fit fails after what fits
abbrev pub kept_answer : SinkState → List ℕ → Wrote
kept_answer kept bytes =
    cond (is_to_fail kept.fails (counted kept.calls)) (Failed 0) (cond (nat_le (length bytes) (free kept)) All (Failed (free kept)))

-- what a write leaves
abbrev pub kept_after : SinkState → List ℕ → SinkState
kept_after kept bytes =
    cond (is_to_fail kept.fails (counted kept.calls)) (with_fault kept (take 0 bytes))
    (cond (nat_le (length bytes) (free kept)) (with_taken kept bytes) (with_fault kept (take (free kept) bytes)))
