-- Counts of 64 bits, of faults and of calls, that stop at the greatest number. They are this project's.
use Rattle.std.specs.Prelude.{ℕ, ◌+◌, ◌-◌, ◌^◌, ◌==◌, ◌≤◌, min, Bool, List}
use Rattle.std.specs.List.{list_any}

-- one more, and no more than the greatest number of 64 bits
abbrev pub counted : ℕ → ℕ
counted before = min (before + 1) (2 ^ 64 - 1)

-- a count rose: it is greater than before, or stands at the greatest number of 64 bits
abbrev pub Rose : ℕ → ℕ → Type 0
Rose before now = counted before ≤ now

-- the number of a call is among those of the calls that are to fail
abbrev pub is_to_fail : List ℕ → ℕ → Bool
is_to_fail fails number = list_any (λ call. call == number) fails
