-- What became of one write, by std's words on what is known of a writer's bytes. They are this project's.
use Rattle.std.specs.Prelude.{ℕ, ◌<◌, ◌≤◌, List, take, ⊤}
use Rattle.std.specs.declared.option.Option.{Option}
use Rattle.std.specs.Io.KnownBytes.{Appends}
use Rattle.cha_outside.specs.declared.writing.Wrote.{Wrote}
use Rattle.cha_outside.specs.declared.writing.Wrote.TheVariants.{All, Failed}
use Rattle.cha_outside.specs.Faults.{Rose}

-- a write that failed took fewer bytes than it was given
abbrev pub TakesBelow : ℕ → Wrote → Type 0
TakesBelow size All = ⊤
TakesBelow size (Failed n) = n < size

-- the bytes taken stand behind those written before
abbrev pub Takes : Option (List ℕ) → Option (List ℕ) → Wrote → List ℕ → Type 0
Takes old new All bytes = Appends old new bytes
Takes old new (Failed n) bytes = Appends old new (take n bytes)

-- the count of faults never falls, and rose where the write failed
abbrev pub WriteCause : ℕ → ℕ → Wrote → Type 0
WriteCause before now All = before ≤ now
WriteCause before now (Failed n) = (before ≤ now) × Rose before now
