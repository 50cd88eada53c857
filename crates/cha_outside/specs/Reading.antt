-- What one read gave, by std's words on what is known of a reader's bytes. They are this project's.
use Rattle.std.specs.Prelude.{ℕ, zero, suc, ◌<◌, ◌≤◌, List, take, ⊤}
use Rattle.std.specs.declared.option.Option.{Option}
use Rattle.std.specs.Io.KnownBytes.{Keeps, Consumes, IsAtEnd}
use Rattle.cha_outside.specs.declared.reading.Got.{Got}
use Rattle.cha_outside.specs.declared.reading.Got.TheVariants.{Bytes, End, Failed}
use Rattle.cha_outside.specs.Faults.{Rose}

-- at least one byte was given, and no more than there was room for
abbrev pub GivesWithin : ℕ → Got → Type 0
GivesWithin room (Bytes n) = (0 < n) × (n ≤ room)
GivesWithin room End = ⊤
GivesWithin room Failed = ⊤

-- the bytes given are the next of those left; the end comes where none is left, and a failure takes none
abbrev pub Gives : Option (List ℕ) → Option (List ℕ) → Got → List ℕ → Type 0
Gives old new (Bytes n) buffer = Consumes old new (take n buffer)
Gives old new End buffer = Keeps old new × IsAtEnd old × IsAtEnd new
Gives old new Failed buffer = Keeps old new

-- the count of faults never falls, and rose where the read failed
abbrev pub ReadCause : ℕ → ℕ → Got → Type 0
ReadCause before now (Bytes n) = before ≤ now
ReadCause before now End = before ≤ now
ReadCause before now Failed = (before ≤ now) × Rose before now

-- n bytes, and the end where n is 0
abbrev pub given : ℕ → Got
given zero = End
given (suc n) = Bytes (suc n)
