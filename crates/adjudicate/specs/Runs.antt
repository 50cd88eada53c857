-- What is true of a whole run.
use Rattle.std.specs.Prelude.{◌≡◌, ◌≢◌, ℕ, ◌+◌, ◌-◌, ◌<◌, ◌≤◌, Bool, true, false, List, length, Some, ◌⊎◌, ⊤, []}
use Rattle.std.specs.declared.option.Option.{Option}
use Rattle.std.specs.Io.KnownBytes.{Appends, Consumes, IsAtEnd}
use Rattle.cha_outside.specs.Faults.{Rose}
use Rattle.cha_outside.specs.Gathering.{Took}
use Rattle.item_batches.specs.Items.{most_bytes, TookAsNeeded}
use Rattle.adjudicate.specs.declared.endings.Status.{Status}
use Rattle.adjudicate.specs.declared.endings.Status.TheVariants.{Done, Usage, ReadFault, WriteFault, TooLong, NoMemory, NotAccepted}
use Rattle.adjudicate.specs.Report.{Demand, IsFront}

-- A source and a sink at one moment: the bytes that the source still gives and those that the sink took, where they tell them,
-- and how often each has failed.
pub record Outside : Type 0 where
  pub left : Option (List ℕ)
  pub read_faults : ℕ
  pub written : Option (List ℕ)
  pub write_faults : ℕ

abbrev pub outside : Option (List ℕ) → ℕ → Option (List ℕ) → ℕ → Outside
outside left read_faults written write_faults =
    record { left = left; read_faults = read_faults; written = written; write_faults = write_faults }

-- the sink took an output with a property
abbrev pub Grew : Option (List ℕ) → Option (List ℕ) → (List ℕ → Type 0) → Type 0
Grew old new P = (out : List ℕ) × Appends old new out × P out

-- these bytes were taken of the source; where nothing is read there are none, and the source is as it was
abbrev pub Takes : Bool → Outside → Outside → List ℕ → Type 0
Takes true before now bytes = Consumes before.left now.left bytes
Takes false before now bytes = (bytes ≡ []) × (now.left ≡ before.left) × (now.read_faults ≡ before.read_faults)

-- nothing is left of what is read
abbrev pub HasReadAll : Bool → Outside → Type 0
HasReadAll true now = IsAtEnd now.left
HasReadAll false now = ⊤

-- the whole input was taken, it is what is asked for, and its report was written
abbrev pub Reports : Demand → Outside → Outside → Type 0
Reports d before now =
    (bytes : List ℕ) × Takes d.reads before now bytes × HasReadAll d.reads now × d.accepted bytes × Grew before.written now.written (d.report bytes)

-- the whole input was taken, it is not what is asked for, and its report was written; of games and positions nothing is asked, so this
-- is never said of them
abbrev pub Refuses : Demand → Outside → Outside → Type 0
Refuses d before now =
    (bytes : List ℕ) × Takes d.reads before now bytes × HasReadAll d.reads now × (d.accepted bytes → ⊥) × Grew before.written now.written (d.report bytes)

-- Of the first items so many may have a block: unless nothing is left to read, only those that are settled, so that no game that was cut
-- off and no half line is judged.
abbrev pub AreWhole : Bool → Outside → ℕ → ℕ → Type 0
AreWhole reads now settled count = (count ≤ settled) ⊎ HasReadAll reads now

-- some bytes were taken, and their report was begun: it was cut in a block, and nothing was read that was not needed for it, or somewhere once
-- all was read
abbrev pub Begins : Demand → Outside → Outside → Type 0
Begins d before now =
    (bytes : List ℕ) × Takes d.reads before now bytes
    × Grew before.written now.written (λ out. d.cut (λ count. AreWhole d.reads now (d.settled bytes) count × TookAsNeeded d.settled bytes (count - 1)) bytes out
    ⊎ (HasReadAll d.reads now × ((whole : List ℕ) × d.report bytes whole × IsFront out whole)))

-- some bytes were taken, and whole blocks alone were written, so many at least; nothing was read that was not needed for one more
abbrev pub BeginsWhole : Demand → (List ℕ → ℕ) → Outside → Outside → Type 0
BeginsWhole d least before now =
    (bytes : List ℕ) × Takes d.reads before now bytes
    × Grew before.written now.written (d.blocks (λ count. (least bytes ≤ count) × AreWhole d.reads now (d.settled bytes) count × TookAsNeeded d.settled bytes count) bytes)

-- What was read and written for an order, by the status of the run: its whole report on Done and NotAccepted, a front of it where
-- the sink failed, and whole blocks of it where anything else failed. No game that was cut off has a block, and where the source failed,
-- no game that is settled is left out. Where a run fails before all was read, each item that is settled in what was taken before the last
-- piece has its block.
-- Words that order something never end in Usage.
abbrev pub Ended : Demand → Status → Outside → Outside → Type 0
Ended d Done before now = Reports d before now
Ended d NotAccepted before now = Refuses d before now
Ended d WriteFault before now = Begins d before now
Ended d ReadFault before now = BeginsWhole d d.settled before now
Ended d TooLong before now = BeginsWhole d (λ _. 0) before now
Ended d NoMemory before now = BeginsWhole d (λ _. 0) before now
Ended d Usage before now = ⊥

-- What is true of a run, by what its order asks: what was read and written; that a reading that fails or is too long comes only where the
-- order reads; that a fault comes only where its object failed in this run;
-- that a run is too long exactly where more bytes were taken than an input may have, which is then by at most 4,096, and never
-- where the source has no more to give; and that counts of faults never fall.
pub record IsRunOf (d : Demand) (status : Status) (before now : Outside) : Type 0 where
  pub ended : Ended d status before now
  pub reads : (status ≡ ReadFault) ⊎ (status ≡ TooLong) → d.reads ≡ true
  pub read_fault : status ≡ ReadFault → Rose before.read_faults now.read_faults
  pub write_fault : status ≡ WriteFault → Rose before.write_faults now.write_faults
  pub too_long : status ≡ TooLong → Took before.left now.left (λ taken. (most_bytes < length taken) × (length taken ≤ most_bytes + 4096))
  pub not_too_long : status ≢ TooLong → Took before.left now.left (λ taken. length taken ≤ most_bytes)
  pub never_too_long : (bytes : List ℕ) → before.left ≡ Some bytes → length bytes ≤ most_bytes → status ≢ TooLong
  pub source_later : before.read_faults ≤ now.read_faults
  pub sink_later : before.write_faults ≤ now.write_faults
