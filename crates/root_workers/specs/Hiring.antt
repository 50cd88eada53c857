-- A table and a crew that are made when a position first reaches the rounds (this project).
use Rattle.std.specs.Prelude.{◌≡◌, ℕ, ◌+◌, ◌<◌, ◌≤◌, Bool, true, false, ⊤, List, [], length, slice_index_or, Option, Some, None}
use Rattle.cha_fact.specs.Entries.{Entry}
use Rattle.shard_table.specs.ShardRows.{Rows}
use Rattle.shard_table.specs.Tables.{IsOfTable, IsFirstPass, IsNewPass, splits_of, joins_of}
use Rattle.root_workers.specs.declared.work.Work.{Work}
use Rattle.root_workers.specs.declared.work.Worker.{Worker}
use Rattle.root_workers.specs.declared.hired.Hired.{Hired}
use Rattle.root_workers.specs.declared.staff.Staff.{Staff}
use Rattle.root_workers.specs.Crews.{IsCrew, AllKnowWell, CrewMakes, LeavesWork}
use Rattle.root_workers.specs.Histories.{EndsAsOne}

-- So many workers at a table with so many rows for each shard, of which none was dismissed.
pub record IsHired (count entries : ℕ) (hired : Hired) : Type 0 where
  pub rows : hired.table.entries ≡ entries
  pub of : IsOfTable hired.table hired.pass
  pub first : IsFirstPass hired.pass
  pub crew : IsCrew hired.table hired.crew.items
  pub workers : length hired.crew.items ≡ count
  pub out : splits_of hired.pass ≡ joins_of hired.pass + count

-- Nobody has made a call.
pub record IsFreshlyHired (hired : Hired) : Type 0 where
  pub first : IsNewPass hired.pass
  pub each : (i : ℕ) (d : Worker) → i < length hired.crew.items → IsNewPass (slice_index_or hired.crew.items i d).pass

-- From one state to a later one worker i made just these entries, and each worker some.
pub record HiredMakes (i : ℕ) (old : Hired) (entries : List Entry) (new : Hired) : Type 0 where
  pub table : new.table ≡ old.table
  pub pass : new.pass ≡ old.pass
  pub crew : CrewMakes i old.crew.items entries new.crew.items

-- the same where nobody may be hired yet: who is hired since then began with nothing
abbrev pub HiredLater : ℕ → ℕ → ℕ → Option Hired → List Entry → Option Hired → Type 0
HiredLater count entries i None xs None = xs ≡ []
HiredLater count entries i None xs (Some new) = (begun : Hired) × IsHired count entries begun × IsFreshlyHired begun × HiredMakes i begun xs new
HiredLater count entries i (Some old) xs None = ⊥
HiredLater count entries i (Some old) xs (Some new) = HiredMakes i old xs new

-- how many are hired, or will be
abbrev pub hired_count : ℕ → Option Hired → ℕ
hired_count count None = count
hired_count count (Some hired) = length hired.crew.items

abbrev pub staff_count : Staff → ℕ
staff_count staff = hired_count staff.count staff.hired

-- worker i left this work; where nobody is hired each left the one that the staff has
abbrev pub HiredLeave : Work → Option Hired → ℕ → Work → Type 0
HiredLeave idle None i work = work ≡ idle
HiredLeave idle (Some hired) i work = LeavesWork hired.crew.items i work

abbrev pub StaffLeaves : Staff → ℕ → Work → Type 0
StaffLeaves staff i work = HiredLeave staff.idle staff.hired i work

-- what each of those who are hired has seen at each shard is one legal history
abbrev pub StaffKnows : Option Hired → Type 0
StaffKnows None = ⊤
StaffKnows (Some hired) = AllKnowWell hired.table hired.crew.items

-- memory for a table and a crew was refused
abbrev pub is_refused : Staff → Bool
is_refused staff = staff.idle.refused

-- A staff at any time: who is hired is so many at a table with so many rows, and once memory was refused nobody is hired.
pub record IsStaff (staff : Staff) : Type 0 where
  pub some : 1 ≤ staff.count
  pub few : staff.count ≤ 16
  pub rows : (1 ≤ staff.entries) × (staff.entries ≤ 65536)
  pub hired : (hired : Hired) → staff.hired ≡ Some hired → IsHired staff.count staff.entries hired
  pub refused : is_refused staff ≡ true → staff.hired ≡ None
  pub idle : (staff.idle.cleared.items ≡ []) × (staff.idle.mate ≡ None) × (staff.idle.spent ≡ false)

-- From one state of a staff to a later one worker i made just these entries, and each worker some, unless memory was refused.
pub record StaffMakes (i : ℕ) (old : Staff) (entries : List Entry) (new : Staff) : Type 0 where
  pub count : staff_count new ≡ staff_count old
  pub size : (new.count ≡ old.count) × (new.entries ≡ old.entries)
  pub refused : is_refused old ≡ true → is_refused new ≡ true
  pub made : is_refused new ≡ false → HiredLater old.count old.entries i old.hired entries new.hired

-- nobody is hired, and no memory was refused
pub record IsUnhired (count entries : ℕ) (staff : Staff) : Type 0 where
  pub size : (staff.count ≡ count) × (staff.entries ≡ entries)
  pub none : staff.hired ≡ None
  pub unrefused : is_refused staff ≡ false

-- the end of a staff: where workers are hired, their table and they end as one, and these are its shards
abbrev pub StaffEnds : Option Hired → Option (List Rows) → Type 0
StaffEnds None None = ⊤
StaffEnds None (Some shards) = ⊥
StaffEnds (Some hired) None = ⊥
StaffEnds (Some hired) (Some shards) = EndsAsOne hired.table hired.pass hired.crew.items shards
