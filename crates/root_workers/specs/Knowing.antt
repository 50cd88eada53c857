-- What the workers of a crew know at any time.
use Rattle.std.specs.Prelude.{◌≡◌, List, Option, Some, None}
use Rattle.std.proofs.Common.{refl}
use Rattle.shard_table.proofs.Knowing.{knows_well}
use Rattle.shard_table.specs.declared.table.Table.{Table}
use Rattle.root_workers.specs.declared.work.Worker.{Worker}
use Rattle.root_workers.specs.declared.hired.Hired.{Hired}
use Rattle.root_workers.specs.declared.staff.Staff.{Staff}
use Rattle.root_workers.specs.Crews.{IsCrew, AllKnowWell}
use Rattle.root_workers.specs.Hiring.{IsStaff, StaffKnows}

-- what their passes have seen is legal
pub all_know_well : (table : Table) (crew : List Worker) → IsCrew table crew → AllKnowWell table crew
unfolding AllKnowWell
all_know_well table crew is i d less = knows_well table _ (is.of i d less)

hired_know : (a : Option Hired) → ((hired : Hired) → a ≡ Some hired → IsCrew hired.table hired.crew.items) → StaffKnows a
hired_know None crew = tt
hired_know (Some hired) crew = all_know_well hired.table hired.crew.items (crew hired refl)

-- so it is of those who are hired
pub staff_knows : (s : Staff) → IsStaff s → StaffKnows s.hired
staff_knows s is = hired_know s.hired (λ hired at. (is.hired hired at).crew)
