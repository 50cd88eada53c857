-- Workers that are hired when they are first called on.
use Rattle.std.proofs.Common.{◌≡◌, ◌∙◌, ℕ, ◌<◌, Bool, true, false, List, [], length, Option, Some, None, refl, sym, ap, subst}
use Rattle.cha_moves.specs.Step.{Move}
use Rattle.cha_fact.specs.Entries.{Entry}
use Rattle.shard_table.specs.ShardRows.{Rows}
use Rattle.shard_table.specs.declared.table.Table.{Table}
use Rattle.shard_table.specs.declared.table.TablePass.{TablePass}
use Rattle.root_workers.specs.declared.task.RoundTask.{RoundTask}
use Rattle.root_workers.specs.declared.work.Work.{Work}
use Rattle.root_workers.specs.declared.hired.Hired.{Hired}
use Rattle.root_workers.specs.declared.staff.Staff.{Staff}
use Rattle.root_workers.specs.Shares.{IsRefused, IsShare, ShareCalls, AllGrowTo}
use Rattle.root_workers.specs.Crews.{IsCrew, CrewMakes, LeavesWork}
use Rattle.root_workers.specs.Making.{crew_makes_none}
use Rattle.root_workers.specs.Hiring.{IsHired, IsFreshlyHired, HiredMakes, HiredLater, hired_count, staff_count, HiredLeave, StaffLeaves, is_refused, IsStaff, StaffMakes, IsUnhired, StaffEnds}
use Rattle.root_workers.specs.Hirings.{staff_both}
use Rattle.root_workers.specs.Histories.{EndsAsOne, DidAsOne}
use Rattle.root_workers.proofs.Crewing.{shares_done, calls_done_by, grow_done, AreDone}
use Rattle.root_workers.proofs.Partaking.{did_nothing, did_as_one}
use Rattle.root_workers.proofs.Refusing.{refused_share, refused_calls}

-- a table and a crew were made
pub just_hired : (s : Staff) (h : Hired) → s.hired ≡ None → IsHired s.count s.entries h → IsFreshlyHired h → (i : ℕ) → StaffMakes i s [] (record { count = s.count; entries = s.entries; hired = Some h; idle = s.idle })
just_hired s h none is fresh i = record {
  count = is.workers ∙ ap (λ x. hired_count s.count x) (sym none);
  size = (refl, refl);
  refused = λ e. e;
  made = λ e. (
      let P : Option Hired → Type 0 = λ x. HiredLater s.count s.entries i x [] (Some h) in
      subst P (sym none) (h, is, fresh, record { table = refl; pass = refl; crew = crew_makes_none i h.crew.items }));
}

-- memory was refused, and then nothing is said of the calls
pub when_refused : (i : ℕ) (a b : Staff) (xs ys : List Entry) → StaffMakes i a xs b → is_refused b ≡ true → StaffMakes i a ys b
when_refused i a b xs ys makes is = record { count = makes.count; size = makes.size; refused = makes.refused; made = λ e. cc }

-- who is hired did something
hired_does : (i : ℕ) (b : Staff) (old new : Hired) (xs : List Entry) → b.hired ≡ Some old → HiredMakes i old xs new → StaffMakes i b xs (record { count = b.count; entries = b.entries; hired = Some new; idle = b.idle })
hired_does i b old new xs is makes = record {
  count = makes.crew.same ∙ ap (λ x. hired_count b.count x) (sym is);
  size = (refl, refl);
  refused = λ e. e;
  made = λ e. (
      let P : Option Hired → Type 0 = λ x. HiredLater b.count b.entries i x xs (Some new) in
      subst P (sym is) makes);
}

pub after_hiring : (i : ℕ) (a b : Staff) (old new : Hired) (xs : List Entry) → StaffMakes i a [] b → b.hired ≡ Some old → HiredMakes i old xs new → StaffMakes i a xs (record { count = b.count; entries = b.entries; hired = Some new; idle = b.idle })
after_hiring i a b old new xs begun is makes = staff_both i a b (record { count = b.count; entries = b.entries; hired = Some new; idle = b.idle }) [] xs begun (hired_does i b old new xs is makes)

-- as many as there were to be
pub hired_as_many : (a b : Staff) (old : Hired) (i : ℕ) (xs : List Entry) → StaffMakes i a xs b → b.hired ≡ Some old → length old.crew.items ≡ staff_count a
hired_as_many a b old i xs makes is = ap (λ x. hired_count b.count x) (sym is) ∙ makes.count

pub leaves_hired : (s : Staff) (h : Hired) (i : ℕ) (w : Work) → s.hired ≡ Some h → LeavesWork h.crew.items i w → StaffLeaves s i w
leaves_hired s h i w is left = (let P : Option Hired → Type 0 = λ x. HiredLeave s.idle x i w in subst P (sym is) left)

pub hired_leaves : (s : Staff) (h : Hired) (i : ℕ) (w : Work) → s.hired ≡ Some h → StaffLeaves s i w → LeavesWork h.crew.items i w
hired_leaves s h i w is left = (let P : Option Hired → Type 0 = λ x. HiredLeave s.idle x i w in subst P is left)

pub leaves_idle : (s : Staff) (i : ℕ) (w : Work) → s.hired ≡ None → StaffLeaves s i w → w ≡ s.idle
leaves_idle s i w is left = (let P : Option Hired → Type 0 = λ x. HiredLeave s.idle x i w in subst P is left)

pub crew_of : (s : Staff) (h : Hired) → IsStaff s → s.hired ≡ Some h → IsCrew h.table h.crew.items
crew_of s h is at = (is.hired h at).crew

-- where nobody is hired a round leaves nothing
refused_idle : (s : Staff) → IsStaff s → is_refused s ≡ true → IsRefused s.idle
refused_idle s is refused = (is.idle.0, is.idle.1, is.idle.2, refused)

pub idle_share : (s : Staff) → IsStaff s → s.hired ≡ None → is_refused s ≡ true → (task : RoundTask) (moves : List Move) (i count : ℕ) (w : Work) → StaffLeaves s i w → IsShare task moves i count w
idle_share s is none refused task moves i count w left = refused_share s.idle w (refused_idle s is refused) (leaves_idle s i w none left) task moves i count

pub idle_calls : (a b : Staff) (i : ℕ) → StaffMakes i a [] b → b.hired ≡ None → is_refused b ≡ true → (task : RoundTask) (moves : List Move) (count : ℕ) (w : Work) → StaffLeaves b i w → ShareCalls (StaffMakes i) a b task moves i count w
idle_calls a b i makes none refused task moves count w left = refused_calls (StaffMakes i) a b makes b.idle w refused (leaves_idle b i w none left) task moves i count

pub all_idle : (a b : Staff) (depth count : ℕ) → ((i : ℕ) → StaffMakes i a [] b) → AllGrowTo depth StaffMakes a b count
unfolding AllGrowTo
all_idle a b depth count makes i less = ([], makes i, (λ few. refl))

-- a round of those who are hired
module _ (task : RoundTask) (moves : List Move) (a b : Staff) (old new : Hired) (begun : (i : ℕ) → StaffMakes i a [] b) (is : b.hired ≡ Some old)
    (crew : IsCrew old.table old.crew.items) (table : new.table ≡ old.table) (pass : new.pass ≡ old.pass) (same : length new.crew.items ≡ length old.crew.items)
    (done : AreDone old.table task moves old.crew.items new.crew.items) where
  abbrev later : Staff
  later = record { count = b.count; entries = b.entries; hired = Some new; idle = b.idle }

  many : length old.crew.items ≡ staff_count a
  many = hired_as_many a b old 0 [] (begun 0) is

  lift : (i : ℕ) (xs : List Entry) → CrewMakes i old.crew.items xs new.crew.items → StaffMakes i a xs later
  lift i xs made = after_hiring i a b old new xs (begun i) is (record { table = table; pass = pass; crew = made })

  pub hired_count_stays : length new.crew.items ≡ staff_count a
  hired_count_stays = same ∙ many

  pub hired_shares : (i : ℕ) (work : Work) → i < staff_count a → LeavesWork new.crew.items i work → IsShare task moves i (staff_count a) work
  hired_shares i work less left =
      let P : ℕ → Type 0 = λ n. i < n in
      let Q : ℕ → Type 0 = λ n. IsShare task moves i n work in
      subst Q many (shares_done old.table task moves old.crew.items new.crew.items crew same done i work (subst P (sym many) less) left)

  pub hired_calls : (i : ℕ) (work : Work) → i < staff_count a → LeavesWork new.crew.items i work → ShareCalls (StaffMakes i) a later task moves i (staff_count a) work
  hired_calls i work less left =
      let P : ℕ → Type 0 = λ n. i < n in
      let Q : ℕ → Type 0 = λ n. ShareCalls (StaffMakes i) a later task moves i n work in
      subst Q many (calls_done_by old.table task moves StaffMakes a later old.crew.items new.crew.items crew same done lift i work (subst P (sym many) less) left)

  pub hired_grow : AllGrowTo task.depth StaffMakes a later (staff_count a)
  hired_grow =
      let Q : ℕ → Type 0 = λ n. AllGrowTo task.depth StaffMakes a later n in
      subst Q many (grow_done old.table task moves StaffMakes a later old.crew.items new.crew.items same done lift)

-- what a staff did that began with nobody
ended_by : (count entries : ℕ) (begun ended : Option Hired) (xs : List Entry) (left : Option (List Rows)) → begun ≡ None → HiredLater count entries 0 begun xs ended → StaffEnds ended left → DidAsOne count entries
ended_by count entries (Some begun) ended xs left none later ends = cc
ended_by count entries None None xs left none later ends = did_nothing count entries
ended_by count entries None (Some ended) xs None none later ends = absurd ends
ended_by count entries None (Some ended) xs (Some shards) none later ends =
    let b = later.0 in
    let T : Table → Type 0 = λ t. EndsAsOne t ended.pass ended.crew.items shards in
    let P : TablePass → Type 0 = λ p. EndsAsOne b.table p ended.crew.items shards in
    did_as_one count entries b.table b.pass b.crew.items ended.crew.items xs shards later.1.rows later.1.workers later.2.each later.3.crew (subst P later.3.pass (subst T later.3.table ends))

pub staff_did : (count entries : ℕ) (begun ended : Staff) (xs : List Entry) (left : Option (List Rows)) → IsUnhired count entries begun → IsStaff ended → StaffMakes 0 begun xs ended → StaffEnds ended.hired left → DidAsOne count entries
staff_did count entries begun ended xs left new is makes ends = by_refusal (is_refused ended) refl
  where
    sized : DidAsOne begun.count begun.entries → DidAsOne count entries
    sized did =
        let P : ℕ → Type 0 = λ n. DidAsOne n begun.entries in
        let Q : ℕ → Type 0 = λ n. DidAsOne count n in
        subst Q new.size.1 (subst P new.size.0 did)

    by_refusal : (r : Bool) → is_refused ended ≡ r → DidAsOne count entries
    by_refusal true refused = did_nothing count entries
    by_refusal false free = sized (ended_by begun.count begun.entries begun.hired ended.hired xs left new.none (makes.made free) ends)
