-- No entries, and the entries of two times, made by a staff (this project).
use Rattle.std.specs.Prelude.{◌≡◌, ℕ, ◌<◌, Bool, true, false, List, [], ◌++◌, length, Option, Some, None}
use Rattle.std.proofs.Common.{refl, sym, subst, ◌∙◌, arith}
use Rattle.cha_fact.specs.Entries.{Entry}
use Rattle.root_workers.specs.declared.hired.Hired.{Hired}
use Rattle.root_workers.specs.declared.staff.Staff.{Staff}
use Rattle.root_workers.specs.Shares.{AllGrow}
use Rattle.root_workers.specs.Crews.{CrewMakes}
use Rattle.root_workers.specs.Making.{crew_makes_none, crew_makes_both, crew_grows}
use Rattle.root_workers.specs.Hiring.{IsHired, HiredMakes, HiredLater, hired_count, staff_count, is_refused, IsStaff, StaffMakes}

hired_both : (i : ℕ) (a b c : Hired) (xs ys : List Entry) → HiredMakes i a xs b → HiredMakes i b ys c → HiredMakes i a (xs ++ ys) c
hired_both i a b c xs ys one two = record {
  table = two.table ∙ one.table;
  pass = two.pass ∙ one.pass;
  crew = crew_makes_both i a.crew.items b.crew.items c.crew.items xs ys one.crew two.crew;
}

module _ (count entries i : ℕ) where
  later_none : (a : Option Hired) → HiredLater count entries i a [] a
  later_none None = refl
  later_none (Some hired) = record { table = refl; pass = refl; crew = crew_makes_none i hired.crew.items }

  later_both : (a b c : Option Hired) (xs ys : List Entry) → HiredLater count entries i a xs b → HiredLater count entries i b ys c → HiredLater count entries i a (xs ++ ys) c
  later_both None None c xs ys one two = subst (λ zs. HiredLater count entries i None (zs ++ ys) c) (sym one) two
  later_both None (Some b) None xs ys one two = absurd two
  later_both None (Some b) (Some c) xs ys one two = (one.0, one.1, one.2, hired_both i one.0 b c xs ys one.3 two)
  later_both (Some a) None c xs ys one two = absurd one
  later_both (Some a) (Some b) None xs ys one two = absurd two
  later_both (Some a) (Some b) (Some c) xs ys one two = hired_both i a b c xs ys one two

pub staff_none : (i : ℕ) (s : Staff) → StaffMakes i s [] s
staff_none i s = record { count = refl; size = (refl, refl); refused = λ e. e; made = λ e. later_none s.count s.entries i s.hired }

-- what was not refused at last was not refused before
unrefused : (a b : Bool) → (a ≡ true → b ≡ true) → b ≡ false → a ≡ false
unrefused true b goes is = (let e = goes refl in cc)
unrefused false b goes is = refl

pub staff_both : (i : ℕ) (a b c : Staff) (xs ys : List Entry) → StaffMakes i a xs b → StaffMakes i b ys c → StaffMakes i a (xs ++ ys) c
staff_both i a b c xs ys one two = record {
  count = two.count ∙ one.count;
  size = (two.size.0 ∙ one.size.0, two.size.1 ∙ one.size.1);
  refused = λ e. two.refused (one.refused e);
  made = λ e. (
      let P : ℕ → Type 0 = λ n. HiredLater n b.entries i b.hired ys c.hired in
      let Q : ℕ → Type 0 = λ n. HiredLater a.count n i b.hired ys c.hired in
      later_both a.count a.entries i a.hired b.hired c.hired xs ys (one.made (unrefused (is_refused b) (is_refused c) two.refused e)) (subst Q one.size.1 (subst P one.size.0 (two.made e))));
}

crew_each : (i : ℕ) (old new : Hired) (xs : List Entry) → HiredMakes i old xs new → (j : ℕ) → j < length old.crew.items → (ys : List Entry) × HiredMakes j old ys new
unfolding AllGrow
crew_each i old new xs makes j less =
    let one = crew_grows CrewMakes old.crew.items new.crew.items old.crew.items new.crew.items i xs makes.crew (λ k ys more. more) j less in
    (one.0, record { table = makes.table; pass = makes.pass; crew = one.1 })

later_grows : (count entries i : ℕ) (a b : Option Hired) (xs : List Entry) → HiredLater count entries i a xs b → (j : ℕ) → j < hired_count count a → (ys : List Entry) × HiredLater count entries j a ys b
later_grows count entries i None None xs made j less = ([], refl)
later_grows count entries i None (Some new) xs made j less =
    let one = crew_each i made.0 new xs made.3 j (subst (λ n. j < n) (sym made.1.workers) less) in
    (one.0, (made.0, made.1, made.2, one.1))
later_grows count entries i (Some old) None xs made j less = absurd made
later_grows count entries i (Some old) (Some new) xs made j less = crew_each i old new xs made j less

-- where one worker made entries, each made some
pub staff_grows : {S : Type 0} (made_by : ℕ → S → List Entry → S → Type 0) (a b : S) (old new : Staff) (i : ℕ) (xs : List Entry) → StaffMakes i old xs new → ((j : ℕ) (ys : List Entry) → StaffMakes j old ys new → made_by j a ys b) → AllGrow made_by a b (staff_count old)
unfolding AllGrow
staff_grows made_by a b old new i xs makes lift j less = grown (is_refused new) refl
  where
    grown : (r : Bool) → is_refused new ≡ r → (ys : List Entry) × made_by j a ys b
    grown true is = ([], lift j [] (record { count = makes.count; size = makes.size; refused = makes.refused; made = λ e. cc }))
    grown false is =
        let one = later_grows old.count old.entries i old.hired new.hired xs (makes.made is) j less in
        (one.0, lift j one.0 (record { count = makes.count; size = makes.size; refused = makes.refused; made = λ e. one.1 }))

-- there is a worker
some_hired : (count entries : ℕ) (a : Option Hired) → 0 < count → ((hired : Hired) → a ≡ Some hired → IsHired count entries hired) → 0 < hired_count count a
some_hired count entries None some of = some
some_hired count entries (Some hired) some of = (of hired refl).crew.some

pub staff_some : (s : Staff) → IsStaff s → 0 < staff_count s
staff_some s is = some_hired s.count s.entries s.hired (let some = is.some in omega (arith, some)) is.hired
