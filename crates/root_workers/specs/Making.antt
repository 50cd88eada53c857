-- No entries, and the entries of two times, made by a worker of a crew.
use Rattle.std.specs.Prelude.{◌≡◌, ℕ, ◌<◌, List, [], ◌∷◌, ◌++◌, length, slice_index_or}
use Rattle.std.proofs.Common.{refl, sym, subst, ◌∙◌, arith}
use Rattle.std.proofs.lemmas.List.{get_or_default}
use Rattle.shard_table.specs.Makes.{Makes}
use Rattle.cha_fact.specs.Entries.{Entry}
use Rattle.shard_table.specs.Making.{makes_none, makes_both}
use Rattle.root_workers.specs.declared.work.Worker.{Worker}
use Rattle.root_workers.specs.Shares.{AllGrow}
use Rattle.root_workers.specs.Crews.{CrewMakes}

pub crew_makes_none : (i : ℕ) (crew : List Worker) → CrewMakes i crew [] crew
crew_makes_none i crew = record {
  own = λ d lt. makes_none (slice_index_or crew i d).pass;
  each = λ j d lt. ([], makes_none (slice_index_or crew j d).pass);
  same = refl;
}

pub crew_makes_both : (i : ℕ) (a b c : List Worker) (xs ys : List Entry) → CrewMakes i a xs b → CrewMakes i b ys c → CrewMakes i a (xs ++ ys) c
crew_makes_both i a b c xs ys one two =
    let P : ℕ → ℕ → Type 0 = λ j n. j < n in record {
      own = λ d lt. makes_both (slice_index_or a i d).pass (slice_index_or b i d).pass (slice_index_or c i d).pass xs ys (one.own d lt) (two.own d (subst (P i) (sym one.same) lt));
      each = λ j d lt. (
          let x = one.each j d lt in
          let y = two.each j d (subst (P j) (sym one.same) lt) in
          (x.0 ++ y.0, makes_both (slice_index_or a j d).pass (slice_index_or b j d).pass (slice_index_or c j d).pass x.0 y.0 x.1 y.1));
      same = two.same ∙ one.same;
    }

-- where each worker makes the same entries, each makes some
pub grow_alike : {S : Type 0} (made_by : ℕ → S → List Entry → S → Type 0) (a b : S) (count : ℕ) (xs : List Entry) → ((i : ℕ) → made_by i a xs b) → AllGrow made_by a b count
unfolding AllGrow
grow_alike made_by a b count xs made i lt = (xs, made i)

-- what is read of a list does not turn on what stands behind its end
pub at_default : (old new : List Worker) (j : ℕ) (d e : Worker) (xs : List Entry) → j < length old → length new ≡ length old → Makes (slice_index_or old j d).pass xs (slice_index_or new j d).pass → Makes (slice_index_or old j e).pass xs (slice_index_or new j e).pass
at_default old new j d e xs lt same makes =
    let P : ℕ → Type 0 = λ n. j < n in
    let A : Worker → Type 0 = λ x. Makes x.pass xs (slice_index_or new j e).pass in
    let B : Worker → Type 0 = λ x. Makes (slice_index_or old j d).pass xs x.pass in
    subst A (get_or_default old j d e lt) (subst B (get_or_default new j d e (subst P (sym same) lt)) makes)

-- where one worker of a crew made entries, each made some
pub crew_grows : {S : Type 0} (made_by : ℕ → S → List Entry → S → Type 0) (a b : S) (old new : List Worker) (i : ℕ) (xs : List Entry) → CrewMakes i old xs new → ((j : ℕ) (ys : List Entry) → CrewMakes j old ys new → made_by j a ys b) → AllGrow made_by a b (length old)
unfolding AllGrow
crew_grows made_by a b [] new i xs makes lift j lt = absurd (omega (arith, lt))
crew_grows made_by a b (w ∷ ws) new i xs makes lift j lt =
    let one = makes.each j w lt in (
      one.0,
      lift j one.0 (record {
        own = λ d inside. at_default (w ∷ ws) new j w d one.0 lt makes.same one.1;
        each = makes.each;
        same = makes.same;
      }),
    )

pub one_some : 0 < 1
one_some = omega arith
