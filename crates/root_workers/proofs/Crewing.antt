-- Workers of a crew, one after the other.
use Rattle.std.proofs.Common.{◌≡◌, ◌≢◌, ℕ, zero, suc, ◌+◌, ◌<◌, ◌≤◌, ◌⊎◌, inl, inr, List, [], ◌∷◌, ◌++◌, length, take, drop, slice_set, slice_index_or, refl, sym, ◌∙◌, ap, subst, arith}
use Rattle.std.proofs.lemmas.Bool.{cases_lt}
use Rattle.std.proofs.lemmas.List.{get_or-set_same, get_or-set_other, get_or_default, get_or_append_left, length-append}
use Rattle.std.proofs.Math.Seq.{get_or-append_seam, take-append_seam}
use Rattle.cha_moves.specs.Step.{Move}
use Rattle.cha_fact.specs.Entries.{Entry}
use Rattle.shard_table.specs.Makes.{Makes}
use Rattle.shard_table.specs.Making.{makes_none}
use Rattle.root_workers.specs.Making.{at_default}
use Rattle.shard_table.specs.Tables.{IsOfTable, SplitsAll, splits_of}
use Rattle.shard_table.specs.declared.table.Table.{Table}
use Rattle.shard_table.specs.declared.table.TablePass.{TablePass}
use Rattle.root_workers.specs.declared.task.RoundTask.{RoundTask}
use Rattle.root_workers.specs.declared.work.Work.{Work}
use Rattle.root_workers.specs.declared.work.Worker.{Worker}
use Rattle.root_workers.specs.Shares.{IsShare, ShareCalls, AllGrowTo}
use Rattle.root_workers.specs.Crews.{IsCrew, CrewMakes, LeavesWork, WorkerDone}
use Rattle.root_workers.specs.Splits.{OnlySplits, IsFresh, AreFresh}

-- what all calls keep is kept by a worker's part of a round
pub calls_keep : {S X : Type 0} (made : S → List Entry → S → Type 0) (f : S → X) (a b : S) (task : RoundTask) (moves : List Move) (number count : ℕ) (work : Work)
    → ((xs : List Entry) → made a xs b → f b ≡ f a) → ShareCalls made a b task moves number count work → f b ≡ f a
unfolding ShareCalls
calls_keep made f a b task moves number count work keeps calls = keeps calls.0 calls.1

-- the calls of one place are the calls of another
pub calls_seen : {S T : Type 0} (made : S → List Entry → S → Type 0) (lifted : T → List Entry → T → Type 0) (a b : S) (x y : T) (task : RoundTask) (moves : List Move) (number count : ℕ) (work : Work)
    → ((xs : List Entry) → made a xs b → lifted x xs y) → ShareCalls made a b task moves number count work → ShareCalls lifted x y task moves number count work
unfolding ShareCalls
calls_seen made lifted a b x y task moves number count work lift calls = (calls.0, lift calls.0 calls.1, calls.2, calls.3)

-- one worker was changed, and all others stay
module _ (old : List Worker) (w e : Worker) (entries : List Entry) (some : 0 < length old) (entered : Makes (slice_index_or old 0 e).pass entries w.pass) where
  makes : (d : Worker) → Makes (slice_index_or old 0 d).pass entries w.pass
  makes d = subst (λ (x : Worker). Makes x.pass entries w.pass) (get_or_default old 0 e d some) entered

  at_other : (j : ℕ) (d : Worker) → (j ≡ 0) ⊎ (j ≢ 0) → (more : List Entry) × Makes (slice_index_or old j d).pass more (slice_index_or (slice_set old 0 w) j d).pass
  at_other j d (inl e) =
      let P : ℕ → Type 0 = λ k. (more : List Entry) × Makes (slice_index_or old k d).pass more (slice_index_or (slice_set old 0 w) k d).pass in
      let Q : Worker → Type 0 = λ x. (more : List Entry) × Makes (slice_index_or old 0 d).pass more x.pass in
      subst P (sym e) (subst Q (sym (get_or-set_same old 0 w d some)) (entries, makes d))
  at_other j d (inr apart) =
      let Q : Worker → Type 0 = λ x. (more : List Entry) × Makes (slice_index_or old j d).pass more x.pass in
      subst Q (sym (get_or-set_other old 0 j w d apart)) ([], makes_none (slice_index_or old j d).pass)

  zero_or_not : (j : ℕ) → (j ≡ 0) ⊎ (j ≢ 0)
  zero_or_not zero = inl refl
  zero_or_not (suc j) = inr (λ e. absurd (omega (arith, e)))

  pub first_makes : length (slice_set old 0 w) ≡ length old → CrewMakes 0 old entries (slice_set old 0 w)
  first_makes same = record {
    own = λ d lt. (let Q : Worker → Type 0 = λ x. Makes (slice_index_or old 0 d).pass entries x.pass in subst Q (sym (get_or-set_same old 0 w d some)) (makes d));
    each = λ j d lt. at_other j d (zero_or_not j);
    same = same;
  }

-- workers 0, 1 and so on with passes of a table
pub record AreWorkers (table : Table) (crew : List Worker) : Type 0 where
  pub number : (i : ℕ) (d : Worker) → i < length crew → (slice_index_or crew i d).number ≡ i
  pub of : (i : ℕ) (d : Worker) → i < length crew → IsOfTable table (slice_index_or crew i d).pass

pub no_workers : (table : Table) (crew : List Worker) → crew ≡ [] → AreWorkers table crew
no_workers table crew is =
    subst (λ (ws : List Worker). AreWorkers table ws) (sym is) (record {
      number = λ i d less. absurd (omega (arith, less));
      of = λ i d less. absurd (omega (arith, less));
    })

worker_at : (P : ℕ → Worker → Type 0) (crew : List Worker) (w : Worker) → ((i : ℕ) (d : Worker) → i < length crew → P i (slice_index_or crew i d)) → P (length crew) w → (i : ℕ) (d : Worker) → i < length (crew ++ w ∷ []) → P i (slice_index_or (crew ++ w ∷ []) i d)
worker_at P crew w before here i d less = elim (cases_lt i (length crew)) [
  | inl low ↦ subst (λ (x : Worker). P i x) (sym (get_or_append_left crew (w ∷ []) d i low)) (before i d low)
  | inr high ↦
      let e : length crew ≡ i = (let n = length-append crew (w ∷ []) in omega (arith, less, high, n)) in
      let Q : ℕ → Type 0 = λ k. P k (slice_index_or (crew ++ w ∷ []) k d) in
      subst Q e (subst (λ (x : Worker). P (length crew) x) (sym (get_or-append_seam crew w [] d)) here)
]

pub one_more_worker : (table : Table) (crew : List Worker) (w : Worker) → AreWorkers table crew → w.number ≡ length crew → IsOfTable table w.pass → AreWorkers table (crew ++ w ∷ [])
one_more_worker table crew w before number of = record {
  number = worker_at (λ i x. x.number ≡ i) crew w before.number number;
  of = worker_at (λ i x. IsOfTable table x.pass) crew w before.of of;
}

pub all_workers : (table : Table) (crew : List Worker) (count : ℕ) → AreWorkers table crew → length crew ≡ count → 1 ≤ count → count ≤ 16 → IsCrew table crew
all_workers table crew count workers same some few = record {
  some = omega (arith, same, some);
  few = omega (arith, same, few);
  number = workers.number;
  of = workers.of;
}

-- one more pass was split off
pub one_split : (old new other : TablePass) → SplitsAll old new other → splits_of new ≡ splits_of old + 1
one_split old new other split = (split 0 (omega arith)).splits

-- what the pass knows stays, and the pass that was split off knows it
pub splits_none : (pass : TablePass) → OnlySplits pass pass
splits_none pass = record { seen = λ k low. refl; mine = λ k low. refl; joins = refl }

pub splits_more : (first old new other : TablePass) → OnlySplits first old → SplitsAll old new other → OnlySplits first new
splits_more first old new other before split = record {
  seen = λ k low. (split k low).same.1 ∙ before.seen k low;
  mine = λ k low. (split k low).same.2 ∙ before.mine k low;
  joins = (split 0 (omega arith)).same.3 ∙ before.joins;
}

pub none_fresh : (first : TablePass) (crew : List Worker) → crew ≡ [] → AreFresh first crew
none_fresh first crew is = subst (λ (ws : List Worker). AreFresh first ws) (sym is) (λ i d less. absurd (omega (arith, less)))

pub one_more_fresh : (first old new : TablePass) (crew : List Worker) (w : Worker) → AreFresh first crew → OnlySplits first old → SplitsAll old new w.pass → AreFresh first (crew ++ w ∷ [])
one_more_fresh first old new crew w before only split = worker_at (λ i x. IsFresh first x.pass) crew w before (record {
  seen = λ k low. (split k low).other_seen ∙ only.seen k low;
  mine = λ k low. (split k low).other_mine;
})

-- all workers did their parts of a round
module _ (table : Table) (task : RoundTask) (moves : List Move) where
  abbrev pub AreDone : List Worker → List Worker → Type 0
  AreDone old new = (i : ℕ) (d : Worker) → i < length old → WorkerDone table task moves (length old) (slice_index_or old i d) (slice_index_or new i d)

  pub shares_done : (old new : List Worker) → IsCrew table old → length new ≡ length old → AreDone old new → (i : ℕ) (work : Work) → i < length old → LeavesWork new i work → IsShare task moves i (length old) work
  unfolding LeavesWork
  shares_done [] new crew same done i work less left = absurd (omega (arith, less))
  shares_done (w ∷ ws) new crew same done i work less left =
      let share = (done i w less).share in
      let P : ℕ → Type 0 = λ n. IsShare task moves n (length (w ∷ ws)) work in
      let Q : Work → Type 0 = λ x. IsShare task moves (slice_index_or (w ∷ ws) i w).number (length (w ∷ ws)) x in
      subst P (crew.number i w less) (subst Q (sym (left w (omega (arith, less, same)))) share)

  done_makes : (old new : List Worker) (w : Worker) → length new ≡ length old → AreDone old new → (i : ℕ) (xs : List Entry) → i < length old → Makes (slice_index_or old i w).pass xs (slice_index_or new i w).pass → CrewMakes i old xs new
  unfolding ShareCalls
  done_makes old new w same done i xs less makes = record {
    own = λ d inside. at_default old new i w d xs less same makes;
    each = λ j d inside. (let calls = (done j d inside).calls in (calls.0, calls.1));
    same = same;
  }

  module _ {S : Type 0} (made_by : ℕ → S → List Entry → S → Type 0) (a b : S) where
    pub calls_done_by : (old new : List Worker) → IsCrew table old → length new ≡ length old → AreDone old new → ((i : ℕ) (xs : List Entry) → CrewMakes i old xs new → made_by i a xs b)
        → (i : ℕ) (work : Work) → i < length old → LeavesWork new i work → ShareCalls (made_by i) a b task moves i (length old) work
    unfolding LeavesWork ShareCalls
    calls_done_by [] new crew same done lift i work less left = absurd (omega (arith, less))
    calls_done_by (w ∷ ws) new crew same done lift i work less left =
        let calls = (done i w less).calls in
        let P : ℕ → Type 0 = λ n. ShareCalls (made_by i) a b task moves n (length (w ∷ ws)) work in
        let Q : Work → Type 0 = λ x. ShareCalls (made_by i) a b task moves (slice_index_or (w ∷ ws) i w).number (length (w ∷ ws)) x in
        subst P (crew.number i w less) (subst Q (sym (left w (omega (arith, less, same)))) (calls.0, lift i calls.0 (done_makes (w ∷ ws) new w same done i calls.0 less calls.1), calls.2, calls.3))

    pub grow_done : (old new : List Worker) → length new ≡ length old → AreDone old new → ((i : ℕ) (xs : List Entry) → CrewMakes i old xs new → made_by i a xs b) → AllGrowTo task.depth made_by a b (length old)
    unfolding AllGrowTo ShareCalls
    grow_done [] new same done lift i less = absurd (omega (arith, less))
    grow_done (w ∷ ws) new same done lift i less =
        let calls = (done i w less).calls in
        (calls.0, lift i calls.0 (done_makes (w ∷ ws) new w same done i calls.0 less calls.1), calls.2)

-- what a slice of a whole list comes to is the list
pub written_back : {X : Type 0} (xs ys : List X) (len : ℕ) → len ≡ length ys → take len (ys ++ drop (length ys) xs) ≡ ys
written_back xs ys len same = ap (λ (n : ℕ). take n (ys ++ drop (length ys) xs)) same ∙ take-append_seam ys (drop (length ys) xs)

module _ (table : Table) (task : RoundTask) (moves : List Move) where
  pub done_back : (old items new : List Worker) (len : ℕ) → old ≡ items → len ≡ length items → length new ≡ length old → AreDone table task moves old new
      → (length (take len (new ++ drop (length new) items)) ≡ length items) × AreDone table task moves items (take len (new ++ drop (length new) items))
  done_back old items new len is all same done =
      let b = written_back items new len (all ∙ ap length (sym is) ∙ sym same) in
      let P : List Worker → Type 0 = λ xs. AreDone table task moves xs new in
      let Q : List Worker → Type 0 = λ ys. AreDone table task moves items ys in
      (ap length b ∙ same ∙ ap length is, subst Q (sym b) (subst P is done))
