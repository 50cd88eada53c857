-- Passes that are taken back one after the other.
use Rattle.std.proofs.Common.{◌≡◌, ℕ, zero, suc, ◌+◌, ◌<◌, List, [], ◌∷◌, ◌++◌, length, slice_index_or, inl, inr, refl, sym, ◌∙◌, ap, subst, arith}
use Rattle.std.proofs.lemmas.List.{length-append, append-nil, append_assoc}
use Rattle.std.proofs.Math.Seq.{get_or-append_seam}
use Rattle.turn_cell.specs.declared.object.Entry.{Entry}
use Rattle.turn_cell.specs.Histories.{entries_of, IsPrefix, IsOneOf, taken_back}
use Rattle.shard_table.specs.Tables.{ShardPass, pass_at, seen_at, mine_at, taken_at, splits_of, joins_of, IsOfTable, KnowsWell, JoinsAll, TakesAll}
use Rattle.shard_table.specs.declared.table.Table.{Table}
use Rattle.shard_table.specs.declared.table.TablePass.{TablePass}
use Rattle.root_workers.specs.declared.work.Worker.{Worker}
use Rattle.root_workers.specs.Crews.{IsCrew}
use Rattle.root_workers.specs.Histories.{IsFront, IsOneHistory}

prefix_both : {C R : Type 0} (xs ys zs : List (Entry C R)) → IsPrefix xs ys → IsPrefix ys zs → IsPrefix xs zs
prefix_both xs ys zs a b = (a.0 ++ b.0, b.1 ∙ (ap (λ z. z ++ b.0) a.1 ∙ append_assoc xs a.0 b.0))

prefix_same : {C R : Type 0} (xs : List (Entry C R)) → IsPrefix xs xs
prefix_same xs = ([], sym (append-nil xs))

-- the pass was taken back, and what it had seen is the beginning of what the first pass knows
pub record Gone (own : ShardPass) (now : TablePass) (k : ℕ) : Type 0 where
  pub taken : IsOneOf (taken_at now k) (taken_back own.number own.mine)
  pub front : IsFront own (pass_at now k)

module _ (old other new : TablePass) (joined : JoinsAll old other new) (takes : TakesAll old other new) (k : ℕ) (low : k < 8) where
  gone_by : (own : ShardPass) → IsOneOf (taken_at new k) (taken_back own.number own.mine) → IsPrefix own.seen (seen_at new k) → Gone own new k
  gone_by own there seen = record { taken = there; front = record { seen = seen; mine = (takes k low).1 (taken_back own.number own.mine) there } }

  this_gone : Gone (pass_at other k) new k
  this_gone = gone_by (pass_at other k) (subst (λ xs. IsOneOf xs (taken_back (pass_at other k).number (mine_at other k))) (sym (takes k low).0) (inl refl)) (joined k low).known_other

  still_gone : (own : ShardPass) → Gone own old k → Gone own new k
  still_gone own gone = gone_by own (subst (λ xs. IsOneOf xs (taken_back own.number own.mine)) (sym (takes k low).0) (inr gone.taken)) (prefix_both own.seen (seen_at old k) (seen_at new k) gone.front.seen (joined k low).known_before)

-- of a crew these workers are left, and the others were taken back
pub record Dismissed (start : TablePass) (crew left : List Worker) (now : TablePass) : Type 0 where
  pub rest : List Worker
  pub parts : crew ≡ left ++ rest
  pub seen : (k : ℕ) → k < 8 → IsPrefix (seen_at start k) (seen_at now k)
  pub mine : (k : ℕ) → k < 8 → mine_at now k ≡ mine_at start k
  pub number : (k : ℕ) → k < 8 → (pass_at now k).number ≡ (pass_at start k).number
  pub splits : splits_of now ≡ splits_of start
  pub joins : joins_of now ≡ joins_of start + length rest
  pub each : (i : ℕ) (d : Worker) → i < length rest → (k : ℕ) → k < 8 → Gone (pass_at (slice_index_or rest i d).pass k) now k

pub none_dismissed : (start : TablePass) (crew : List Worker) → Dismissed start crew crew start
none_dismissed start crew = record {
  rest = [];
  parts = sym (append-nil crew);
  seen = λ k low. prefix_same (seen_at start k);
  mine = λ k low. refl;
  number = λ k low. refl;
  splits = refl;
  joins = omega arith;
  each = λ i d less. absurd (omega (arith, less));
}

-- the next one stands behind those that are left then
next_parts : (crew left rest : List Worker) (w : Worker) (old : List Worker) → crew ≡ old ++ rest → old ≡ left ++ w ∷ [] → crew ≡ left ++ w ∷ rest
next_parts crew left rest w old parts is = parts ∙ (ap (λ xs. xs ++ rest) is ∙ append_assoc left (w ∷ []) rest)

next_of : (table : Table) (crew left rest : List Worker) (w : Worker) → IsCrew table crew → crew ≡ left ++ w ∷ rest → IsOfTable table w.pass
next_of table crew left rest w is parts =
    let size = ap length parts ∙ length-append left (w ∷ rest) in
    subst (λ (x : Worker). IsOfTable table x.pass) (ap (λ xs. slice_index_or xs (length left) w) parts ∙ get_or-append_seam left w rest w) (is.of (length left) w (omega (arith, size)))

module _ (table : Table) (start : TablePass) (crew old left : List Worker) (w : Worker) (mid new : TablePass) (before : Dismissed start crew old mid) (popped : old ≡ left ++ w ∷ []) where
  pub worker_of : IsCrew table crew → IsOfTable table w.pass
  worker_of is = next_of table crew left before.rest w is (next_parts crew left before.rest w old before.parts popped)

  each_gone : JoinsAll mid w.pass new → TakesAll mid w.pass new → (i : ℕ) (d : Worker) → i < length (w ∷ before.rest) → (k : ℕ) → k < 8 → Gone (pass_at (slice_index_or (w ∷ before.rest) i d).pass k) new k
  each_gone joined takes zero d less k low = this_gone mid w.pass new joined takes k low
  each_gone joined takes (suc i) d less k low = still_gone mid w.pass new joined takes k low (pass_at (slice_index_or before.rest i d).pass k) (before.each i d (omega (arith, less)) k low)

  pub one_dismissed : JoinsAll mid w.pass new → TakesAll mid w.pass new → Dismissed start crew left new
  one_dismissed joined takes = record {
    rest = w ∷ before.rest;
    parts = next_parts crew left before.rest w old before.parts popped;
    seen = λ k low. prefix_both (seen_at start k) (seen_at mid k) (seen_at new k) (before.seen k low) (joined k low).known_before;
    mine = λ k low. (joined k low).mine ∙ before.mine k low;
    number = λ k low. (joined k low).same.0 ∙ before.number k low;
    splits = (joined 0 (omega arith)).same.1 ∙ before.splits;
    joins = (let more = (joined 0 (omega arith)).joins in let few = before.joins in omega (arith, more, few));
    each = each_gone joined takes;
  }

pub no_worker : (ws : List Worker) → length ws ≡ 0 → ws ≡ []
no_worker [] none = refl
no_worker (w ∷ ws) none = absurd (omega (arith, none))

pub all_dismissed : (table : Table) (start : TablePass) (crew left : List Worker) (now : TablePass) → Dismissed start crew left now → left ≡ [] → KnowsWell table now → IsOneHistory start crew now
unfolding KnowsWell
all_dismissed table start crew left now done none knows =
    let is : crew ≡ done.rest = done.parts ∙ ap (λ xs. xs ++ done.rest) none in
    subst (λ ws. IsOneHistory start ws now) (sym is) (record {
      first = λ k low. record { seen = done.seen k low; mine = subst (λ n. entries_of n (seen_at now k) ≡ mine_at start k) (done.number k low) ((knows k low).1 ∙ done.mine k low) };
      each = λ i d less k low. (done.each i d less k low).front;
      mine = done.mine;
      splits = done.splits;
      joins = done.joins;
    })
