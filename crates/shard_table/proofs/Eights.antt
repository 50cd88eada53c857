-- What is done to each of the eight in turn.
use Rattle.std.proofs.Common.{◌≡◌, ◌≢◌, ◌∙◌, refl, sym, ap, subst, ℕ, zero, suc, ◌+◌, ◌<◌, List, [], ◌∷◌, length, Some, slice_get, slice_index_or, arith}
use Rattle.std.proofs.lemmas.Option.{same_Some}
use Rattle.std.specs.Bool.{⊤}
use Rattle.turn_cell.specs.Histories.{IsLegalHistory}
use Rattle.turn_cell.specs.Passes.{SplitOff, Joined, start, seen, splits, joins, IsOf, IsFirst}
use Rattle.shard_table.proofs.PassAt.{pass_get}
use Rattle.shard_table.specs.ShardRows.{Rows}
use Rattle.shard_table.specs.Shards.{ShardStep, empty}
use Rattle.shard_table.specs.Tables.{ShardPass, pass_at, seen_at, IsOfTable, IsFirstPass, splits_of, joins_of}
use Rattle.shard_table.specs.declared.table.Table.{Table}
use Rattle.shard_table.specs.declared.table.TablePass.{TablePass}

-- a fact of each member and its place
module _ {A : Type 0} (Q : ℕ → A → Type 0) where
  abbrev pub Holds : ℕ → List A → Type 0
  Holds i [] = ⊤
  Holds i (x ∷ xs) = Q i x × Holds (suc i) xs

  held_at : (i : ℕ) (xs : List A) → Holds i xs → (k : ℕ) (x : A) → slice_get xs k ≡ Some x → Q (i + k) x
  held_at i [] h k x e = cc
  held_at i (y ∷ ys) h zero x e = subst (λ n. Q n x) (let s : i ≡ i + 0 = omega arith in s) (subst (λ z. Q i z) (same_Some y x e) h.0)
  held_at i (y ∷ ys) h (suc k) x e = subst (λ n. Q n x) (let s : suc i + k ≡ i + suc k = omega arith in s) (held_at (suc i) ys h.1 k x e)

  pub held : (xs : List A) → Holds 0 xs → (k : ℕ) (x : A) → slice_get xs k ≡ Some x → Q k x
  held xs h k x e = subst (λ n. Q n x) (let s : 0 + k ≡ k = omega arith in s) (held_at 0 xs h k x e)

-- a list whose members are at their places is that list
module _ {A : Type 0} where
  pub are_same : (xs ys : List A) → length xs ≡ length ys → ((k : ℕ) (y : A) → slice_get ys k ≡ Some y → y ≡ slice_index_or xs k y) → xs ≡ ys
  are_same [] [] l at = refl
  are_same [] (y ∷ ys) l at = absurd (omega (arith, l))
  are_same (x ∷ xs) [] l at = absurd (omega (arith, l))
  are_same (x ∷ xs) (y ∷ ys) l at =
      let head : y ≡ x = at 0 y refl in
      let rest = are_same xs ys (omega (arith, l)) (λ k z e. at (suc k) z e) in
      λ i. sym head i ∷ rest i

-- a fact of each two at one place
module _ {A B : Type 0} (Q : A → B → Type 0) where
  abbrev pub Two : List A → List B → Type 0
  Two [] ys = ⊤
  Two (x ∷ xs) [] = ⊤
  Two (x ∷ xs) (y ∷ ys) = Q x y × Two xs ys

  pub held_two : (xs : List A) (ys : List B) → Two xs ys → (k : ℕ) (x : A) (y : B) → slice_get xs k ≡ Some x → slice_get ys k ≡ Some y → Q x y
  held_two [] ys h k x y e f = cc
  held_two (a ∷ xs) [] h k x y e f = cc
  held_two (a ∷ xs) (b ∷ ys) h zero x y e f = subst (λ z. Q z y) (same_Some a x e) (subst (λ z. Q a z) (same_Some b y f) h.0)
  held_two (a ∷ xs) (b ∷ ys) h (suc k) x y e f = held_two xs ys h.1 k x y e f

-- a fact at each of the first numbers
module _ (Q : ℕ → Type 0) where
  abbrev pub Upwards : ℕ → ℕ → Type 0
  Upwards i zero = ⊤
  Upwards i (suc n) = Q i × Upwards (suc i) n

  below_at : (i n : ℕ) → Upwards i n → (k : ℕ) → k < n → Q (i + k)
  below_at i zero h k lt = absurd (omega (arith, lt))
  below_at i (suc n) h zero lt = subst Q (let e : i ≡ i + 0 = omega arith in e) h.0
  below_at i (suc n) h (suc k) lt = subst Q (let e : suc i + k ≡ i + suc k = omega arith in e) (below_at (suc i) n h.1 k (omega (arith, lt)))

  pub below : (n : ℕ) → Upwards 0 n → (k : ℕ) → k < n → Q k
  below n h k lt = subst Q (let e : 0 + k ≡ k = omega arith in e) (below_at 0 n h k lt)

-- what is seen at i and behind it changes in turn as P says, each beside one of the passes X, and each without the others
module _ {A : Type 0} (at : TablePass → ℕ → A) (P : A → A → ShardPass → Type 0) (X : ℕ → ShardPass) where
  abbrev pub Steps : ℕ → ℕ → TablePass → TablePass → Type 0
  Steps i zero s t = s ≡ t
  Steps i (suc n) s t = (m : TablePass) × P (at s i) (at m i) (X i) × ((j : ℕ) → j ≢ i → at m j ≡ at s j) × Steps (suc i) n m t

  stay : (i n : ℕ) (s t : TablePass) → Steps i n s t → (k : ℕ) → k < i → at t k ≡ at s k
  stay i zero s t h k lt = ap (λ x. at x k) (sym h)
  stay i (suc n) s t h k lt = stay (suc i) n h.0 t h.3 k (omega (arith, lt)) ∙ h.2 k (λ e. omega (arith, lt, e))

  stepped_at : (i n : ℕ) (s t : TablePass) → Steps i n s t → (k : ℕ) → k < n → P (at s (i + k)) (at t (i + k)) (X (i + k))
  stepped_at i zero s t h k lt = absurd (omega (arith, lt))
  stepped_at i (suc n) s t h zero lt =
      subst (λ n. P (at s n) (at t n) (X n)) (let e : i ≡ i + 0 = omega arith in e)
      (subst (λ v. P (at s i) v (X i)) (sym (stay (suc i) n h.0 t h.3 i (omega arith))) h.1)
  stepped_at i (suc n) s t h (suc k) lt =
      let on = stepped_at (suc i) n h.0 t h.3 k (omega (arith, lt)) in
      let same : at h.0 (suc i + k) ≡ at s (suc i + k) = h.2 (suc i + k) (λ e. omega (arith, e)) in
      subst (λ n. P (at s n) (at t n) (X n)) (let e : suc i + k ≡ i + suc k = omega arith in e)
      (subst (λ v. P v (at t (suc i + k)) (X (suc i + k))) same on)

  pub stepped : (s t : TablePass) → Steps 0 8 s t → (k : ℕ) → k < 8 → P (at s k) (at t k) (X k)
  stepped s t h k lt = subst (λ n. P (at s n) (at t n) (X n)) (let e : 0 + k ≡ k = omega arith in e) (stepped_at 0 8 s t h k lt)

abbrev pub JoinsTo : ShardPass → ShardPass → ShardPass → Type 0
JoinsTo old new other = Joined old other new

-- the first pass stays the first
pub split_first : (old new : TablePass) (others : ℕ → ShardPass) → IsFirstPass old → ((k : ℕ) → k < 8 → SplitOff (pass_at old k) (pass_at new k) (others k)) → IsFirstPass new
unfolding IsFirstPass
split_first old new others first split k lt =
    let a = split k lt in let z = split 0 (omega arith) in let o = first k lt in
    (a.same.0 ∙ o.0, a.splits ∙ (ap (λ n. n + 1) o.1 ∙ sym z.splits), a.same.3 ∙ (o.2 ∙ sym z.same.3))

pub join_first : (old new : TablePass) (others : ℕ → ShardPass) → IsFirstPass old → ((k : ℕ) → k < 8 → Joined (pass_at old k) (others k) (pass_at new k)) → IsFirstPass new
unfolding IsFirstPass
join_first old new others first joined k lt =
    let a = joined k lt in let z = joined 0 (omega arith) in let o = first k lt in
    (a.same.0 ∙ o.0, a.same.1 ∙ (o.1 ∙ sym z.same.1), a.joins ∙ (ap (λ n. n + 1) o.2 ∙ sym z.joins))

module _ (table : Table) (pass : TablePass) (k : ℕ) (cell : _) (p : _) (at_cell : slice_get table.cells k ≡ Some cell) (at_pass : slice_get pass.passes k ≡ Some p) where
  -- where as many passes were taken back as were split off, the first pass is alone at each shard
  pub alone_at : IsOfTable table pass → IsFirstPass pass → joins_of pass ≡ splits_of pass → k < 8 → IsOf cell p × IsFirst p × (joins p ≡ splits p)
  unfolding IsOfTable IsFirstPass
  alone_at of first even lt =
      let v = pass_get pass.passes k p at_pass in
      let f = first k lt in
      (of k cell p at_cell at_pass, ap (λ x. x.number) v ∙ f.0, ap (λ x. x.joins) v ∙ (f.2 ∙ (even ∙ (sym f.1 ∙ sym (ap (λ x. x.splits) v)))))

  pub replayed_at : (shard : Rows) → IsLegalHistory ShardStep (start cell) (seen p) shard → IsLegalHistory ShardStep (empty table.entries) (seen_at pass k) shard
  replayed_at shard legal =
      subst (λ s. IsLegalHistory ShardStep s (seen_at pass k) shard) (table.starts k cell at_cell)
      (subst (λ v. IsLegalHistory ShardStep (start cell) v.seen shard) (pass_get pass.passes k p at_pass) legal)
