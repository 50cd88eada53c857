-- A pass at its place among the eight.
use Rattle.std.proofs.Common.{◌≡◌, ◌≢◌, ◌∙◌, refl, sym, ap, subst, ℕ, zero, suc, List, [], ◌∷◌, length, Some, slice_get, slice_index_or, slice_set, ◌<◌, ◌⊎◌, inl, inr, ⊎_elim, arith}
use Rattle.std.proofs.lemmas.Option.{same_Some}
use Rattle.turn_cell.specs.declared.object.Object.{Ghosts}
use Rattle.turn_cell.specs.declared.cells.Pass.{Pass}
use Rattle.turn_cell.specs.declared.cells.TurnCell.{TurnCell}
use Rattle.turn_cell.specs.Histories.{AreTheirs}
use Rattle.turn_cell.specs.Passes.{known, seen, taken, IsOf, Turned}
use Rattle.turn_cell.specs.declared.object.TakenBack.{TakenBack}
use Rattle.cha_fact.specs.declared.calls.FactCall.{FactCall}
use Rattle.cha_fact.specs.declared.calls.FactReply.{FactReply}
use Rattle.shard_table.specs.ShardRows.{Rows}
use Rattle.shard_table.specs.Shards.{ShardStep}
use Rattle.shard_table.specs.Tables.{ShardPass, pass_or, taken_or}

module _ {A : Type 0} where
  pub get_index : (xs : List A) (k : ℕ) (d : A) → k < length xs → slice_get xs k ≡ Some (slice_index_or xs k d)
  get_index [] k d lt = absurd (omega (arith, lt))
  get_index (x ∷ xs) zero d lt = refl
  get_index (x ∷ xs) (suc k) d lt = get_index xs k d (omega (arith, lt))

  get_set : (xs : List A) (k j : ℕ) (a b : A) → slice_get (slice_set xs k a) j ≡ Some b → ((j ≡ k) × (a ≡ b)) ⊎ ((j ≢ k) × (slice_get xs j ≡ Some b))
  get_set [] k j a b e = cc
  get_set (x ∷ xs) zero zero a b e = inl (refl, let f : Some a ≡ Some b = e in cc)
  get_set (x ∷ xs) zero (suc j) a b e = inr ((λ h. omega (arith, h)), e)
  get_set (x ∷ xs) (suc k) zero a b e = inr ((λ h. omega (arith, h)), e)
  get_set (x ∷ xs) (suc k) (suc j) a b e = ⊎_elim (λ h. inl (ap suc h.0, h.1)) (λ h. inr ((λ g. h.0 (let i = g in omega (arith, i))), h.1)) (get_set xs k j a b e)

abbrev pub both : {A B : Type 0} → A → B → A × B
both a b = (a, b)

module _ {G : Ghosts Rows FactCall FactReply} where
  pub pass_index : (ps : List (Pass Rows FactCall FactReply G)) (k : ℕ) (d : Pass Rows FactCall FactReply G) → k < length ps → known (slice_index_or ps k d) ≡ pass_or ps k
  pass_index [] k d lt = absurd (omega (arith, lt))
  pass_index (p ∷ ps) zero d lt = refl
  pass_index (p ∷ ps) (suc k) d lt = pass_index ps k d (omega (arith, lt))

  pass_set : (ps : List (Pass Rows FactCall FactReply G)) (k : ℕ) (q : Pass Rows FactCall FactReply G) → k < length ps → pass_or (slice_set ps k q) k ≡ known q
  pass_set [] k q lt = absurd (omega (arith, lt))
  pass_set (p ∷ ps) zero q lt = refl
  pass_set (p ∷ ps) (suc k) q lt = pass_set ps k q (omega (arith, lt))

  pub pass_get : (ps : List (Pass Rows FactCall FactReply G)) (k : ℕ) (p : Pass Rows FactCall FactReply G) → slice_get ps k ≡ Some p → known p ≡ pass_or ps k
  pass_get [] k p e = cc
  pass_get (q ∷ ps) zero p e = ap known (sym (same_Some q p e))
  pass_get (q ∷ ps) (suc k) p e = pass_get ps k p e

  -- a change of one pass leaves the others
  pub pass_else : (ps : List (Pass Rows FactCall FactReply G)) (k j : ℕ) (q : Pass Rows FactCall FactReply G) → j ≢ k → pass_or (slice_set ps k q) j ≡ pass_or ps j
  pass_else [] k j q apart = refl
  pass_else (p ∷ ps) zero zero q apart = absurd (apart refl)
  pass_else (p ∷ ps) zero (suc j) q apart = refl
  pass_else (p ∷ ps) (suc k) zero q apart = refl
  pass_else (p ∷ ps) (suc k) (suc j) q apart = pass_else ps k j q (λ e. apart (ap suc e))

  -- what a change of one pass says of the pass at its place
  pub both_at : (P : ShardPass → ShardPass → Type 0) (ps : List (Pass Rows FactCall FactReply G)) (k : ℕ) (d q : Pass Rows FactCall FactReply G) → k < length ps
      → P (known (slice_index_or ps k d)) (known q) → P (pass_or ps k) (pass_or (slice_set ps k q) k)
  both_at P ps k d q lt p = subst (λ v. P (pass_or ps k) v) (sym (pass_set ps k q lt)) (subst (λ v. P v (known q)) (pass_index ps k d lt) p)

  -- a turn of the pass at its place, at a cell that began with `start`
  pub turned_at : (start first : Rows) → first ≡ start → (ps : List (Pass Rows FactCall FactReply G)) (k : ℕ) (d q : Pass Rows FactCall FactReply G) (call : FactCall) (reply : FactReply) → k < length ps
      → Turned ShardStep first (known (slice_index_or ps k d)) call reply (known q) → Turned ShardStep start (pass_or ps k) call reply (pass_or (slice_set ps k q) k)
  turned_at start first is ps k d q call reply lt t =
      both_at (λ v w. Turned ShardStep start v call reply w) ps k d q lt (subst (λ s. Turned ShardStep s (known (slice_index_or ps k d)) call reply (known q)) is t)

  taken_index : (ps : List (Pass Rows FactCall FactReply G)) (k : ℕ) (d : Pass Rows FactCall FactReply G) → k < length ps → taken (slice_index_or ps k d) ≡ taken_or ps k
  taken_index [] k d lt = absurd (omega (arith, lt))
  taken_index (p ∷ ps) zero d lt = refl
  taken_index (p ∷ ps) (suc k) d lt = taken_index ps k d (omega (arith, lt))

  taken_set : (ps : List (Pass Rows FactCall FactReply G)) (k : ℕ) (q : Pass Rows FactCall FactReply G) → k < length ps → taken_or (slice_set ps k q) k ≡ taken q
  taken_set [] k q lt = absurd (omega (arith, lt))
  taken_set (p ∷ ps) zero q lt = refl
  taken_set (p ∷ ps) (suc k) q lt = taken_set ps k q (omega (arith, lt))

  taken_else : (ps : List (Pass Rows FactCall FactReply G)) (k j : ℕ) (q : Pass Rows FactCall FactReply G) → j ≢ k → taken_or (slice_set ps k q) j ≡ taken_or ps j
  taken_else [] k j q apart = refl
  taken_else (p ∷ ps) zero zero q apart = absurd (apart refl)
  taken_else (p ∷ ps) zero (suc j) q apart = refl
  taken_else (p ∷ ps) (suc k) zero q apart = refl
  taken_else (p ∷ ps) (suc k) (suc j) q apart = taken_else ps k j q (λ e. apart (ap suc e))

  pub whole_else : (ps : List (Pass Rows FactCall FactReply G)) (k j : ℕ) (q : Pass Rows FactCall FactReply G) → j ≢ k → both (taken_or (slice_set ps k q) j) (pass_or (slice_set ps k q) j) ≡ both (taken_or ps j) (pass_or ps j)
  whole_else ps k j q apart = let a = taken_else ps k j q apart in let b = pass_else ps k j q apart in λ i. both (a i) (b i)

  -- the pass at its place took another one back
  pub taken_both : (ps : List (Pass Rows FactCall FactReply G)) (k : ℕ) (d q : Pass Rows FactCall FactReply G) (x : TakenBack FactCall FactReply) → k < length ps → taken q ≡ x ∷ taken (slice_index_or ps k d) → AreTheirs (taken q) (seen q)
      → (taken_or (slice_set ps k q) k ≡ x ∷ taken_or ps k) × AreTheirs (taken_or (slice_set ps k q) k) (pass_or (slice_set ps k q) k).seen
  taken_both ps k d q x lt grown theirs = (
    taken_set ps k q lt ∙ (grown ∙ ap (λ xs. x ∷ xs) (taken_index ps k d lt)),
    subst (λ v. AreTheirs (taken_or (slice_set ps k q) k) v.seen) (sym (pass_set ps k q lt)) (subst (λ xs. AreTheirs xs (seen q)) (sym (taken_set ps k q lt)) theirs),
  )

  module _ (cells : List (TurnCell Rows FactCall FactReply)) (ps : List (Pass Rows FactCall FactReply G)) (k : ℕ) (d : TurnCell Rows FactCall FactReply) (q : Pass Rows FactCall FactReply G) (lt : k < length cells) where
    -- all eight are of their cells where the one that changed is
    pub of_all : ((j : ℕ) (c : TurnCell Rows FactCall FactReply) (p : Pass Rows FactCall FactReply G) → slice_get cells j ≡ Some c → slice_get ps j ≡ Some p → IsOf c p)
        → IsOf (slice_index_or cells k d) q → (j : ℕ) (c : TurnCell Rows FactCall FactReply) (p : Pass Rows FactCall FactReply G) → slice_get cells j ≡ Some c → slice_get (slice_set ps k q) j ≡ Some p → IsOf c p
    of_all old new j c p e f = ⊎_elim
        (λ h. let there : slice_get cells j ≡ Some (slice_index_or cells k d) = ap (λ i. slice_get cells i) h.0 ∙ get_index cells k d lt in
        let same : c ≡ slice_index_or cells k d = same_Some c (slice_index_or cells k d) (sym e ∙ there) in
        subst (λ x. IsOf x p) (sym same) (subst (λ y. IsOf (slice_index_or cells k d) y) h.1 new))
        (λ h. old j c p e h.1)
        (get_set ps k j q p f)
