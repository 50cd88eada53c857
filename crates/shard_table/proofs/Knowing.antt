-- What a pass has seen at each shard is legal, and its own entries there are those that it made.
use Rattle.std.proofs.Common.{◌≡◌, ℕ, zero, suc, ◌<◌, List, [], ◌∷◌, length, Some, slice_get, refl, subst, arith}
use Rattle.turn_cell.specs.Histories.{IsWellKnown}
use Rattle.turn_cell.specs.Passes.{start}
use Rattle.turn_cell.proofs.Knowing.{knows_of}
use Rattle.shard_table.proofs.PassAt.{pass_get}
use Rattle.shard_table.specs.Shards.{ShardStep}
use Rattle.shard_table.specs.Tables.{pass_or, IsOfTable, KnowsWell}
use Rattle.shard_table.specs.declared.table.Table.{Table}
use Rattle.shard_table.specs.declared.table.TablePass.{TablePass}

member : {A : Type 0} (xs : List A) (k : ℕ) → k < length xs → (x : A) × (slice_get xs k ≡ Some x)
member [] k less = absurd (omega (arith, less))
member (x ∷ xs) zero less = (x, refl)
member (x ∷ xs) (suc k) less = member xs k (omega (arith, less))

pub knows_well : (table : Table) (pass : TablePass) → IsOfTable table pass → KnowsWell table pass
unfolding IsOfTable KnowsWell
knows_well table pass of k less =
    let cells = table.eight in
    let passes = pass.eight in
    let cell = member table.cells k (omega (arith, less, cells)) in
    let p = member pass.passes k (omega (arith, less, passes)) in
    subst (λ s. IsWellKnown ShardStep s (pass_or pass.passes k).number (pass_or pass.passes k).seen (pass_or pass.passes k).mine) (table.starts k cell.0 cell.1)
    (subst (λ v. IsWellKnown ShardStep (start cell.0) v.number v.seen v.mine) (pass_get pass.passes k p.0 p.1) (knows_of cell.0 p.0 (of k cell.0 p.0 cell.1 p.1)))
