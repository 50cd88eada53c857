use Rattle.std.proofs.Common.{◌≡◌, true, false, rules, arith}
use Rattle.std.specs.List.Sorted.{IsPartitionPoint}
use Rattle.std.proofs.lemmas.Bool.{ltb-true, ltb-false}
use Rattle.std.proofs.lemmas.List.Sorted.{IsPartitionPoint-from_clause, IsPartitionedBy-ltb}
use lib.Dec.{ltb}
use Rattle.mob_sets.specs.Rows.{Row, row_place}
use Rattle.mob_sets.proofs.Order.{rows_rise}
use Rattle.mob_sets.proofs.tidy_rows.rows_before.Goals as goal
use Rattle.mob_sets.proofs.tidy_rows.rows_before.Goals.{After-partition_point}

cut : (c : After-partition_point) → IsPartitionPoint (λ y. ltb (row_place y) c.args.place ≡ true) (λ y. ltb (row_place y) c.args.place ≡ false) c.args.rows.now c.partition_point.result
cut c =
    IsPartitionPoint-from_clause (λ (row : Row). ltb (row_place row) c.args.place) c.args.rows.now c.partition_point.result c.partition_point.ensures.partitioned (IsPartitionedBy-ltb row_place c.args.rows.now c.args.place (rows_rise c.args.rows.now c.requires)) (λ a r g called. search rules)

pub returns : goal.returns
returns c = record {
  bound = c.partition_point.ensures.bound;
  before = λ k d less. ltb-true _ _ ((cut c).0 k d (omega arith) less);
  after = λ k d low inside. ltb-false _ _ ((cut c).1 k d low inside);
}
