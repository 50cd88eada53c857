use Rattle.std.proofs.Common.{ap, arith, slice_get, [], ◌∷◌}
use Rattle.turn_cell.specs.Histories.{IsLegalHistory}
use Rattle.shard_table.specs.Shards.{ShardStep, empty}
use Rattle.shard_table.specs.Tables.{seen_at}
use Rattle.shard_table.proofs.Eights.{held, alone_at, replayed_at}
use Rattle.shard_table.proofs.passes.close_each.Goals as goal

pub close_one-requires : goal.close_one-requires
close_one-requires c = alone_at c.args.table c.args.pass 0 c.into_cells-cells.result.first c.into_passes-passes.result.first (ap (λ xs. slice_get xs 0) c.into_cells-cells.ensures) (ap (λ xs. slice_get xs 0) c.into_passes-passes.ensures) c.requires.of c.requires.first c.requires.alone (omega arith)

pub close_one-requires-2 : goal.close_one-requires-2
close_one-requires-2 c = alone_at c.args.table c.args.pass 1 c.into_cells-cells.result.second c.into_passes-passes.result.second (ap (λ xs. slice_get xs 1) c.into_cells-cells.ensures) (ap (λ xs. slice_get xs 1) c.into_passes-passes.ensures) c.requires.of c.requires.first c.requires.alone (omega arith)

pub close_one-requires-3 : goal.close_one-requires-3
close_one-requires-3 c = alone_at c.args.table c.args.pass 2 c.into_cells-cells.result.third c.into_passes-passes.result.third (ap (λ xs. slice_get xs 2) c.into_cells-cells.ensures) (ap (λ xs. slice_get xs 2) c.into_passes-passes.ensures) c.requires.of c.requires.first c.requires.alone (omega arith)

pub close_one-requires-4 : goal.close_one-requires-4
close_one-requires-4 c = alone_at c.args.table c.args.pass 3 c.into_cells-cells.result.fourth c.into_passes-passes.result.fourth (ap (λ xs. slice_get xs 3) c.into_cells-cells.ensures) (ap (λ xs. slice_get xs 3) c.into_passes-passes.ensures) c.requires.of c.requires.first c.requires.alone (omega arith)

pub close_one-requires-5 : goal.close_one-requires-5
close_one-requires-5 c = alone_at c.args.table c.args.pass 4 c.into_cells-cells.result.fifth c.into_passes-passes.result.fifth (ap (λ xs. slice_get xs 4) c.into_cells-cells.ensures) (ap (λ xs. slice_get xs 4) c.into_passes-passes.ensures) c.requires.of c.requires.first c.requires.alone (omega arith)

pub close_one-requires-6 : goal.close_one-requires-6
close_one-requires-6 c = alone_at c.args.table c.args.pass 5 c.into_cells-cells.result.sixth c.into_passes-passes.result.sixth (ap (λ xs. slice_get xs 5) c.into_cells-cells.ensures) (ap (λ xs. slice_get xs 5) c.into_passes-passes.ensures) c.requires.of c.requires.first c.requires.alone (omega arith)

pub close_one-requires-7 : goal.close_one-requires-7
close_one-requires-7 c = alone_at c.args.table c.args.pass 6 c.into_cells-cells.result.seventh c.into_passes-passes.result.seventh (ap (λ xs. slice_get xs 6) c.into_cells-cells.ensures) (ap (λ xs. slice_get xs 6) c.into_passes-passes.ensures) c.requires.of c.requires.first c.requires.alone (omega arith)

pub close_one-requires-8 : goal.close_one-requires-8
close_one-requires-8 c = alone_at c.args.table c.args.pass 7 c.into_cells-cells.result.eighth c.into_passes-passes.result.eighth (ap (λ xs. slice_get xs 7) c.into_cells-cells.ensures) (ap (λ xs. slice_get xs 7) c.into_passes-passes.ensures) c.requires.of c.requires.first c.requires.alone (omega arith)

pub returns-clause-shards : goal.returns-clause-shards
returns-clause-shards c =
    held (λ k shard. IsLegalHistory ShardStep (empty c.args.table.entries) (seen_at c.args.pass k) shard) (c.close_one.result ∷ c.close_one-2.result ∷ c.close_one-3.result ∷ c.close_one-4.result ∷ c.close_one-5.result ∷ c.close_one-6.result ∷ c.close_one-7.result ∷ c.close_one-8.result ∷ [])
    (replayed_at c.args.table c.args.pass 0 c.into_cells-cells.result.first c.into_passes-passes.result.first (ap (λ xs. slice_get xs 0) c.into_cells-cells.ensures) (ap (λ xs. slice_get xs 0) c.into_passes-passes.ensures) c.close_one.result c.close_one.ensures, (replayed_at c.args.table c.args.pass 1 c.into_cells-cells.result.second c.into_passes-passes.result.second (ap (λ xs. slice_get xs 1) c.into_cells-cells.ensures) (ap (λ xs. slice_get xs 1) c.into_passes-passes.ensures) c.close_one-2.result c.close_one-2.ensures, (replayed_at c.args.table c.args.pass 2 c.into_cells-cells.result.third c.into_passes-passes.result.third (ap (λ xs. slice_get xs 2) c.into_cells-cells.ensures) (ap (λ xs. slice_get xs 2) c.into_passes-passes.ensures) c.close_one-3.result c.close_one-3.ensures, (replayed_at c.args.table c.args.pass 3 c.into_cells-cells.result.fourth c.into_passes-passes.result.fourth (ap (λ xs. slice_get xs 3) c.into_cells-cells.ensures) (ap (λ xs. slice_get xs 3) c.into_passes-passes.ensures) c.close_one-4.result c.close_one-4.ensures, (replayed_at c.args.table c.args.pass 4 c.into_cells-cells.result.fifth c.into_passes-passes.result.fifth (ap (λ xs. slice_get xs 4) c.into_cells-cells.ensures) (ap (λ xs. slice_get xs 4) c.into_passes-passes.ensures) c.close_one-5.result c.close_one-5.ensures, (replayed_at c.args.table c.args.pass 5 c.into_cells-cells.result.sixth c.into_passes-passes.result.sixth (ap (λ xs. slice_get xs 5) c.into_cells-cells.ensures) (ap (λ xs. slice_get xs 5) c.into_passes-passes.ensures) c.close_one-6.result c.close_one-6.ensures, (replayed_at c.args.table c.args.pass 6 c.into_cells-cells.result.seventh c.into_passes-passes.result.seventh (ap (λ xs. slice_get xs 6) c.into_cells-cells.ensures) (ap (λ xs. slice_get xs 6) c.into_passes-passes.ensures) c.close_one-7.result c.close_one-7.ensures, (replayed_at c.args.table c.args.pass 7 c.into_cells-cells.result.eighth c.into_passes-passes.result.eighth (ap (λ xs. slice_get xs 7) c.into_cells-cells.ensures) (ap (λ xs. slice_get xs 7) c.into_passes-passes.ensures) c.close_one-8.result c.close_one-8.ensures, tt))))))))
