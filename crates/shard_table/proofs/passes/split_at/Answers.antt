use Rattle.std.proofs.Common.{◌∙◌, ◌<◌, sym, ap, subst, arith}
use Rattle.std.proofs.lemmas.Option.{same_Some}
use Rattle.turn_cell.specs.Passes.{SplitOff, IsOf, known}
use Rattle.shard_table.specs.Tables.{IsOfTable}
use Rattle.shard_table.proofs.PassAt.{get_index, pass_index, pass_else, both_at, of_all}
use Rattle.shard_table.proofs.passes.split_at.Goals as goal

pub split-requires-clause-of : goal.split-requires-clause-of
unfolding IsOfTable
split-requires-clause-of c =
    let few = c.requires.shard in
    let a = c.args.table.now.eight in
    let b = c.args.pass.now.eight in
    c.requires.of c.args.shard _ _ (get_index c.args.table.now.cells c.args.shard _ (omega (arith, few, a))) (get_index c.args.pass.now.passes c.args.shard _ (omega (arith, few, b)))

pub split-requires-clause-first : goal.split-requires-clause-first
split-requires-clause-first c =
    let few = c.requires.shard in
    let b = c.args.pass.now.eight in
    ap (λ v. v.number) (pass_index c.args.pass.now.passes c.args.shard c.index-pass-shard.result (omega (arith, few, b))) ∙ c.requires.first

pub split-requires-clause-few : goal.split-requires-clause-few
split-requires-clause-few c =
    let few = c.requires.shard in
    let b = c.args.pass.now.eight in
    subst (λ v. v.splits < 1000) (sym (pass_index c.args.pass.now.passes c.args.shard c.index-pass-shard.result (omega (arith, few, b)))) c.requires.few

pub returns-clause-of : goal.returns-clause-of
unfolding IsOfTable
returns-clause-of c =
    let few = c.requires.shard in
    let a = c.args.table.now.eight in
    of_all c.args.table.now.cells c.args.pass.now.passes c.args.shard c.index-table-shard.result _ (omega (arith, few, a)) c.requires.of c.split.ensures.of.0

pub returns-clause-new : goal.returns-clause-new
returns-clause-new c =
    let few = c.requires.shard in
    let a = c.args.table.now.eight in
    λ cell e. subst (λ x. IsOf x c.split.result) (same_Some _ cell (sym (get_index c.args.table.now.cells c.args.shard c.index-table-shard.result (omega (arith, few, a))) ∙ e)) c.split.ensures.of.1

pub returns-clause-split : goal.returns-clause-split
returns-clause-split c =
    let few = c.requires.shard in
    let b = c.args.pass.now.eight in
    both_at (λ v w. SplitOff v w (known c.split.result)) c.args.pass.now.passes c.args.shard c.index-pass-shard.result _ (omega (arith, few, b)) c.split.ensures.split

pub returns-clause-others : goal.returns-clause-others
returns-clause-others c = λ j apart. pass_else c.args.pass.now.passes c.args.shard j _ apart
