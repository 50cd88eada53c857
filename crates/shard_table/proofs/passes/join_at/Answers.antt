use Rattle.std.proofs.Common.{◌∙◌, ap, arith}
use Rattle.turn_cell.specs.Passes.{Joined, known}
use Rattle.shard_table.specs.Tables.{IsOfTable}
use Rattle.shard_table.proofs.PassAt.{get_index, pass_index, pass_else, both_at, of_all, taken_both, whole_else}
use Rattle.shard_table.proofs.passes.join_at.Goals as goal

pub join-requires-clause-of : goal.join-requires-clause-of
unfolding IsOfTable
join-requires-clause-of c =
    let few = c.requires.shard in
    let a = c.args.table.now.eight in
    let b = c.args.pass.now.eight in
    let cell = get_index c.args.table.now.cells c.args.shard _ (omega (arith, few, a)) in
    (c.requires.of c.args.shard _ _ cell (get_index c.args.pass.now.passes c.args.shard _ (omega (arith, few, b))), c.requires.other _ cell)

pub join-requires-clause-first : goal.join-requires-clause-first
join-requires-clause-first c =
    let few = c.requires.shard in
    let b = c.args.pass.now.eight in
    ap (λ v. v.number) (pass_index c.args.pass.now.passes c.args.shard c.index-pass-shard.result (omega (arith, few, b))) ∙ c.requires.first

pub returns-clause-of : goal.returns-clause-of
unfolding IsOfTable
returns-clause-of c =
    let few = c.requires.shard in
    let a = c.args.table.now.eight in
    of_all c.args.table.now.cells c.args.pass.now.passes c.args.shard c.index-table-shard.result _ (omega (arith, few, a)) c.requires.of c.join.ensures.of

pub returns-clause-joined : goal.returns-clause-joined
returns-clause-joined c =
    let few = c.requires.shard in
    let b = c.args.pass.now.eight in
    both_at (λ v w. Joined v (known c.args.other) w) c.args.pass.now.passes c.args.shard c.index-pass-shard.result _ (omega (arith, few, b)) c.join.ensures.joined

pub returns-clause-others : goal.returns-clause-others
returns-clause-others c = λ j apart. pass_else c.args.pass.now.passes c.args.shard j _ apart

pub returns-clause-taken : goal.returns-clause-taken
returns-clause-taken c =
    let few = c.requires.shard in
    let b = c.args.pass.now.eight in
    taken_both c.args.pass.now.passes c.args.shard c.index-pass-shard.result _ _ (omega (arith, few, b)) c.join.ensures.taken c.join.ensures.theirs

pub returns-clause-taken_others : goal.returns-clause-taken_others
returns-clause-taken_others c = λ j apart. whole_else c.args.pass.now.passes c.args.shard j _ apart
