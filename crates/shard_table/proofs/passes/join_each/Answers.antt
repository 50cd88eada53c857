use Rattle.std.proofs.Common.{refl, ap, subst, slice_get}
use Rattle.turn_cell.specs.Passes.{Joined}
use Rattle.shard_table.specs.Tables.{IsOfTable, pass_at}
use Rattle.shard_table.specs.Wholes.{whole_at, TakesTo}
use Rattle.shard_table.proofs.PassAt.{pass_get}
use Rattle.shard_table.proofs.Eights.{JoinsTo, stepped}
use Rattle.shard_table.proofs.passes.join_each.Goals as goal

pub join_at-requires-clause-other : goal.join_at-requires-clause-other
unfolding IsOfTable
join_at-requires-clause-other c = λ cell e. c.requires.other 0 cell c.into_passes-others.result.first e (ap (λ xs. slice_get xs 0) c.into_passes-others.ensures)

pub join_at-requires-2-clause-other : goal.join_at-requires-2-clause-other
unfolding IsOfTable
join_at-requires-2-clause-other c = λ cell e. c.requires.other 1 cell c.into_passes-others.result.second e (ap (λ xs. slice_get xs 1) c.into_passes-others.ensures)

pub join_at-requires-3-clause-other : goal.join_at-requires-3-clause-other
unfolding IsOfTable
join_at-requires-3-clause-other c = λ cell e. c.requires.other 2 cell c.into_passes-others.result.third e (ap (λ xs. slice_get xs 2) c.into_passes-others.ensures)

pub join_at-requires-4-clause-other : goal.join_at-requires-4-clause-other
unfolding IsOfTable
join_at-requires-4-clause-other c = λ cell e. c.requires.other 3 cell c.into_passes-others.result.fourth e (ap (λ xs. slice_get xs 3) c.into_passes-others.ensures)

pub join_at-requires-5-clause-other : goal.join_at-requires-5-clause-other
unfolding IsOfTable
join_at-requires-5-clause-other c = λ cell e. c.requires.other 4 cell c.into_passes-others.result.fifth e (ap (λ xs. slice_get xs 4) c.into_passes-others.ensures)

pub join_at-requires-6-clause-other : goal.join_at-requires-6-clause-other
unfolding IsOfTable
join_at-requires-6-clause-other c = λ cell e. c.requires.other 5 cell c.into_passes-others.result.sixth e (ap (λ xs. slice_get xs 5) c.into_passes-others.ensures)

pub join_at-requires-7-clause-other : goal.join_at-requires-7-clause-other
unfolding IsOfTable
join_at-requires-7-clause-other c = λ cell e. c.requires.other 6 cell c.into_passes-others.result.seventh e (ap (λ xs. slice_get xs 6) c.into_passes-others.ensures)

pub join_at-requires-8-clause-other : goal.join_at-requires-8-clause-other
unfolding IsOfTable
join_at-requires-8-clause-other c = λ cell e. c.requires.other 7 cell c.into_passes-others.result.eighth e (ap (λ xs. slice_get xs 7) c.into_passes-others.ensures)

pub returns-clause-joined : goal.returns-clause-joined
returns-clause-joined c =
    stepped pass_at JoinsTo (pass_at c.args.other) c.args.pass.now c.join_at-8.new.pass
    (c.join_at.new.pass, subst (λ x. Joined (pass_at c.args.pass.now 0) x (pass_at c.join_at.new.pass 0)) (pass_get c.args.other.passes 0 c.into_passes-others.result.first (ap (λ xs. slice_get xs 0) c.into_passes-others.ensures)) c.join_at.ensures.joined, c.join_at.ensures.others, (c.join_at-2.new.pass, subst (λ x. Joined (pass_at c.join_at.new.pass 1) x (pass_at c.join_at-2.new.pass 1)) (pass_get c.args.other.passes 1 c.into_passes-others.result.second (ap (λ xs. slice_get xs 1) c.into_passes-others.ensures)) c.join_at-2.ensures.joined, c.join_at-2.ensures.others, (c.join_at-3.new.pass, subst (λ x. Joined (pass_at c.join_at-2.new.pass 2) x (pass_at c.join_at-3.new.pass 2)) (pass_get c.args.other.passes 2 c.into_passes-others.result.third (ap (λ xs. slice_get xs 2) c.into_passes-others.ensures)) c.join_at-3.ensures.joined, c.join_at-3.ensures.others, (c.join_at-4.new.pass, subst (λ x. Joined (pass_at c.join_at-3.new.pass 3) x (pass_at c.join_at-4.new.pass 3)) (pass_get c.args.other.passes 3 c.into_passes-others.result.fourth (ap (λ xs. slice_get xs 3) c.into_passes-others.ensures)) c.join_at-4.ensures.joined, c.join_at-4.ensures.others, (c.join_at-5.new.pass, subst (λ x. Joined (pass_at c.join_at-4.new.pass 4) x (pass_at c.join_at-5.new.pass 4)) (pass_get c.args.other.passes 4 c.into_passes-others.result.fifth (ap (λ xs. slice_get xs 4) c.into_passes-others.ensures)) c.join_at-5.ensures.joined, c.join_at-5.ensures.others, (c.join_at-6.new.pass, subst (λ x. Joined (pass_at c.join_at-5.new.pass 5) x (pass_at c.join_at-6.new.pass 5)) (pass_get c.args.other.passes 5 c.into_passes-others.result.sixth (ap (λ xs. slice_get xs 5) c.into_passes-others.ensures)) c.join_at-6.ensures.joined, c.join_at-6.ensures.others, (c.join_at-7.new.pass, subst (λ x. Joined (pass_at c.join_at-6.new.pass 6) x (pass_at c.join_at-7.new.pass 6)) (pass_get c.args.other.passes 6 c.into_passes-others.result.seventh (ap (λ xs. slice_get xs 6) c.into_passes-others.ensures)) c.join_at-7.ensures.joined, c.join_at-7.ensures.others, (c.join_at-8.new.pass, subst (λ x. Joined (pass_at c.join_at-7.new.pass 7) x (pass_at c.join_at-8.new.pass 7)) (pass_get c.args.other.passes 7 c.into_passes-others.result.eighth (ap (λ xs. slice_get xs 7) c.into_passes-others.ensures)) c.join_at-8.ensures.joined, c.join_at-8.ensures.others, refl))))))))

pub returns-clause-taken : goal.returns-clause-taken
returns-clause-taken c =
    stepped whole_at TakesTo (pass_at c.args.other) c.args.pass.now c.join_at-8.new.pass
    (c.join_at.new.pass, subst (λ x. TakesTo (whole_at c.args.pass.now 0) (whole_at c.join_at.new.pass 0) x) (pass_get c.args.other.passes 0 c.into_passes-others.result.first (ap (λ xs. slice_get xs 0) c.into_passes-others.ensures)) c.join_at.ensures.taken, c.join_at.ensures.taken_others, (c.join_at-2.new.pass, subst (λ x. TakesTo (whole_at c.join_at.new.pass 1) (whole_at c.join_at-2.new.pass 1) x) (pass_get c.args.other.passes 1 c.into_passes-others.result.second (ap (λ xs. slice_get xs 1) c.into_passes-others.ensures)) c.join_at-2.ensures.taken, c.join_at-2.ensures.taken_others, (c.join_at-3.new.pass, subst (λ x. TakesTo (whole_at c.join_at-2.new.pass 2) (whole_at c.join_at-3.new.pass 2) x) (pass_get c.args.other.passes 2 c.into_passes-others.result.third (ap (λ xs. slice_get xs 2) c.into_passes-others.ensures)) c.join_at-3.ensures.taken, c.join_at-3.ensures.taken_others, (c.join_at-4.new.pass, subst (λ x. TakesTo (whole_at c.join_at-3.new.pass 3) (whole_at c.join_at-4.new.pass 3) x) (pass_get c.args.other.passes 3 c.into_passes-others.result.fourth (ap (λ xs. slice_get xs 3) c.into_passes-others.ensures)) c.join_at-4.ensures.taken, c.join_at-4.ensures.taken_others, (c.join_at-5.new.pass, subst (λ x. TakesTo (whole_at c.join_at-4.new.pass 4) (whole_at c.join_at-5.new.pass 4) x) (pass_get c.args.other.passes 4 c.into_passes-others.result.fifth (ap (λ xs. slice_get xs 4) c.into_passes-others.ensures)) c.join_at-5.ensures.taken, c.join_at-5.ensures.taken_others, (c.join_at-6.new.pass, subst (λ x. TakesTo (whole_at c.join_at-5.new.pass 5) (whole_at c.join_at-6.new.pass 5) x) (pass_get c.args.other.passes 5 c.into_passes-others.result.sixth (ap (λ xs. slice_get xs 5) c.into_passes-others.ensures)) c.join_at-6.ensures.taken, c.join_at-6.ensures.taken_others, (c.join_at-7.new.pass, subst (λ x. TakesTo (whole_at c.join_at-6.new.pass 6) (whole_at c.join_at-7.new.pass 6) x) (pass_get c.args.other.passes 6 c.into_passes-others.result.seventh (ap (λ xs. slice_get xs 6) c.into_passes-others.ensures)) c.join_at-7.ensures.taken, c.join_at-7.ensures.taken_others, (c.join_at-8.new.pass, subst (λ x. TakesTo (whole_at c.join_at-7.new.pass 7) (whole_at c.join_at-8.new.pass 7) x) (pass_get c.args.other.passes 7 c.into_passes-others.result.eighth (ap (λ xs. slice_get xs 7) c.into_passes-others.ensures)) c.join_at-8.ensures.taken, c.join_at-8.ensures.taken_others, refl))))))))
