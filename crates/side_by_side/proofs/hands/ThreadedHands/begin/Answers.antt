use Rattle.std.proofs.Common.{ap, sym, ◌∙◌, subst}
use Rattle.side_by_side.specs.Progresses.{AreAsked, AllGoOn}
use Rattle.side_by_side.proofs.Going.{all_stay}
use Rattle.side_by_side.proofs.hands.ThreadedHands.begin.Goals as goal

pub returns-then-len-lt-WORTH_A_THREAD-clause-same : goal.returns-then-len-lt-WORTH_A_THREAD-clause-same
returns-then-len-lt-WORTH_A_THREAD-clause-same g c = all_stay c.args.question.now c.args.items.items

pub returns-in-Ok-clause-same : goal.returns-in-Ok-clause-same
returns-in-Ok-clause-same g c =
    let same = ap (λ t. t.handle.promise.items.value) c.new.ensures ∙ ap (λ p. p.items.value) c.in-Ok.ensures.ok ∙ c.of.ensures in
    subst (λ v. AllGoOn c.args.question.now c.args.items.items v.items) (sym same) (all_stay c.args.question.now c.args.items.items)

-- where no thread could be made
pub work-requires : goal.work-requires
work-requires g c = subst (λ w. AreAsked w.1 w.2.items) (sym c.in-Err.ensures.err) c.requires.about
