use Rattle.std.proofs.Common.{rules, ◌<◌, length, ap, sym, ◌∙◌, subst}
use Rattle.std.proofs.lemmas.List.{length-set}
use Rattle.side_by_side.specs.Progresses.{AllGoOn}
use Rattle.side_by_side.proofs.Going.{all_stay, still_asked, goes_on_at}
use Rattle.side_by_side.proofs.parts.advance_all.Goals as goal

pub loop-progress-init : goal.loop-progress-init
loop-progress-init c =
    let same = c.deref_mut-progress-items.ensures.value in
    (ap length same, subst (λ b. AllGoOn c.args.question c.args.items.items b) (sym same) (all_stay c.args.question c.args.items.items))

pub advance-requires : goal.advance-requires
advance-requires c =
    let l = c.loop-progress in
    let less : l.progress-index < length l.progress-items = search rules in
    still_asked c.args.question c.args.items.items l.progress-items l.progress-index c.progress-item.result c.requires.about l.invariant.0 l.invariant.1 less

pub loop-progress-preserved : goal.loop-progress-preserved
loop-progress-preserved c =
    let l = c.loop-progress in
    let less : l.progress-index < length l.progress-items = search rules in
    (length-set l.progress-items l.progress-index c.advance.new.progress ∙ l.invariant.0, goes_on_at c.args.question c.args.items.items l.progress-items l.progress-index c.progress-item.result c.advance.new.progress l.invariant.0 l.invariant.1 less c.advance.ensures)
