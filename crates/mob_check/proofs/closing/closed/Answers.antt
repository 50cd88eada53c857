use Rattle.std.proofs.Common.{sym, ◌∙◌}
use Rattle.mob_sets.specs.Rows.{sets_of}
use Rattle.mob_check.specs.Grounds.{ground_of}
use Rattle.mob_check.proofs.RulesClose.{rules_close}
use Rattle.mob_check.proofs.Grounded.{all_forced}
use Rattle.mob_check.proofs.RulesHold.{rules_given, tests_hold}
use Rattle.mob_check.proofs.closing.closed.Goals as goal

pub returns : goal.returns
returns c =
    let p = c.args.position.now in
    let r = c.args.sets.now in
    let s = sets_of r in
    let same = rw c.ground_of.ensures at c.men_hold.ensures in (
      λ h. rules_close p s c.known.ensures (rules_given (ground_of p s) r p c.known.ensures.size (sym same ∙ h)),
      λ closed. same ∙ tests_hold (ground_of p s) r p (all_forced p s s (record { has = λ o k u h. h; loose = λ o h. h }) closed),
    )
