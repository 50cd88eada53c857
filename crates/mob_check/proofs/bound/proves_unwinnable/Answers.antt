use Rattle.std.proofs.lemmas.Bool.{OnTrue_from}
use Rattle.mob_law.proofs.Law.{bounded}
use Rattle.mob_check.proofs.bound.proves_unwinnable.Goals as goal

pub returns-then-closed-clause-value : goal.returns-then-closed-clause-value
returns-then-closed-clause-value c = (λ h. (c.closed.ensures.0 c.if-closed.true, c.no_mate.ensures.0 h), λ both. c.no_mate.ensures.1 both.1)

pub returns-then-closed-clause-law : goal.returns-then-closed-clause-law
returns-then-closed-clause-law c =
    OnTrue_from c.no_mate.result _ (λ h. bounded _ _ _ c.known.ensures (c.closed.ensures.0 c.if-closed.true) (c.no_mate.ensures.0 h))
