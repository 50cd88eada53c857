use Rattle.std.proofs.Common.{sym, ◌∙◌}
use Rattle.cha_decide.proofs.Backwards.{found_dead, found_open}
use Rattle.cha_decide.proofs.scanning.look.Goals as goal

pub returns-in-Some-clause-found : goal.returns-in-Some-clause-found
returns-in-Some-clause-found g c =
    found_dead c.args.position.now c.args.limits.now c.args.first c.in_ok-decision.decision c.in-Some.certs c.in_ok-decision.ensures.sound c.in_ok-decision.ensures.white_printable c.in_ok-decision.ensures.black_printable (sym c.certs_of.ensures ∙ c.in-Some.is)

pub returns-in-None-clause-found : goal.returns-in-None-clause-found
returns-in-None-clause-found g c =
    rw c.edge_of-edge.ensures (found_open c.args.position.now c.args.limits.now c.args.first c.in_ok-decision.decision c.in_ok-decision.ensures.sound (sym c.certs_of.ensures ∙ c.in-None.is))
