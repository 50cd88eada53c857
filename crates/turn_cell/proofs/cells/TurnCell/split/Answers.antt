use Rattle.std.proofs.Common.{◌∙◌, ap, sym, subst}
use Rattle.turn_cell.specs.Histories.{IsWellKnown}
use Rattle.turn_cell.proofs.cells.TurnCell.split.Goals as goal

pub invariant_of-pass-clause-knows : goal.invariant_of-pass-clause-knows
invariant_of-pass-clause-knows g c = λ o is.
    let e = c.split_off-seat.ensures.old in
    subst (λ m. IsWellKnown g.V.Object.step o.value m.0.number m.0.seen m.0.mine) (sym e) (c.args.pass.now.knows o (sym (ap (λ m. m.0.origin) e) ∙ is))

pub invariant_of-result-clause-knows : goal.invariant_of-result-clause-knows
invariant_of-result-clause-knows g c = λ o is.
    let e = c.split_off-seat.ensures.new in
    subst (λ m. IsWellKnown g.V.Object.step o.value m.0.number m.0.seen m.0.mine) (sym e) ((c.args.pass.now.knows o (sym (ap (λ m. m.0.origin) e) ∙ is)).0, c.split_off-seat.ensures.unused)
