use Rattle.adjudicate.proofs.commands.carry_out_plain.Goals as goal

pub report-requires-clause-ready : goal.report-requires-clause-ready
report-requires-clause-ready g c =
    let bounds = c.requires.bounded _ _ _ _ c.in-ListMates.is in
    (c.requires.hands, bounds.1.1, bounds.0.0)
