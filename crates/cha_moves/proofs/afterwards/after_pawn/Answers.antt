use Rattle.std.proofs.Common.{sym, ap, ◌∙◌}
use Rattle.cha_moves.specs.Step.{Move}
use Rattle.cha_moves.specs.Moves.{is_en_passant}
use Rattle.cha_moves.proofs.Alone.{not_some, pawn_alone}
use Rattle.cha_moves.proofs.afterwards.after_pawn.Goals as goal

pub after_passing-requires-clause-plain : goal.after_passing-requires-clause-plain
after_passing-requires-clause-plain c = sym (ap (λ (m : Move). m.promotion) c.m.view_is) ∙ not_some c.m.inside.promotion (sym c.is_some.ensures ∙ c.if-is_some.false)

pub after_passing-requires-clause-passing : goal.after_passing-requires-clause-passing
after_passing-requires-clause-passing c = sym (ap (λ (m : Move). is_en_passant c.args.position.now m.from m.to) c.m.view_is) ∙ sym c.goes_en_passant.ensures ∙ c.if-goes_en_passant.true

pub after_one-requires-clause-men : goal.after_one-requires-clause-men
after_one-requires-clause-men c =
    let q = c.args.position.now in
    let none = sym (ap (λ (m : Move). m.promotion) c.m.view_is) ∙ not_some c.m.inside.promotion (sym c.is_some.ensures ∙ c.if-is_some.false) in
    let passing = sym (ap (λ (m : Move). is_en_passant q m.from m.to) c.m.view_is) ∙ sym c.goes_en_passant.ensures ∙ c.if-goes_en_passant.false in
    pawn_alone q c.args.m c.requires.man none passing

pub after_one-requires-clause-target : goal.after_one-requires-clause-target
after_one-requires-clause-target c = c.passed_by.ensures c.args.position.now c.requires.side c.requires.legal c.requires.man
