use Rattle.std.proofs.Common.{sym, ap, ◌∙◌}
use Rattle.cha_board.specs.Men.{same_color, is_of}
use Rattle.cha_board.proofs.Identity.{same_color_equal}
use Rattle.cha_moves.proofs.GoingLegally.{no_goings}
use Rattle.cha_moves.proofs.legally.legal_ways.Goals as goal

pub returns-then-not-is : goal.returns-then-not-is
returns-then-not-is c =
    let q = c.args.position.now in
    let other = ap (same_color c.args.man.color) (sym c.side.ensures) ∙ sym c.is.ensures ∙ c.if-not-is.true in
    c.empty.ensures ∙ no_goings q c.args.from (ap (is_of q.side) c.requires.man ∙ other)

pub legal_ways_by-requires-clause-side : goal.legal_ways_by-requires-clause-side
legal_ways_by-requires-clause-side c =
    let q = c.args.position.now in
    same_color_equal c.args.man.color q.side (ap (same_color c.args.man.color) (sym c.side.ensures) ∙ sym c.is.ensures ∙ c.if-not-is.false)
