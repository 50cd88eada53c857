use Rattle.std.proofs.Common.{sym, ap, ◌∙◌}
use Rattle.cha_board.specs.Men.{same_color, is_of}
use Rattle.cha_board.proofs.Identity.{same_color_equal}
use Rattle.cha_moves.proofs.WayLaws.{no_ways}
use Rattle.cha_moves.proofs.ways.ways_of.Goals as goal

pub returns-then-not-is : goal.returns-then-not-is
returns-then-not-is c =
    let q = c.args.position.now in
    let other = ap (same_color c.args.man.color) (sym c.side.ensures) ∙ sym c.is.ensures ∙ c.if-not-is.true in
    c.empty.ensures ∙ no_ways q c.args.from (ap (is_of q.side) c.requires ∙ other)

pub own_ways-requires-clause-side : goal.own_ways-requires-clause-side
own_ways-requires-clause-side c =
    let q = c.args.position.now in
    same_color_equal c.args.man.color q.side (ap (same_color c.args.man.color) (sym c.side.ensures) ∙ sym c.is.ensures ∙ c.if-not-is.false)
