use Rattle.std.proofs.Common.{◌<◌, ◌∙◌, sym, arith}
use Rattle.cha_board.specs.SquareSets.{set_common}
use Rattle.mob_check.proofs.Freeing.{left_none, left_some}
use Rattle.mob_check.proofs.frees.left.Goals as goal

pub returns-then-is_empty : goal.returns-then-is_empty
unfolding set_common
returns-then-is_empty c =
    let small : c.args.origin < 64 = omega arith in
    c.empty.ensures
    ∙ left_none c.args.ground.now c.args.origin c.args.side c.args.kind c.args.row c.single-single.result c.common.result c.entered.result small
    c.single-single.ensures c.common.ensures c.entered.ensures (sym c.is_empty.ensures ∙ c.if-is_empty.true)

pub returns-else-is_empty : goal.returns-else-is_empty
unfolding set_common
returns-else-is_empty c =
    let small : c.args.origin < 64 = omega arith in
    c.single-single.ensures
    ∙ left_some c.args.ground.now c.args.origin c.args.side c.args.kind c.args.row c.single-single.result c.common.result c.entered.result small
    c.single-single.ensures c.common.ensures c.entered.ensures (sym c.is_empty.ensures ∙ c.if-is_empty.false)
