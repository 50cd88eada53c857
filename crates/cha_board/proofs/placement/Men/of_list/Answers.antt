use Rattle.std.proofs.Common.{length, ap, ◌∙◌, arith}
use Rattle.std.proofs.Common.{None}
use Rattle.cha_board.specs.Board.{man_at}
use Rattle.cha_board.proofs.Tidiness.{filled_none, filled_more, filled_all, length_of_none}
use Rattle.cha_board.proofs.placement.Men.of_list.Goals as goal

pub loop-index-init : goal.loop-index-init
loop-index-init c = filled_none _ _ (ap length c.nothing-men.ensures ∙ length_of_none None)

pub loop-index-preserved : goal.loop-index-preserved
loop-index-preserved c =
    filled_more _ _ _ c.loop-index.index c.at.result _ c.loop-index.invariant c.loop-index-test.true c.at.ensures (ap (man_at c.args.list.now) c.from.ensures) c.put-men.ensures

pub returns : goal.returns
returns c = filled_all _ _ c.loop-index.index (omega arith) c.told-list c.loop-index.invariant
