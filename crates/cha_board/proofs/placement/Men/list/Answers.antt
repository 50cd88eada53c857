use Rattle.std.proofs.Common.{length, sym, ap, ◌∙◌, arith}
use Rattle.std.proofs.Common.{None, refl}
use Rattle.cha_board.specs.Board.{man_at}
use Rattle.cha_board.proofs.Tidiness.{filled_none, filled_more, filled_all, length_of_none, length-men_in}
use Rattle.cha_board.proofs.placement.Men.list.Goals as goal

pub loop-index-init : goal.loop-index-init
loop-index-init c = filled_none _ _ (length_of_none None)

pub loop-index-preserved : goal.loop-index-preserved
loop-index-preserved c =
    filled_more _ _ _ c.loop-index.index c.from.result _ c.loop-index.invariant c.loop-index-test.true c.from.ensures (c.man.ensures ∙ ap (man_at c.args.self.now) c.at.ensures) refl

pub returns : goal.returns
returns c = filled_all _ _ c.loop-index.index (omega arith) (ap length (sym c.self.view_is) ∙ length-men_in c.self.inside) c.loop-index.invariant
