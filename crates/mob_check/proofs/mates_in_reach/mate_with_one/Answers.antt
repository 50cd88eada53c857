use Rattle.std.proofs.Common.{◌<◌, sym, ◌∙◌, arith}
use Rattle.cha_board.proofs.Scans.{any_square_at, no_square}
use Rattle.mob_check.specs.MatesInReach.{mates_from}
use Rattle.mob_check.specs.MatesInReach.{mates_with_one}
use Rattle.mob_check.proofs.mates_in_reach.mate_with_one.Goals as goal

pub returns-then-mate_from : goal.returns-then-mate_from
unfolding mates_with_one
returns-then-mate_from c =
    let small : c.at-from.result < 64 = omega arith in
    sym (any_square_at (mates_from c.args.scene.now c.args.seen c.args.men c.args.king) c.at-from.result small (sym c.mate_from.ensures ∙ c.if-mate_from.true))

pub returns : goal.returns
unfolding mates_with_one
returns c = sym (no_square (mates_from c.args.scene.now c.args.seen c.args.men c.args.king) (λ x small. c.loop-index.invariant x (omega arith)))
