use Rattle.std.proofs.Common.{◌<◌, sym, ◌∙◌, arith}
use Rattle.cha_board.proofs.Scans.{any_square_at, no_square}
use Rattle.mob_check.specs.MatesInReach.{shuts_from}
use Rattle.mob_check.specs.MatesInReach.{may_shut}
use Rattle.mob_check.proofs.mates_in_reach.some_shut.Goals as goal

pub returns-then-shut_from : goal.returns-then-shut_from
unfolding may_shut
returns-then-shut_from c =
    let small : c.at.result < 64 = omega arith in
    sym (any_square_at (shuts_from c.args.scene.now c.args.ring.now c.args.king) c.at.result small (sym c.shut_from.ensures ∙ c.if-shut_from.true))

pub returns : goal.returns
unfolding may_shut
returns c = sym (no_square (shuts_from c.args.scene.now c.args.ring.now c.args.king) (λ x small. c.loop-index.invariant x (omega arith)))
