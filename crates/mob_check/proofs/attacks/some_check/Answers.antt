use Rattle.std.proofs.Common.{◌<◌, sym, ◌∙◌, arith}
use Rattle.cha_board.proofs.Scans.{any_square_at, no_square}
use Rattle.mob_check.specs.MatesInReach.{checks_from}
use Rattle.mob_check.specs.MatesInReach.{has_check}
use Rattle.mob_check.proofs.attacks.some_check.Goals as goal

pub returns-then-check_from : goal.returns-then-check_from
unfolding has_check
returns-then-check_from c =
    let small : c.at-from.result < 64 = omega arith in
    sym (any_square_at (checks_from c.args.scene.now c.args.king) c.at-from.result small (sym c.check_from.ensures ∙ c.if-check_from.true))

pub returns : goal.returns
unfolding has_check
returns c = sym (no_square (checks_from c.args.scene.now c.args.king) (λ x small. c.loop-index.invariant x (omega arith)))
