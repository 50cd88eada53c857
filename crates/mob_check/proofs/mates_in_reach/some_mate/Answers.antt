use Rattle.std.proofs.Common.{◌<◌, ap, sym, ◌∙◌, arith}
use Rattle.cha_board.proofs.Scans.{any_square_at, no_square}
use Rattle.mob_check.specs.MatesInReach.{may_mate_on}
use Rattle.mob_check.specs.MatesInReach.{may_mate}
use Rattle.cha_board.specs.SquareSets.{set_of_bits}
use Rattle.mob_check.proofs.Unreached.{no_mate_without}
use Rattle.mob_check.proofs.mates_in_reach.some_mate.Goals as goal

pub returns-then-bits-eq0 : goal.returns-then-bits-eq0
returns-then-bits-eq0 c =
    sym (no_mate_without c.args.position.now c.args.rows.now c.args.scene.now (sym c.somewhere.ensures ∙ c.bits.ensures.shown ∙ ap set_of_bits c.if-bits-eq0.true))

pub returns-then-mate_on : goal.returns-then-mate_on
unfolding may_mate
returns-then-mate_on c =
    let small : c.at.result < 64 = omega arith in
    sym (any_square_at (may_mate_on c.args.position.now c.args.rows.now c.args.scene.now) c.at.result small (sym c.mate_on.ensures ∙ c.if-mate_on.true))

pub returns : goal.returns
unfolding may_mate
returns c = sym (no_square (may_mate_on c.args.position.now c.args.rows.now c.args.scene.now) (λ x small. c.loop-index.invariant x (omega arith)))
