use Rattle.std.proofs.Common.{◌<◌, sym, ◌∙◌, arith}
use Rattle.cha_board.proofs.Scans.{each_square}
use Rattle.mob_check.specs.Closing.{holds_at}
use Rattle.mob_check.proofs.Loops.{not_all_squares}
use Rattle.mob_check.proofs.closing.men_hold.Goals as goal

pub returns-then-not-man_holds : goal.returns-then-not-man_holds
returns-then-not-man_holds c =
    let small : c.at.result < 64 = omega arith in
    sym (not_all_squares (holds_at c.args.position.now c.args.ground.now c.args.sets.now) c.at.result small (sym c.man_holds.ensures ∙ c.if-not-man_holds.true))

pub returns : goal.returns
returns c = sym (each_square (holds_at c.args.position.now c.args.ground.now c.args.sets.now) (λ x small. c.loop-index.invariant x (omega arith)))
