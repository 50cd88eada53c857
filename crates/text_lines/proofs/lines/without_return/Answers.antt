use Rattle.std.proofs.Common.{◌-◌, length, ◌∙◌, arith}
use Rattle.text_lines.proofs.LineEnds.{return_dropped, no_return, empty_stays}
use Rattle.text_lines.proofs.lines.without_return.Goals as goal
use Rattle.text_lines.proofs.lines.without_return.Goals.{else-end-gt0-via-then-end-gt0+else-line-end-eq13, else-end-gt0-via-else-end-gt0}

pub returns-then-line-end-eq13 : goal.returns-then-line-end-eq13
returns-then-line-end-eq13 c = c.split_at.ensures.front ∙ return_dropped c.args.line.now (length c.args.line.now - 1) (omega arith) c.if-line-end-eq13.true

pub returns-else-end-gt0 : goal.returns-else-end-gt0
returns-else-end-gt0 c =
    elim c.else-end-gt0.branch [
      | else-end-gt0-via-then-end-gt0+else-line-end-eq13 w ↦ no_return c.args.line.now (length c.args.line.now - 1) (omega arith) w.if-line-end-eq13.false
      | else-end-gt0-via-else-end-gt0 w ↦ empty_stays c.args.line.now (omega arith)
    ]
