use Rattle.cert_text.proofs.Cutting.{line_here, tail_here, none_here}
use Rattle.cert_text.proofs.text_lines.next_line.Goals as goal

pub returns-then-end-rest-clause-no_line : goal.returns-then-end-rest-clause-no_line
returns-then-end-rest-clause-no_line c = (none_here _ _ _ c.split_at.ensures.back c.run_of-end.ensures.value c.if-end-rest.true).0

pub returns-then-end-rest-clause-all_tail : goal.returns-then-end-rest-clause-all_tail
returns-then-end-rest-clause-all_tail c = (none_here _ _ _ c.split_at.ensures.back c.run_of-end.ensures.value c.if-end-rest.true).1

pub returns-clause-line : goal.returns-clause-line
returns-clause-line c =
    line_here c.args.bytes.now _ _ c.args.left.at _ c.split_at.ensures.back c.run_of-end.ensures.value c.run_of-end.ensures.bound c.if-end-rest.false c.split_at-2.ensures.front

pub returns-clause-tail : goal.returns-clause-tail
returns-clause-tail c =
    tail_here c.args.bytes.now _ c.args.left.at _ c.split_at.ensures.back c.run_of-end.ensures.value c.run_of-end.ensures.bound c.if-end-rest.false
