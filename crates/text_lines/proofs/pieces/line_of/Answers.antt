use Rattle.std.proofs.Common.{sym, ◌∙◌}
use Rattle.text_lines.proofs.Given.{kept_line}
use Rattle.text_lines.proofs.pieces.line_of.Goals as goal

pub returns-clause-some : goal.returns-clause-some
returns-clause-some c = kept_line c.args.number c.args.line.now (c.min-size.result) _ (sym c.all_of.ensures ∙ c.if-all_of.false) c.min-size.ensures (c.in_ok-text.ensures ∙ c.split_at.ensures.front)
