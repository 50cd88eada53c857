use Rattle.std.proofs.Common.{ap, ◌∙◌}
use Rattle.text_lines.specs.Lines.{without_return}
use Rattle.text_lines.proofs.Kept.{held_line, found_line, line_settled}
use Rattle.text_lines.proofs.reading.Lines.take_line.Goals as goal

pub returns-clause-held : goal.returns-clause-held
returns-clause-held c =
    held_line _ _ _ _ _ _ _ _ _ c.requires.held c.args.end c.requires.feed c.requires.inside c.without_return.result.now (c.without_return.ensures ∙ ap without_return c.line.ensures)
    c.in_ok-found.found c.in_ok-found.ensures.some c.in_ok-found.ensures.none c.one_if.result c.one_if.ensures

pub returns-clause-line : goal.returns-clause-line
returns-clause-line c =
    found_line _ _ _ _ _ _ _ _ _ c.requires.held c.args.end c.requires.feed c.requires.inside c.without_return.result.now (c.without_return.ensures ∙ ap without_return c.line.ensures)
    c.in_ok-found.found c.in_ok-found.ensures.some c.in_ok-found.ensures.none

pub returns-clause-settled : goal.returns-clause-settled
returns-clause-settled c =
    line_settled _ _ _ _ _ _ _ _ _ c.requires.held c.args.end c.requires.feed c.requires.inside c.without_return.result.now (c.without_return.ensures ∙ ap without_return c.line.ensures)
    c.in_ok-found.found c.in_ok-found.ensures.some c.in_ok-found.ensures.none
