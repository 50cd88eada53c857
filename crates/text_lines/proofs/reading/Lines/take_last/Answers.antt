use Rattle.std.proofs.Common.{length, ◌≡◌, None, is_some, ap}
use Rattle.text_lines.proofs.Kept.{held_last, found_last, none_last}
use Rattle.text_lines.proofs.reading.Lines.take_last.Goals as goal

pub returns-clause-held : goal.returns-clause-held
returns-clause-held c =
    held_last _ _ _ _ _ _ _ _ _ c.requires.held c.requires.none (length c.as_slice-end.result.now) (ap length c.as_slice-end.ensures.value) c.line.result.now c.line.ensures
    c.in-Ok.found c.in-Ok.ensures.some c.in-Ok.ensures.none c.one_if.result c.one_if.ensures c.requires.ended

pub returns-clause-line : goal.returns-clause-line
returns-clause-line c =
    found_last _ _ _ _ _ _ _ _ _ c.requires.held c.requires.none (length c.as_slice-end.result.now) (ap length c.as_slice-end.ensures.value) c.line.result.now c.line.ensures
    c.in-Ok.found c.in-Ok.ensures.some c.in-Ok.ensures.none

pub returns-clause-none : goal.returns-clause-none
returns-clause-none c = λ e.
    let nothing : c.in-Ok.found ≡ None = cc in
    none_last _ _ _ _ _ _ _ _ _ c.requires.held c.requires.none (length c.as_slice-end.result.now) (ap length c.as_slice-end.ensures.value) c.line.result.now c.line.ensures
    c.in-Ok.found c.in-Ok.ensures.some c.in-Ok.ensures.none (ap is_some nothing)
