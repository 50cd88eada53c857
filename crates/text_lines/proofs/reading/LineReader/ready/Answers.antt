use Rattle.std.proofs.Common.{ap, ◌∙◌, arith}
use Rattle.text_lines.specs.Reading.{ReaderState}
use Rattle.text_lines.proofs.Kept.{ended_given}
use Rattle.text_lines.proofs.reading.LineReader.ready.Goals as goal

pub returns-clause-open : goal.returns-clause-open
returns-clause-open c = λ e none.
    let next = c.next_ended-found.ensures in
    let all = ended_given _ _ _ _ _ _ _ _ _ (rw none at next.held) (next.none none) (next.same ∙ c.if-self.false) in
    omega (arith, all, rw none at next.given, ap (λ (s : ReaderState). s.given) c.self.view_is)
