use Rattle.std.proofs.Common.{◌++◌, List, ℕ, codes, ap, ◌∙◌, append_assoc}
use Rattle.report_words.specs.Counts.{count_text}
use Rattle.flag_report.specs.Findings.{undecided_text}
use Rattle.flag_report.proofs.findings.put_undecided.Goals as goal

pub returns : goal.returns
unfolding undecided_text
returns c =
    c.in_ok-put_count-2.ensures
    ∙ ap (λ (text : List ℕ). text ++ count_text (codes " positions, depth ") c.from-2.result) c.in_ok-put_count.ensures
    ∙ append_assoc c.args.text.now (count_text (codes "undecided after ") c.from.result) (count_text (codes " positions, depth ") c.from-2.result)
    ∙ ap (λ (n : ℕ). c.args.text.now ++ (count_text (codes "undecided after ") n ++ count_text (codes " positions, depth ") c.from-2.result)) c.from.ensures
    ∙ ap (λ (n : ℕ). c.args.text.now ++ (count_text (codes "undecided after ") c.args.positions ++ count_text (codes " positions, depth ") n)) c.from-2.ensures
