use Rattle.std.proofs.Common.{map, string_bytes, ap, ◌∙◌}
use Rattle.adjudicate.specs.CertFindings.{IsTextOf, IsUnwinnableAtFirst}
use Rattle.cha_c.proofs.Checked.{accepted, lawful, ends_long, no_usage, no_read_fault}
use Rattle.cha_c.proofs.checking.check_text.Goals as goal

pub returns-clause-law : goal.returns-clause-law
returns-clause-law c =
    lawful _ c.args.text.now c.new-source.result c.run_alone.new.source _ _ _ _ _ _ c.run_alone.result c.new-source.ensures (ap (map string_bytes) c.as_slice.ensures.value ∙ c.in_ok-words.ensures) c.run_alone.ensures.run (IsTextOf IsUnwinnableAtFirst) c.run_alone.ensures.law

pub returns-clause-accepted : goal.returns-clause-accepted
returns-clause-accepted c =
    accepted _ c.args.text.now c.new-source.result c.run_alone.new.source _ _ _ _ _ _ c.run_alone.result c.new-source.ensures (ap (map string_bytes) c.as_slice.ensures.value ∙ c.in_ok-words.ensures) c.run_alone.ensures.run

pub returns-clause-long : goal.returns-clause-long
returns-clause-long c =
    ends_long _ c.args.text.now c.new-source.result c.run_alone.new.source _ _ _ _ _ _ c.run_alone.result c.new-source.ensures (ap (map string_bytes) c.as_slice.ensures.value ∙ c.in_ok-words.ensures) c.run_alone.ensures.run

pub returns-clause-no_other : goal.returns-clause-no_other
returns-clause-no_other c = (
  no_usage _ c.args.text.now c.new-source.result c.run_alone.new.source _ _ _ _ _ _ c.run_alone.result c.new-source.ensures (ap (map string_bytes) c.as_slice.ensures.value ∙ c.in_ok-words.ensures) c.run_alone.ensures.run,
  no_read_fault _ c.args.text.now c.new-source.result c.run_alone.new.source _ _ _ _ _ _ c.run_alone.result c.new-source.ensures (ap (map string_bytes) c.as_slice.ensures.value ∙ c.in_ok-words.ensures) c.run_alone.ensures.run,
)
