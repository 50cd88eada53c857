-- A text is read by the version that its first line tells.
use Rattle.std.proofs.Common.{sym, ◌∙◌}
use Rattle.cert_text.proofs.EitherVersion.{first_ok, first_err, second_ok, second_err}
use Rattle.cert_text.proofs.versions.read_any.Goals as goal

pub returns-then-not-begins_as_first-clause-value : goal.returns-then-not-begins_as_first-clause-value
returns-then-not-begins_as_first-clause-value c =
    second_ok c.args.bytes.now c.read2.result (sym c.begins_as_first.ensures ∙ c.if-not-begins_as_first.true) c.read2.ensures.value

pub returns-then-not-begins_as_first-clause-fault : goal.returns-then-not-begins_as_first-clause-fault
returns-then-not-begins_as_first-clause-fault c =
    second_err c.args.bytes.now c.read2.result (sym c.begins_as_first.ensures ∙ c.if-not-begins_as_first.true) c.read2.ensures.fault

pub returns-clause-value : goal.returns-clause-value
returns-clause-value c = first_ok c.args.bytes.now c.read_spread.result (sym c.begins_as_first.ensures ∙ c.if-not-begins_as_first.false) c.read_spread.ensures.value

pub returns-clause-fault : goal.returns-clause-fault
returns-clause-fault c = first_err c.args.bytes.now c.read_spread.result (sym c.begins_as_first.ensures ∙ c.if-not-begins_as_first.false) c.read_spread.ensures.fault
