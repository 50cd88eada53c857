use Rattle.std.proofs.Common.{sym, ap, ◌∙◌}
use Rattle.cert_text.specs.Versions.{any_cert_of}
use Rattle.adjudicate.specs.CertFindings.{IsValidAtFirst}
use Rattle.adjudicate.proofs.Answering.{of_text}
use Rattle.adjudicate.proofs.checking.answer_to.Goals as goal

pub returns-in-Ok-clause-accepted : goal.returns-in-Ok-clause-accepted
returns-in-Ok-clause-accepted g c =
    of_text c.answer_on.result c.args.bytes.items _ IsValidAtFirst (ap any_cert_of (sym c.deref.ensures.value) ∙ c.in-Ok.ensures.value) c.answer_on.ensures.accepted
