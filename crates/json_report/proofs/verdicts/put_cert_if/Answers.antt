use Rattle.json_report.proofs.Stepping.{next}
use Rattle.json_report.proofs.verdicts.put_cert_if.Goals as goal

pub returns-in_ok-put_cert : goal.returns-in_ok-put_cert
returns-in_ok-put_cert c = rw c.if-certs.true (next _ _ _ _ _ c.in_ok-put_cert.ensures)
