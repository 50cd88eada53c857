-- What is found about the text of a certificate (this project).
use Rattle.std.specs.Prelude.{◌≡◌, ℕ, List, Result, Ok, Err}
use Rattle.cha_board.specs.declared.men.Color.{Color}
use Rattle.cha_board.specs.Board.{Board, IsValid}
use Rattle.cha_moves.specs.Ends.{IsUnwinnable}
use Rattle.cha_cert.specs.declared.checking.Checked.{Checked}
use Rattle.cha_cert.specs.declared.checking.Checked.TheVariants.{Accepted, Fails}
use Rattle.cha_cert.specs.Certificates.{BeginsAt, IsValidCert, Answers}
use Rattle.cert_text.specs.declared.faults.CertFault.{CertFault}
use Rattle.cert_text.specs.declared.reader.Certificate.{Certificate}
use Rattle.cert_text.specs.Versions.{any_cert_of, IsAnyText}
use Rattle.flag_report.specs.CertReports.{accepted_text, misfit_text, failing_text}

-- the line on what a check of a certificate answers
abbrev pub checked_text : Color → Checked → List ℕ
checked_text winner Accepted = accepted_text winner
checked_text winner (Fails number) = failing_text number

-- the output is the line on what a check answers, asked for the position of the first node; or the line on the first line of the
-- text that does not fit, where the text is no certificate
abbrev pub IsAnswerTo : Result Certificate CertFault → List ℕ → Type 0
IsAnswerTo (Ok c) out =
    (p : Board) × BeginsAt p c.cert × (checked : Checked) × Answers p c.winner c.cert checked × (out ≡ checked_text c.winner checked)
IsAnswerTo (Err fault) out = out ≡ misfit_text fault

-- a certificate is valid for the position of its first node
abbrev pub IsValidAtFirst : Certificate → Type 0
IsValidAtFirst c = (p : Board) × IsValidCert p c.winner c.cert

-- no series of legal moves from the position of a certificate's first node, which is a valid one, mates for its side
abbrev pub IsUnwinnableAtFirst : Certificate → Type 0
IsUnwinnableAtFirst c = (p : Board) × BeginsAt p c.cert × IsValid p × IsUnwinnable p c.winner

-- the bytes are a text of a certificate that is such, in either version
abbrev pub IsTextOf : (Certificate → Type 0) → List ℕ → Type 0
IsTextOf P bytes = (c : Certificate) × IsAnyText c.winner c.cert bytes × P c

-- the bytes are read as a certificate that is such: of version 2 as the expansion of what they spell
abbrev pub IsReadAs : (Certificate → Type 0) → List ℕ → Type 0
IsReadAs P bytes = (c : Certificate) × (any_cert_of bytes ≡ Ok c) × P c
