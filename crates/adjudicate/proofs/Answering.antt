-- What is answered on the text of a certificate.
use Rattle.std.proofs.Common.{◌≡◌, ◌↔◌, ℕ, List, take, drop, Option, Result, Ok, Err, IsTrue, IfOk, sym, ◌∙◌, subst, take-append-drop}
use Rattle.std.specs.Io.KnownBytes.{Appends}
use Rattle.cha_list.specs.declared.memory.NoMemory.{NoMemory}
use Rattle.cert_text.specs.declared.reader.Certificate.{Certificate}
use Rattle.cert_text.specs.Versions.{any_cert_of}
use Rattle.adjudicate.specs.declared.checking.Answer.{Answer}
use Rattle.adjudicate.specs.CertFindings.{IsAnswerTo, IsReadAs}
use Rattle.adjudicate.specs.Report.{IsFront}
use Rattle.adjudicate.specs.Runs.{Grew}

-- the line is written in part
pub cut_answer : (bytes line shown : List ℕ) (old new : Option (List ℕ)) (n : ℕ) → IsAnswerTo (any_cert_of bytes) line → shown ≡ line → Appends old new (take n shown)
    → Grew old new (λ out. (whole : List ℕ) × IsAnswerTo (any_cert_of bytes) whole × IsFront out whole)
cut_answer bytes line shown old new n is same added =
    (take n line, subst (λ x. Appends old new (take n x)) same added, (line, is, (drop n line, sym (take-append-drop n line))))

-- what is found of a certificate holds of its text
pub of_text : (r : Result Answer NoMemory) (bytes : List ℕ) (c : Certificate) (P : Certificate → Type 0) → any_cert_of bytes ≡ Ok c → IfOk r (λ answer. IsTrue answer.accepted ↔ P c)
    → IfOk r (λ answer. IsTrue answer.accepted ↔ IsReadAs P bytes)
of_text (Ok answer) bytes c P e h = ((λ t. (c, e, h.0 t)), (λ text. h.1 (let same : text.0 ≡ c = let f = sym text.1 ∙ e in cc in subst P same text.2)))
of_text (Err refused) bytes c P e h = tt
