-- What a text of either version says.
use Rattle.std.proofs.Common.{◌≡◌, ◌≢◌, ℕ, Bool, true, false, List, Result, Ok, Err, IfOk, IfErr, refl, sym, ap, ◌∙◌, inl, inr}
use Rattle.cha_cert.specs.Shared.{expansion}
use Rattle.cert_text.specs.declared.faults.CertFault.{CertFault}
use Rattle.cert_text.specs.declared.faults.CertKind.TheVariants as kinds
use Rattle.cert_text.specs.declared.reader.Certificate.{Certificate}
use Rattle.cert_text.specs.declared.shared_reader.SharedCertificate.{SharedCertificate}
use Rattle.cert_text.specs.Texts.{cert_of}
use Rattle.cert_text.specs.SharedSpelled.{shared_text}
use Rattle.cert_text.specs.SharedTexts.{shared_cert_of}
use Rattle.cert_text.specs.Versions.{is_first_version, expanded, version_of, any_cert_of, IsAnyText}
use Rattle.cert_text.proofs.Spelling.{read_is_spelled}
use Rattle.cert_text.proofs.SharedSpelling.{shared_is_spelled}

-- by the first line
pub says_first : (bytes : List ℕ) (said : Result Certificate CertFault) → is_first_version bytes ≡ true → cert_of bytes ≡ said → any_cert_of bytes ≡ said
unfolding any_cert_of
says_first bytes said first e = ap (λ b. version_of b bytes) first ∙ e

pub says_second : (bytes : List ℕ) (said : Result SharedCertificate CertFault) → is_first_version bytes ≡ false → shared_cert_of bytes ≡ said → any_cert_of bytes ≡ expanded said
unfolding any_cert_of
says_second bytes said second e = ap (λ b. version_of b bytes) second ∙ ap expanded e

shared_cases : (bytes : List ℕ) (c : Certificate) (said : Result SharedCertificate CertFault) → shared_cert_of bytes ≡ said → expanded said ≡ Ok c → IsAnyText c.winner c.cert bytes
shared_cases bytes c (Ok read) s e =
    let same : record { winner = read.winner; cert = expansion read.cert } ≡ c = cc in
    inr (read.cert, ap (λ (x : Certificate). x.cert) same, ap (λ w. shared_text w read.cert) (sym (ap (λ (x : Certificate). x.winner) same)) ∙ shared_is_spelled bytes read s)
shared_cases bytes c (Err fault) s e = cc

version_cases : (bytes : List ℕ) (c : Certificate) (first : Bool) → version_of first bytes ≡ Ok c → IsAnyText c.winner c.cert bytes
version_cases bytes c true e = inl (read_is_spelled bytes c e)
version_cases bytes c false e = shared_cases bytes c (shared_cert_of bytes) refl e

-- what is read is spelled so
pub any_is_spelled : (bytes : List ℕ) (c : Certificate) → any_cert_of bytes ≡ Ok c → IsAnyText c.winner c.cert bytes
unfolding any_cert_of
any_is_spelled bytes c e = version_cases bytes c (is_first_version bytes) e

-- what a reader of version 2 answers, and what one of version 1 refuses
pub second_ok : (bytes : List ℕ) (r : Result SharedCertificate CertFault) → is_first_version bytes ≡ false → IfOk r (λ read. shared_cert_of bytes ≡ Ok read)
    → IfOk r (λ read. any_cert_of bytes ≡ Ok (record { winner = read.winner; cert = expansion read.cert }))
second_ok bytes (Ok read) second said = says_second bytes (Ok read) second said
second_ok bytes (Err fault) second said = tt

pub first_ok : (bytes : List ℕ) (r : Result SharedCertificate CertFault) → is_first_version bytes ≡ true → IfOk r (λ read. cert_of bytes ≡ Ok (record { winner = read.winner; cert = expansion read.cert }))
    → IfOk r (λ read. any_cert_of bytes ≡ Ok (record { winner = read.winner; cert = expansion read.cert }))
first_ok bytes (Ok read) first said = says_first bytes (Ok (record { winner = read.winner; cert = expansion read.cert })) first said
first_ok bytes (Err fault) first said = tt

pub second_err : (bytes : List ℕ) (r : Result SharedCertificate CertFault) → is_first_version bytes ≡ false → IfErr r (λ fault. fault.kind ≢ kinds.NoMemory → shared_cert_of bytes ≡ Err fault)
    → IfErr r (λ fault. fault.kind ≢ kinds.NoMemory → any_cert_of bytes ≡ Err fault)
second_err bytes (Ok read) second said = tt
second_err bytes (Err fault) second said = λ other. says_second bytes (Err fault) second (said other)

pub first_err : {X : Type 0} (bytes : List ℕ) (r : Result X CertFault) → is_first_version bytes ≡ true → IfErr r (λ fault. fault.kind ≢ kinds.NoMemory → cert_of bytes ≡ Err fault)
    → IfErr r (λ fault. fault.kind ≢ kinds.NoMemory → any_cert_of bytes ≡ Err fault)
first_err bytes (Ok x) first said = tt
first_err bytes (Err fault) first said = λ other. says_first bytes (Err fault) first (said other)
