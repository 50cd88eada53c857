-- The two versions of a certificate's text (this project).
use Rattle.std.specs.Prelude.{◌≡◌, ◌⊎◌, ℕ, Bool, true, false, nat_eq, List, [], ◌∷◌, ◌++◌, Result, Ok, Err, codes}
use Rattle.std.specs.List.{starts_with}
use Rattle.cha_board.specs.declared.men.Color.{Color}
use Rattle.cha_cert.specs.Shared.{Shared, expansion}
use Rattle.cert_text.specs.SharedSpelled.{shared_text}
use Rattle.cert_text.specs.Spelled.{cert_text}
use Rattle.cert_text.specs.Texts.{cert_of}
use Rattle.cert_text.specs.SharedTexts.{shared_cert_of}
use Rattle.cert_text.specs.declared.faults.CertFault.{CertFault}
use Rattle.cert_text.specs.declared.reader.Certificate.{Certificate}
use Rattle.cert_text.specs.declared.shared_reader.SharedCertificate.{SharedCertificate}
use Rattle.cha_cert.specs.declared.nodes.Node.{Node}

-- the first line is that of version 1
unfoldable pub is_first_version : List ℕ → Bool
is_first_version bytes = starts_with nat_eq bytes (codes "cha-cert 1" ++ 10 ∷ [])

-- what a shared certificate says with its sets spread out
abbrev pub expanded : Result SharedCertificate CertFault → Result Certificate CertFault
expanded (Ok c) = Ok (record { winner = c.winner; cert = expansion c.cert })
expanded (Err fault) = Err fault

abbrev pub version_of : Bool → List ℕ → Result Certificate CertFault
version_of true bytes = cert_of bytes
version_of false bytes = expanded (shared_cert_of bytes)

-- the certificate of a text of either version, or the first line of it that does not fit: the first line tells the version,
-- and one that is neither does not fit
unfoldable pub any_cert_of : List ℕ → Result Certificate CertFault
any_cert_of bytes = version_of (is_first_version bytes) bytes

-- bytes are a text of a certificate: of version 1, or of version 2 for some way to share its sets
abbrev pub IsAnyText : Color → List Node → List ℕ → Type 0
IsAnyText winner nodes bytes =
    (cert_text winner nodes ≡ bytes) ⊎ ((shared : Shared) × (expansion shared ≡ nodes) × (shared_text winner shared ≡ bytes))

-- a text of version 2 that says what a text of version 1 says: it has the same winner and the same expansion
pub record IsMigrated (bytes text : List ℕ) : Type 0 where
  pub winner : Color
  pub shared : Shared
  pub read : cert_of bytes ≡ Ok (record { winner = winner; cert = expansion shared })
  pub spelled : text ≡ shared_text winner shared
