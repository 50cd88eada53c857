-- What readers answer, beside what is said of the text.
use Rattle.std.specs.Prelude.{◌≡◌, ◌≢◌, ℕ, List, [], ◌∷◌, ◌++◌, drop, Option, Some, None, Result, Ok, Err}
use Rattle.mob_sets.specs.Rows.{Row}
use Rattle.cert_text.specs.declared.faults.CertFault.{CertFault}
use Rattle.cert_text.specs.declared.rest.Left.{Left}
use Rattle.cert_text.specs.TextLines.{lines_of, tail_of}
use Rattle.cert_text.specs.Texts.{Parsed, rows_after}
use Rattle.cert_text.specs.declared.faults.CertKind.TheVariants as kinds

-- an answer is what is said, unless memory is wanting
abbrev pub Agrees : {X A : Type 0} → (X → A) → Result X CertFault → Result A CertFault → Type 0
Agrees view (Ok x) said = said ≡ Ok (view x)
Agrees view (Err fault) said = fault.kind ≢ kinds.NoMemory → said ≡ Err fault

-- what was read, and what is left behind it
abbrev pub seen : {A : Type 0} → List ℕ → A → Left → Parsed A
seen bytes value left = record { value = value; number = left.number; lines = lines_of (drop left.at bytes) }

-- where a further row is read: it goes behind those so far; where none is, these are all
abbrev pub RowGoesOn : List ℕ → List Row → Left → Option (Row × Left) → Type 0
RowGoesOn bytes rows left None =
    rows_after (tail_of (drop left.at bytes)) rows left.number (lines_of (drop left.at bytes)) ≡ Ok (seen bytes rows left)
RowGoesOn bytes rows left (Some next) =
    rows_after (tail_of (drop left.at bytes)) rows left.number (lines_of (drop left.at bytes))
    ≡ rows_after (tail_of (drop left.at bytes)) (rows ++ next.0 ∷ []) next.1.number (lines_of (drop next.1.at bytes))
