-- What a crew did, by the calls of its first worker.
use Rattle.std.proofs.Common.{◌≡◌, ℕ, List}
use Rattle.cha_fact.specs.Entries.{Entry, MadeSome}
use Rattle.root_workers.specs.Shares.{AllGrow}
use Rattle.root_workers.specs.Worked.{HasWorked}

pub worked : {S : Type 0} (made : S → List Entry → S → Type 0) (made_by : ℕ → S → List Entry → S → Type 0) (count : S → ℕ) (ready knows : S → Type 0)
    → ((a b : S) (xs : List Entry) → made a xs b → made_by 0 a xs b) → ((i : ℕ) (a b : S) (xs : List Entry) → made_by i a xs b → AllGrow made_by a b (count a))
    → ((i : ℕ) (a b : S) (xs : List Entry) → made_by i a xs b → count b ≡ count a) → ((s : S) → ready s → knows s)
    → (a b : S) → MadeSome made a b → ready b → HasWorked made_by count knows a b
worked made made_by count ready knows first grow same know a b some is =
    let by = first a b some.0 some.1 in
    record { same = same 0 a b some.0 by; grown = grow 0 a b some.0 by; known = know b is }
