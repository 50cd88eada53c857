-- What is written for an input (this project).
use Rattle.std.specs.Prelude.{◌≡◌, ◌≢◌, ℕ, ◌+◌, Bool, true, List, [], ◌∷◌, ◌++◌, length, map, Option, Some, None, ⊤}
use Rattle.cert_text.specs.Versions.{any_cert_of}
use Rattle.cha_words.specs.declared.orders.Order.{Order}
use Rattle.cha_outcome.specs.declared.items.Item.{Item}
use Rattle.cha_outcome.specs.declared.outcomes.Outcome.{Outcome}
use Rattle.cha_outcome.specs.Outcomes.{item_of, IsSoundOutcome, AllSound}
use Rattle.flag_report.specs.Styles.{block, blocks}
use Rattle.adjudicate.specs.CertFindings.{IsAnswerTo, IsReadAs, IsValidAtFirst}
use Rattle.adjudicate.specs.Jobs.{Job, job, last}

-- there is one sound outcome for each item, in order, and the output is their blocks, numbered from 1, and their summary
abbrev pub HasReport : Job → List ℕ → List ℕ → Type 0
HasReport j bytes out = (os : List Outcome) × (map item_of os ≡ j.items bytes) × AllSound j.question os × (out ≡ blocks j.style 1 os ++ last j bytes os)

-- the output is the blocks of sound outcomes of the first items, of so many as are allowed
abbrev pub HasBlocks : Job → (ℕ → Type 0) → List ℕ → List ℕ → Type 0
HasBlocks j Allows bytes out =
    (os : List Outcome) × (later : List Item) × (j.items bytes ≡ map item_of os ++ later) × AllSound j.question os × (out ≡ blocks j.style 1 os) × Allows (length os)

-- a list is the front of another
abbrev pub IsFront : List ℕ → List ℕ → Type 0
IsFront front whole = (rest : List ℕ) × (whole ≡ front ++ rest)

-- the output is the blocks of sound outcomes of the first items, and a front of the block of the next one, which is not empty and counts
-- as a block
abbrev pub HasCutBlock : Job → (ℕ → Type 0) → List ℕ → List ℕ → Type 0
HasCutBlock j Allows bytes out =
    (os : List Outcome) × (o : Outcome) × (later : List Item) × (part : List ℕ)
    × (j.items bytes ≡ map item_of os ++ item_of o ∷ later) × AllSound j.question os × IsSoundOutcome j.question o
    × (out ≡ blocks j.style 1 os ++ part) × IsFront part (block j.style (length os + 1) o) × (block j.style (length os + 1) o ≢ [])
    × Allows (length os + 1)

-- What an order asks of a run, by its input: whether it reads, what its input has to be, the whole output, an output that is cut in a
-- block, an output of whole blocks alone, both of so many blocks as are allowed, and how many items are settled.
pub record Demand : Type 1 where
  pub reads : Bool
  pub accepted : List ℕ → Type 0
  pub report : List ℕ → List ℕ → Type 0
  pub cut : (ℕ → Type 0) → List ℕ → List ℕ → Type 0
  pub blocks : (ℕ → Type 0) → List ℕ → List ℕ → Type 0
  pub settled : List ℕ → ℕ

-- of a certificate the answer of its check, of which nothing is written by halves; and of a job its report
abbrev pub demand_by : Option Job → Demand
demand_by None = record {
  reads = true;
  accepted = IsReadAs IsValidAtFirst;
  report = λ bytes out. IsAnswerTo (any_cert_of bytes) out;
  cut = λ Allows bytes out. ⊥;
  blocks = λ Allows bytes out. out ≡ [];
  settled = λ bytes. 0;
}
demand_by (Some j) = record { reads = j.reads; accepted = λ bytes. ⊤; report = HasReport j; cut = HasCutBlock j; blocks = HasBlocks j; settled = j.settled }

abbrev pub demand : Order → Demand
demand order = demand_by (job order)

-- What an order asks of its input: of a certificate that the bytes are read as one and that it is valid. Of games and positions
-- nothing is asked.
abbrev pub IsAccepted : Order → List ℕ → Type 0
IsAccepted order bytes = (demand order).accepted bytes
