-- What `adjudicate` and `position` alone promise, in chess alone (this project).
use Rattle.std.specs.Prelude.{ℕ, List, Option}
use Rattle.std.specs.Io.KnownBytes.{Consumes, IsAtEnd}
use Rattle.cha_limits.specs.Bounds.{Bounds}
use Rattle.cha_outcome.specs.declared.items.Item.{Item}
use Rattle.cha_outcome.specs.declared.questions.FlaggedDraws.TheVariants.{Stand}
use Rattle.flag_report.specs.declared.styles.Subject.{Subject}
use Rattle.true_blocks.specs.Plain.{IsTrueReport}
use Rattle.adjudicate.specs.Runs.{Grew}

-- what a search may spend where no option says otherwise
abbrev pub usual : Bounds
usual = record { budget = 20000; depth = 4; workers = 2; entries = 4096 }

-- all bytes of a source were taken, and a report was written that is true of their items
abbrev pub ReportsTruth : (List ℕ → List Item) → Subject → Option (List ℕ) → Option (List ℕ) → Option (List ℕ) → Option (List ℕ) → Type 0
ReportsTruth items subject left left' written written' =
    (bytes : List ℕ) × Consumes left left' bytes × IsAtEnd left' × Grew written written' (IsTrueReport usual Stand subject (items bytes))
