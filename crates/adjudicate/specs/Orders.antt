-- What is true of the run of an order (this project).
use Rattle.std.specs.Prelude.{◌≡◌, ◌≢◌, ℕ, ◌+◌, ◌<◌, ◌≤◌, List, length, Option, Some, None, ◌⊎◌}
use Rattle.cha_outside.specs.Faults.{Rose}
use Rattle.cha_outside.specs.Gathering.{Took}
use Rattle.cha_words.specs.declared.orders.Order.{Order}
use Rattle.adjudicate.specs.declared.endings.Status.{Status}
use Rattle.adjudicate.specs.declared.endings.Status.TheVariants.{ReadFault, WriteFault, TooLong}
use Rattle.adjudicate.specs.Report.{demand}
use Rattle.adjudicate.specs.Runs.{Outside, IsRunOf}
use Rattle.item_batches.specs.Items.{most_bytes}
use Rattle.adjudicate.specs.Corrections.{Correction, correction, Noted, EndedCorrecting}

-- What is true of a run that corrects games: what was read, written and noted; and of its causes and its length what is true of a run
-- that reports, but that a writing fault may be one of the sink for the summary.
pub record IsCorrecting (c : Correction) (status : Status) (before now : Outside) (notes notes' : Noted) : Type 0 where
  pub ended : EndedCorrecting c status before now notes notes'
  pub read_fault : status ≡ ReadFault → Rose before.read_faults now.read_faults
  pub write_fault : status ≡ WriteFault → Rose before.write_faults now.write_faults ⊎ Rose notes.faults notes'.faults
  pub too_long : status ≡ TooLong → Took before.left now.left (λ taken. (most_bytes < length taken) × (length taken ≤ most_bytes + 4096))
  pub not_too_long : status ≢ TooLong → Took before.left now.left (λ taken. length taken ≤ most_bytes)
  pub never_too_long : (bytes : List ℕ) → before.left ≡ Some bytes → length bytes ≤ most_bytes → status ≢ TooLong
  pub source_later : before.read_faults ≤ now.read_faults
  pub sink_later : before.write_faults ≤ now.write_faults
  pub notes_later : notes.faults ≤ notes'.faults

-- what is true of a run, by the correction that its order is, if it is one; a report leaves the second sink as it was
abbrev pub IsRunBy : Option Correction → Order → Status → Outside → Outside → Noted → Noted → Type 0
IsRunBy None order status before now notes notes' = IsRunOf (demand order) status before now × (notes' ≡ notes)
IsRunBy (Some c) order status before now notes notes' = IsCorrecting c status before now notes notes'

abbrev pub IsRun : Order → Status → Outside → Outside → Noted → Noted → Type 0
IsRun order status before now notes notes' = IsRunBy (correction order) order status before now notes notes'
