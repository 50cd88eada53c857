-- The report of sound outcomes is true of its items.
use Rattle.std.proofs.Common.{◌≡◌, ℕ, ◌+◌, List, [], ◌∷◌, ◌++◌, map, ap, ◌∙◌}
use Rattle.cha_limits.specs.Bounds.{Bounds}
use Rattle.cha_outcome.specs.declared.items.Item.{Item}
use Rattle.cha_outcome.specs.declared.outcomes.Outcome.{Outcome}
use Rattle.cha_outcome.specs.declared.questions.FlaggedDraws.{FlaggedDraws}
use Rattle.cha_outcome.specs.declared.questions.Question.TheVariants.{Verdicts}
use Rattle.cha_outcome.specs.Outcomes.{item_of, AllSound}
use Rattle.cha_outcome.specs.Totals.{totals_of}
use Rattle.report_style.specs.declared.styles.Style.TheVariants.{Blocks}
use Rattle.flag_report.specs.declared.styles.Subject.{Subject}
use Rattle.flag_report.specs.Styles.{blocks}
use Rattle.flag_report.specs.Totals.{summary_text}
use Rattle.true_blocks.specs.Plain.{plain_blocks, AllMeant, IsTrueReport}
use Rattle.true_blocks.specs.Shown.{AllShow, ShowsOnlyTruth}
use Rattle.true_blocks.proofs.Meaning.{meant}
use Rattle.true_blocks.proofs.Printed.{plain, same_blocks}
use Rattle.true_blocks.proofs.Shown.{shows_truth}

module _ (limits : Bounds) (draws : FlaggedDraws) where
  pub all_meant : (os : List Outcome) → AllSound (Verdicts limits draws) os → AllMeant limits draws os
  all_meant [] sound = tt
  all_meant (o ∷ os) sound = (meant limits draws o sound.0, all_meant os sound.1)

  pub all_show : (number : ℕ) (os : List Outcome) → AllSound (Verdicts limits draws) os → AllShow limits number os
  all_show number [] sound = tt
  all_show number (o ∷ os) sound = (shows_truth limits draws number o sound.0, all_show (number + 1) os sound.1)

  -- what was printed is the plain report
  plain_out : (subject : Subject) (os : List Outcome) (out : List ℕ) → AllMeant limits draws os → out ≡ blocks (Blocks plain) 1 os ++ summary_text subject (totals_of os) → out ≡ plain_blocks 1 os ++ summary_text subject (totals_of os)
  plain_out subject os out meant is = is ∙ ap (λ x. x ++ summary_text subject (totals_of os)) (same_blocks limits draws 1 os meant)

  pub true_report : (subject : Subject) (items : List Item) (os : List Outcome) (out : List ℕ) → map item_of os ≡ items → AllMeant limits draws os → out ≡ blocks (Blocks plain) 1 os ++ summary_text subject (totals_of os) → IsTrueReport limits draws subject items out
  true_report subject items os out e meant is = (os, e, meant, plain_out subject os out meant is)

  pub true_shown : (subject : Subject) (os : List Outcome) (out : List ℕ) → AllMeant limits draws os → AllShow limits 1 os → out ≡ blocks (Blocks plain) 1 os ++ summary_text subject (totals_of os) → ShowsOnlyTruth limits out
  true_shown subject os out meant shown is = (os, subject, shown, plain_out subject os out meant is)
