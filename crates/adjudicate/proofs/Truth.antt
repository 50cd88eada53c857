-- What the words `adjudicate` and `position` alone promise.
use Rattle.std.proofs.Common.{◌≡◌, ◌⊎◌, inl, inr, ℕ, false, List, [], ◌∷◌, Option, Some, None, codes, refl, sym, ap, ◌∙◌, subst}
use Rattle.cha_words.specs.declared.orders.Order.{Order}
use Rattle.cha_words.specs.declared.orders.Order.TheVariants.{AdjudicateGames, JudgePositions}
use Rattle.cha_words.specs.Language.{command_named, limits_in, order_by, order_of}
use Rattle.cha_outcome.specs.declared.questions.FlaggedDraws.TheVariants.{Stand}
use Rattle.report_style.specs.declared.styles.Style.{Style}
use Rattle.report_style.specs.declared.styles.Style.TheVariants.{Blocks}
use Rattle.flag_report.specs.declared.styles.Subject.TheVariants.{Games, Positions}
use Rattle.true_blocks.proofs.Printed.{plain}
use Rattle.true_blocks.proofs.Reports.{all_meant, all_show, true_report, true_shown}
use Rattle.true_blocks.specs.Shown.{ShowsOnlyTruth}
use Rattle.adjudicate.specs.declared.endings.Status.{Status}
use Rattle.adjudicate.specs.declared.endings.Status.TheVariants.{Done}
use Rattle.adjudicate.specs.Corrections.{Noted}
use Rattle.side_by_side.specs.declared.cuts.Purpose.TheVariants.{Judged}
use Rattle.item_batches.specs.Items.{game_items, position_items}
use Rattle.adjudicate.specs.Orders.{IsRun}
use Rattle.adjudicate.specs.Runs.{outside, Grew}
use Rattle.adjudicate.specs.Truth.{usual, ReportsTruth}

-- how a report is printed where no option says otherwise
abbrev usually : Style
usually = Blocks plain

games_alone : order_of (codes "adjudicate" ∷ []) ≡ Some (AdjudicateGames usual false usually)
unfolding order_of order_by command_named
games_alone = refl

positions_alone : order_of (codes "position" ∷ []) ≡ Some (JudgePositions usual usually)
unfolding order_of order_by command_named
positions_alone = refl

-- these words order a search
other_words : (words alone : List (List ℕ)) (o expected : Order) → order_of words ≡ Some o → order_of alone ≡ Some expected → limits_in expected ≡ Some usual → limits_in o ≡ None → words ≡ alone → ⊥
other_words words alone o expected e known searches none is =
    let both : Some expected ≡ Some o = sym known ∙ sym (ap order_of is) ∙ e in
    let same : expected ≡ o = cc in
    let no : Some usual ≡ None = sym searches ∙ ap limits_in same ∙ none in
    cc

pub games_search : (words : List (List ℕ)) (o : Order) → order_of words ≡ Some o → limits_in o ≡ None → words ≡ codes "adjudicate" ∷ [] → ⊥
games_search words o e none is = other_words words (codes "adjudicate" ∷ []) o (AdjudicateGames usual false usually) e games_alone refl none is

pub positions_search : (words : List (List ℕ)) (o : Order) → order_of words ≡ Some o → limits_in o ≡ None → words ≡ codes "position" ∷ [] → ⊥
positions_search words o e none is = other_words words (codes "position" ∷ []) o (JudgePositions usual usually) e positions_alone refl none is

pub both_search : (words : List (List ℕ)) (o : Order) → order_of words ≡ Some o → limits_in o ≡ None → (words ≡ codes "adjudicate" ∷ []) ⊎ (words ≡ codes "position" ∷ []) → ⊥
both_search words o e none (inl is) = games_search words o e none is
both_search words o e none (inr is) = positions_search words o e none is

module _ (left left' a a' : Option (List ℕ)) (f f' g g' : ℕ) (notes notes' : Noted) where
  games_done : IsRun (AdjudicateGames usual false usually) Done (outside left f a g) (outside left' f' a' g') notes notes' → ReportsTruth (game_items Judged) Games left left' a a'
  games_done run =
      let r = run.0.ended in
      let report = r.4.2 in
      (r.0, r.1, r.2, (r.4.0, r.4.1, true_report usual Stand Games (game_items Judged r.0) report.0 r.4.0 report.1 (all_meant usual Stand report.0 report.2) report.3))

  positions_done : IsRun (JudgePositions usual usually) Done (outside left f a g) (outside left' f' a' g') notes notes' → ReportsTruth position_items Positions left left' a a'
  positions_done run =
      let r = run.0.ended in
      let report = r.4.2 in
      (r.0, r.1, r.2, (r.4.0, r.4.1, true_report usual Stand Positions (position_items r.0) report.0 r.4.0 report.1 (all_meant usual Stand report.0 report.2) report.3))

  games_shown : IsRun (AdjudicateGames usual false usually) Done (outside left f a g) (outside left' f' a' g') notes notes' → Grew a a' (ShowsOnlyTruth usual)
  games_shown run =
      let r = run.0.ended in
      let report = r.4.2 in
      (r.4.0, r.4.1, true_shown usual Stand Games report.0 r.4.0 (all_meant usual Stand report.0 report.2) (all_show usual Stand 1 report.0 report.2) report.3)

  positions_shown : IsRun (JudgePositions usual usually) Done (outside left f a g) (outside left' f' a' g') notes notes' → Grew a a' (ShowsOnlyTruth usual)
  positions_shown run =
      let r = run.0.ended in
      let report = r.4.2 in
      (r.4.0, r.4.1, true_shown usual Stand Positions report.0 r.4.0 (all_meant usual Stand report.0 report.2) (all_show usual Stand 1 report.0 report.2) report.3)

  abbrev Ran : Order → Status → Type 0
  Ran o s = IsRun o s (outside left f a g) (outside left' f' a' g') notes notes'

  -- the words order nothing else
  ordered : (words alone : List (List ℕ)) (o expected : Order) (s : Status) → order_of words ≡ Some o → order_of alone ≡ Some expected → words ≡ alone → s ≡ Done → Ran o s → Ran expected Done
  ordered words alone o expected s e known is done run =
      let both : Some expected ≡ Some o = sym known ∙ sym (ap order_of is) ∙ e in
      let same : o ≡ expected = cc in
      subst (λ x. Ran expected x) done (subst (λ x. Ran x s) same run)

  pub games_true : (words : List (List ℕ)) (o : Order) (s : Status) → order_of words ≡ Some o → Ran o s → words ≡ codes "adjudicate" ∷ [] → s ≡ Done → ReportsTruth (game_items Judged) Games left left' a a'
  games_true words o s e run is done = games_done (ordered words (codes "adjudicate" ∷ []) o (AdjudicateGames usual false usually) s e games_alone is done run)

  pub positions_true : (words : List (List ℕ)) (o : Order) (s : Status) → order_of words ≡ Some o → Ran o s → words ≡ codes "position" ∷ [] → s ≡ Done → ReportsTruth position_items Positions left left' a a'
  positions_true words o s e run is done = positions_done (ordered words (codes "position" ∷ []) o (JudgePositions usual usually) s e positions_alone is done run)

  pub truth_shown : (words : List (List ℕ)) (o : Order) (s : Status) → order_of words ≡ Some o → Ran o s → (words ≡ codes "adjudicate" ∷ []) ⊎ (words ≡ codes "position" ∷ []) → s ≡ Done → Grew a a' (ShowsOnlyTruth usual)
  truth_shown words o s e run (inl is) done = games_shown (ordered words (codes "adjudicate" ∷ []) o (AdjudicateGames usual false usually) s e games_alone is done run)
  truth_shown words o s e run (inr is) done = positions_shown (ordered words (codes "position" ∷ []) o (JudgePositions usual usually) s e positions_alone is done run)
