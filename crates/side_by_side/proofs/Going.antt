-- What is known of the work on an item, by how far it has come.
use Rattle.std.proofs.Common.{◌≡◌, ◌∙◌, inl, inr, ℕ, ◌<◌, List, Result, Ok, Err, IfOk, length, slice_index_or, slice_set, get_or-set_same, get_or-set_other, sym, subst, arith}
use Rattle.std.proofs.lemmas.List.{get_or_default}
use Rattle.std.proofs.lemmas.Bool.{cases_eq}
use Rattle.cha_list.specs.declared.memory.NoMemory.{NoMemory}
use Rattle.cha_outcome.specs.declared.items.Item.{Item}
use Rattle.cha_limits.specs.Bounds.{Bounds}
use Rattle.cha_outcome.specs.declared.questions.FlaggedDraws.{FlaggedDraws}
use Rattle.cha_outcome.specs.declared.questions.Question.{Question}
use Rattle.cha_outcome.specs.declared.questions.Question.TheVariants.{Verdicts, Mates, Plies}
use Rattle.cha_outcome.specs.Outcomes.{CanBeAsked}
use Rattle.side_by_side.specs.declared.cuts.Cut.{Cut}
use Rattle.side_by_side.specs.declared.cuts.Purpose.TheVariants.{Judged, Corrected}
use Rattle.side_by_side.specs.declared.cuts.ItemKind.TheVariants.{Games}
use Rattle.side_by_side.specs.declared.progress.Progress.{Progress}
use Rattle.side_by_side.specs.declared.progress.Progress.TheVariants.{Cut as OnlyCut}
use Rattle.side_by_side.specs.Cuts.{item_of_cut, IsAskedOf}
use Rattle.side_by_side.specs.Progresses.{IsOf, IsAsked, GoesOn, AreAsked, AllGoOn}

pub cut_item : (q : Question) (p : Progress) (cut : Cut) (item : Item) → p ≡ OnlyCut cut → IsOf q item p → item_of_cut cut ≡ item
cut_item q p cut item is of =
    let P : Progress → Type 0 = λ x. IsOf q item x in
    (subst P is of).0

pub cut_goes_on : (q : Question) (old new : Progress) (cut : Cut) (i : Item) → old ≡ OnlyCut cut → i ≡ item_of_cut cut → IsOf q i new → GoesOn q old new
cut_goes_on q old new cut i is same done item of =
    let P : Item → Type 0 = λ x. IsOf q x new in
    subst P (same ∙ cut_item q old cut item is of) done

-- of a game, about which verdicts are asked
abbrev pub CanBeDecided : Result Item NoMemory → Type 0
CanBeDecided result = IfOk result (λ item. (limits : Bounds) (draws : FlaggedDraws) → CanBeAsked (Verdicts limits draws) item)

decided : (limits : Bounds) (draws : FlaggedDraws) (result : Result Item NoMemory) → CanBeDecided result → IfOk result (CanBeAsked (Verdicts limits draws))
decided limits draws (Ok item) all = all limits draws
decided limits draws (Err refused) all = tt

pub game_asked : (q : Question) (result : Result Item NoMemory) → CanBeDecided result → IsAskedOf (Games Judged) q → IfOk result (CanBeAsked q)
game_asked (Verdicts limits draws) result all about = decided limits draws result all
game_asked (Mates side depth) result all about = absurd about
game_asked Plies result all about = absurd about

pub kept_asked : (q : Question) (result : Result Item NoMemory) → CanBeDecided result → IsAskedOf (Games Corrected) q → IfOk result (CanBeAsked q)
kept_asked (Verdicts limits draws) result all about = decided limits draws result all
kept_asked (Mates side depth) result all about = absurd about
kept_asked Plies result all about = absurd about

-- of what nobody works on
pub all_stay : (q : Question) (batch : List Progress) → AllGoOn q batch batch
unfolding AllGoOn
all_stay q batch = λ i d few item of. of

-- where the work on each went on, something is asked about each
pub still_asked : (q : Question) (old now : List Progress) (i : ℕ) (d : Progress) → AreAsked q old → length now ≡ length old → AllGoOn q old now → i < length now → IsAsked q (slice_index_or now i d)
unfolding AllGoOn
still_asked q old now i d asked size goes less =
    let low : i < length old = omega (arith, size, less) in
    let was = asked i d low in
    (was.0, goes i d low was.0 was.1)

-- the work on one more went on
pub goes_on_at : (q : Question) (old now : List Progress) (i : ℕ) (d new : Progress) → length now ≡ length old → AllGoOn q old now → i < length now → GoesOn q (slice_index_or now i d) new → AllGoOn q old (slice_set now i new)
unfolding AllGoOn
goes_on_at q old now i d new size goes less step = λ j e low item of. elim (cases_eq j i) [
  | inl same ↦ (
      let here : slice_index_or (slice_set now i new) j e ≡ new = subst (λ k. slice_index_or (slice_set now i new) k e ≡ new) (sym same) (get_or-set_same now i new e less) in
      let was = subst (λ k. IsOf q item (slice_index_or now k e)) same (goes j e low item of) in
      subst (λ x. IsOf q item x) (sym here) (step item (subst (λ x. IsOf q item x) (get_or_default now i e d less) was)))
  | inr other ↦ subst (λ x. IsOf q item x) (sym (get_or-set_other now i j new e other)) (goes j e low item of)
]
