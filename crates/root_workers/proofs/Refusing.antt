-- A part of a round that was refused memory before its first root move.
use Rattle.std.proofs.Common.{◌≡◌, ◌∙◌, ℕ, true, List, [], refl, sym, subst}
use Rattle.std.specs.List.{Contains}
use Rattle.cha_list.specs.Distinct.{AreDistinct}
use Rattle.cha_list.proofs.Distinct.{none_apart}
use Rattle.cha_moves.specs.Step.{Move}
use Rattle.cha_moves.proofs.Contained.{not_in_nothing}
use Rattle.cha_fact.specs.Entries.{Entry}
use Rattle.root_workers.specs.declared.task.RoundTask.{RoundTask}
use Rattle.root_workers.specs.declared.work.Work.{Work}
use Rattle.root_workers.specs.Shares.{IsRefused, IsShare, ShareCalls, AllGrowTo}

share_itself : (w : Work) → IsRefused w → (task : RoundTask) (moves : List Move) (i count : ℕ) → IsShare task moves i count w
share_itself w is task moves i count = record {
  cleared = λ j there. (let C : List ℕ → Type 0 = λ xs. Contains xs j in absurd (not_in_nothing j (subst C is.0 there)));
  once = (let D : List ℕ → Type 0 = λ xs. AreDistinct xs in subst D (sym is.0) (none_apart ℕ));
  whole = λ whole. (let e = sym is.3 ∙ whole.2 in cc);
  mate = λ mate at. (let e = sym is.1 ∙ at in cc);
  spent = λ spent. (let e = sym is.2 ∙ spent in cc);
}

-- the work that was left is it
pub refused_share : (left work : Work) → IsRefused left → work ≡ left → (task : RoundTask) (moves : List Move) (i count : ℕ) → IsShare task moves i count work
refused_share left work is same task moves i count =
    let P : Work → Type 0 = λ x. IsShare task moves i count x in
    subst P (sym same) (share_itself left is task moves i count)

pub refused_calls : {S : Type 0} (made : S → List Entry → S → Type 0) (a b : S) → made a [] b → (left work : Work) → left.refused ≡ true → work ≡ left → (task : RoundTask) (moves : List Move) (i count : ℕ) → ShareCalls made a b task moves i count work
unfolding ShareCalls
refused_calls made a b makes left work is same task moves i count =
    let P : Work → Type 0 = λ x. x.refused ≡ true in
    let refused : work.refused ≡ true = subst P (sym same) is in
    ([], makes, (λ few. refl), (λ deep whole. (let e = sym refused ∙ whole.2 in cc)))

-- where nobody made a call
pub none_grow : {S : Type 0} (made_by : ℕ → S → List Entry → S → Type 0) (a b : S) (depth count : ℕ) → ((i : ℕ) → made_by i a [] b) → AllGrowTo depth made_by a b count
unfolding AllGrowTo
none_grow made_by a b depth count made i less = ([], made i, (λ few. refl))
