-- Lists of names, and lists of which one changes.
use Rattle.std.proofs.Common.{◌≡◌, ℕ, zero, suc, ◌<◌, ◌≤◌, ◌⊎◌, inl, inr, List, [], ◌∷◌, length, replicate, refl, sym, ap, subst, ◌∙◌, arith, set, length-set}
use Rattle.node_store.specs.NameLists.{list_at, Has, AreBelow, Falls, rest_of}
use Rattle.node_store.specs.Chained.{AreChained}

-- a list of which one was replaced is the new one or is as it was
pub at_set : (lists : List (List ℕ)) (b : ℕ) (l : List ℕ) (k : ℕ) → ((k ≡ b) × (list_at (set lists b l) k ≡ l)) ⊎ (list_at (set lists b l) k ≡ list_at lists k)
at_set [] b l k = inr refl
at_set (x ∷ xs) zero l zero = inl (refl, refl)
at_set (x ∷ xs) zero l (suc k) = inr refl
at_set (x ∷ xs) (suc b) l zero = inr refl
at_set (x ∷ xs) (suc b) l (suc k) = elim (at_set xs b l k) [
  | inl here ↦ inl (ap suc here.0, here.1)
  | inr there ↦ inr there
]

-- the list that was put there
pub at_set_same : (lists : List (List ℕ)) (b : ℕ) (l : List ℕ) → b < length lists → list_at (set lists b l) b ≡ l
at_set_same [] b l h = absurd (omega arith)
at_set_same (x ∷ xs) zero l h = refl
at_set_same (x ∷ xs) (suc b) l h = at_set_same xs b l (omega arith)

-- a front is a name of the list
pub has_front : (x : ℕ) (xs : List ℕ) → Has (x ∷ xs) x
unfolding Has
has_front x xs = inl refl

pub has_rest : (xs : List ℕ) (n : ℕ) → Has (rest_of xs) n → Has xs n
unfolding Has
has_rest [] n h = h
has_rest (x ∷ xs) n h = inr h

-- what is in front of a list, or in it
pub has_cases : (x : ℕ) (xs : List ℕ) (n : ℕ) → Has (x ∷ xs) n → (n ≡ x) ⊎ Has xs n
unfolding Has
has_cases x xs n h = h

pub has_none : (n : ℕ) → Has [] n → ⊥
unfolding Has
has_none n h = h

-- falling names below a number are at most so many
pub few_fall : (xs : List ℕ) (bound : ℕ) → Falls xs → AreBelow xs bound → length xs ≤ bound
unfolding Falls Has
few_fall [] bound falls below = omega arith
few_fall (x ∷ xs) bound falls below =
    let rest : length xs ≤ x = few_fall xs x falls.1 falls.0 in
    let first : x < bound = below x (inl refl) in
    omega arith

pub falls_put : (x : ℕ) (xs : List ℕ) → AreBelow xs x → Falls xs → Falls (x ∷ xs)
unfolding Falls
falls_put x xs below falls = (below, falls)

pub falls_rest : (xs : List ℕ) → Falls xs → Falls (rest_of xs)
unfolding Falls
falls_rest [] falls = falls
falls_rest (x ∷ xs) falls = falls.1

pub falls_none : Falls []
unfolding Falls
falls_none = tt

-- what follows the front is below it
pub below_front : (x : ℕ) (xs : List ℕ) → Falls (x ∷ xs) → AreBelow xs x
unfolding Falls
below_front x xs falls = falls.0

pub below_put : (x : ℕ) (xs : List ℕ) (bound : ℕ) → x < bound → AreBelow xs bound → AreBelow (x ∷ xs) bound
below_put x xs bound first rest n h = elim (has_cases x xs n h) [
  | inl is ↦ omega arith
  | inr later ↦ rest n later
]

-- another list of names that exist and fall may take the place of one
pub chained_set : (lists : List (List ℕ)) (slots b : ℕ) (l : List ℕ) → AreChained lists slots → AreBelow l slots → Falls l → AreChained (set lists b l) slots
chained_set lists slots b l was below falls = record {
  size = length-set lists b l ∙ was.size;
  few = was.few;
  below = λ k n h. elim (at_set lists b l k) [
    | inl here ↦ below n (subst (λ (xs : List ℕ). Has xs n) here.1 h)
    | inr there ↦ was.below k n (subst (λ (xs : List ℕ). Has xs n) there h)
  ];
  falls = λ k. elim (at_set lists b l k) [
    | inl here ↦ subst Falls (sym here.1) falls
    | inr there ↦ subst Falls (sym there) (was.falls k)
  ];
}

-- one more name may exist
pub chained_more : (lists : List (List ℕ)) (slots more : ℕ) → AreChained lists slots → slots ≤ more → more < 4294967296 → AreChained lists more
chained_more lists slots more was le few = record {
  size = was.size;
  few = few;
  below = λ k n h. let lt : n < slots = was.below k n h in omega arith;
  falls = was.falls;
}

pub at_empty : (n k : ℕ) → list_at (replicate n []) k ≡ []
at_empty zero k = refl
at_empty (suc n) zero = refl
at_empty (suc n) (suc k) = at_empty n k

-- empty lists
pub chained_none : AreChained (replicate 64 []) 0
chained_none = record {
  size = refl;
  few = omega arith;
  below = λ k n h. absurd (has_none n (subst (λ (xs : List ℕ). Has xs n) (at_empty 64 k) h));
  falls = λ k. subst Falls (sym (at_empty 64 k)) falls_none;
}

-- lists past the last are empty
pub all_none : (lists : List (List ℕ)) (size : ℕ) → length lists ≡ size → ((k : ℕ) → k < size → list_at lists k ≡ []) → (k : ℕ) → list_at lists k ≡ []
all_none [] size is none k = refl
all_none (x ∷ xs) size is none zero = none 0 (omega arith)
all_none (x ∷ xs) size is none (suc k) = all_none xs (length xs) refl (λ j within. none (suc j) (omega arith)) k
