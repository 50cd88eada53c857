-- Which names wait as names are put into lists and taken.
use Rattle.std.proofs.Common.{◌≡◌, ℕ, zero, suc, ◌<◌, ◌⊎◌, inl, inr, List, [], ◌∷◌, length, None, Some, sym, subst, ◌∙◌, arith}
use Rattle.std.proofs.lemmas.Option.{same_Some}
use Rattle.node_store.specs.NameLists.{list_at, Has, put, first_name, without_first}
use Rattle.node_store.proofs.Naming.{at_set, at_set_same, has_cases, has_none, has_front}
use Rattle.forced_graph.specs.Regions.{Waits}
use Rattle.forced_graph.specs.HowManyWait.{how_many}

has_later : (x : ℕ) (xs : List ℕ) (n : ℕ) → Has xs n → Has (x ∷ xs) n
unfolding Has
has_later x xs n h = inr h

has_same : (x : ℕ) (xs : List ℕ) (n : ℕ) → x ≡ n → Has (x ∷ xs) n
unfolding Has
has_same x xs n e = inl (sym e)

-- the name that comes first waits
first_has : (ls : List (List ℕ)) (n : ℕ) → first_name ls ≡ Some n → (b : ℕ) × Has (list_at ls b) n
first_has [] n e = cc
first_has ([] ∷ ls) n e = let w = first_has ls n e in (suc w.0, w.1)
first_has ((x ∷ xs) ∷ ls) n e = (0, has_same x xs n (same_Some x n e))

pub first_waits : (ls : List (List ℕ)) (n : ℕ) → first_name ls ≡ Some n → Waits ls n
unfolding Waits
first_waits ls n e = first_has ls n e

has_on : (ls : List (List ℕ)) (m b n : ℕ) → first_name ls ≡ Some m → Has (list_at ls b) n → (n ≡ m) ⊎ Has (list_at (without_first ls) b) n
has_on [] m b n e h = cc
has_on ([] ∷ ls) m zero n e h = absurd (has_none n h)
has_on ([] ∷ ls) m (suc b) n e h = has_on ls m b n e h
has_on ((x ∷ xs) ∷ ls) m zero n e h = elim (has_cases x xs n h) [
  | inl is ↦ inl (is ∙ same_Some x m e)
  | inr later ↦ inr later
]
has_on ((x ∷ xs) ∷ ls) m (suc b) n e h = inr h

-- what waits beside it goes on waiting
pub waits_on : (ls : List (List ℕ)) (m n : ℕ) → first_name ls ≡ Some m → Waits ls n → (n ≡ m) ⊎ Waits (without_first ls) n
unfolding Waits
waits_on ls m n e w = elim (has_on ls m w.0 n e w.1) [
  | inl is ↦ inl is
  | inr h ↦ inr (w.0, h)
]

has_before : (ls : List (List ℕ)) (b n : ℕ) → Has (list_at (without_first ls) b) n → Has (list_at ls b) n
has_before [] b n h = h
has_before ([] ∷ ls) zero n h = h
has_before ([] ∷ ls) (suc b) n h = has_before ls b n h
has_before ((x ∷ xs) ∷ ls) zero n h = has_later x xs n h
has_before ((x ∷ xs) ∷ ls) (suc b) n h = h

-- and waited before
pub waited : (ls : List (List ℕ)) (n : ℕ) → Waits (without_first ls) n → Waits ls n
unfolding Waits
waited ls n w = (w.0, has_before ls w.0 n w.1)

none_has : (ls : List (List ℕ)) (b n : ℕ) → first_name ls ≡ None → Has (list_at ls b) n → ⊥
none_has [] b n e h = has_none n h
none_has ([] ∷ ls) zero n e h = has_none n h
none_has ([] ∷ ls) (suc b) n e h = none_has ls b n e h
none_has ((x ∷ xs) ∷ ls) b n e h = cc

-- where no name comes first none waits
pub none_waits : (ls : List (List ℕ)) → first_name ls ≡ None → (n : ℕ) → Waits ls n → ⊥
unfolding Waits
none_waits ls e n w = none_has ls w.0 n e w.1

-- and else they get fewer
pub fewer_wait : (ls : List (List ℕ)) (m : ℕ) → first_name ls ≡ Some m → how_many (without_first ls) < how_many ls
fewer_wait [] m e = cc
fewer_wait ([] ∷ ls) m e = (let rest = fewer_wait ls m e in omega arith)
fewer_wait ((x ∷ xs) ∷ ls) m e = omega arith

-- no list has a name that waits nowhere
pub waits_nowhere : (ls : List (List ℕ)) (n : ℕ) → ((b : ℕ) → Has (list_at ls b) n → ⊥) → Waits ls n → ⊥
unfolding Waits
waits_nowhere ls n nowhere w = nowhere w.0 w.1

-- a name that is put into a list waits, and the others go on
pub put_waits : (ls : List (List ℕ)) (b name : ℕ) → b < length ls → Waits (put ls b name) name
unfolding Waits
put_waits ls b name within =
    (b, subst (λ (xs : List ℕ). Has xs name) (sym (at_set_same ls b (name ∷ list_at ls b) within)) (has_front name (list_at ls b)))

pub put_waits_on : (ls : List (List ℕ)) (b name n : ℕ) → Waits ls n → Waits (put ls b name) n
unfolding Waits
put_waits_on ls b name n w = elim (at_set ls b (name ∷ list_at ls b) w.0) [
  | inl here ↦ (w.0, subst (λ (xs : List ℕ). Has xs n) (sym here.1) (has_later name (list_at ls b) n (subst (λ (k : ℕ). Has (list_at ls k) n) here.0 w.1)))
  | inr there ↦ (w.0, subst (λ (xs : List ℕ). Has xs n) (sym there) w.1)
]

-- and no others wait
pub put_waited : (ls : List (List ℕ)) (b name n : ℕ) → Waits (put ls b name) n → (n ≡ name) ⊎ Waits ls n
unfolding Waits
put_waited ls b name n w = elim (at_set ls b (name ∷ list_at ls b) w.0) [
  | inl here ↦ elim (has_cases name (list_at ls b) n (subst (λ (xs : List ℕ). Has xs n) here.1 w.1)) [
    | inl is ↦ inl is
    | inr later ↦ inr (b, later)
  ]
  | inr there ↦ inr (w.0, subst (λ (xs : List ℕ). Has xs n) there w.1)
]
