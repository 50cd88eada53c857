-- What a test keeps of lists, and how many moves are seen in them.
use Rattle.std.proofs.Common.{◌≡◌, ℕ, zero, suc, ◌+◌, ◌<◌, ◌≤◌, Bool, true, false, ◌&&◌, cond, List, [], ◌∷◌, ◌++◌, append-nil, inl, inr, refl, sym, ◌∙◌, ap, arith}
use Rattle.std.specs.List.{Contains, filter, flat_map, range_with_len}
use Rattle.std.proofs.lemmas.Bool.{cases_eq}
use Rattle.std.proofs.lemmas.List.Elements.{filter-append}
use Rattle.cha_board.specs.Squares.{squares}
use Rattle.cha_moves.specs.Step.{Move}
use Rattle.cha_moves.proofs.Contained.{Contains-cons_here, Contains-cons_there}
use Rattle.cha_san.specs.declared.found.Found.{Found}
use Rattle.cha_san.specs.declared.found.Found.TheVariants.{Nothing, Several}
use Rattle.cha_san.specs.Resolving.{only}
use Rattle.cha_san.specs.Seen.{with_one, seen, answered}

both_at : {X : Type 0} (p : X → Bool) (a b : Bool) (x : X) (ys zs : List X) → p x ≡ a → filter p zs ≡ ys → cond (a && b) (x ∷ ys) ys ≡ filter p (cond b (x ∷ zs) zs)
both_at p true true x ys zs e f = rw (e, f) refl
both_at p true false x ys zs e f = sym f
both_at p false true x ys zs e f = rw (e, f) refl
both_at p false false x ys zs e f = sym f

-- what passes two tests passes one of what passes the other
pub filter_both : {X : Type 0} (p r : X → Bool) (xs : List X) → filter (λ x. p x && r x) xs ≡ filter p (filter r xs)
filter_both p r [] = refl
filter_both p r (x ∷ xs) =
    ap (λ ys. cond (p x && r x) (x ∷ ys) ys) (filter_both p r xs) ∙ both_at p (p x) (r x) x (filter p (filter r xs)) (filter r xs) refl refl

-- of pieces that keep nothing, nothing is kept
pub all_empty : {X : Type 0} (p : X → Bool) (f : ℕ → List X) (xs : List ℕ) → ((t : ℕ) → Contains xs t → filter p (f t) ≡ []) → filter p (flat_map f xs) ≡ []
all_empty p f [] none = refl
all_empty p f (x ∷ xs) none =
    filter-append p (f x) (flat_map f xs)
    ∙ rw (none x (Contains-cons_here x xs x refl), all_empty p f xs (λ t inside. none t (Contains-cons_there x xs t inside))) refl

past : {X : Type 0} (p : X → Bool) (f : ℕ → List X) (t a n : ℕ) → ((x : ℕ) → (x ≡ t → ⊥) → filter p (f x) ≡ []) → t < a → filter p (flat_map f (range_with_len a n)) ≡ []
past p f t a zero none h = refl
past p f t a (suc n) none h =
    filter-append p (f a) (flat_map f (range_with_len (a + 1) n))
    ∙ rw (none a (λ e. omega arith), past p f t (a + 1) n none (omega arith)) refl

alone : {X : Type 0} (p : X → Bool) (f : ℕ → List X) (t a n : ℕ) → ((x : ℕ) → (x ≡ t → ⊥) → filter p (f x) ≡ []) → a ≤ t → t < a + n → filter p (flat_map f (range_with_len a n)) ≡ filter p (f t)
alone p f t a zero none low high = absurd (omega arith)
alone p f t a (suc n) none low high =
    filter-append p (f a) (flat_map f (range_with_len (a + 1) n))
    ∙ elim (cases_eq a t) [
      | inl e ↦ ap (λ xs. filter p (f a) ++ xs) (past p f t (a + 1) n none (omega arith)) ∙ append-nil (filter p (f a)) ∙ ap (λ x. filter p (f x)) e
      | inr d ↦ ap (λ xs. xs ++ filter p (flat_map f (range_with_len (a + 1) n))) (none a d) ∙ alone p f t (a + 1) n none (omega arith) (omega arith)
    ]

-- where only one square keeps anything, all squares keep what it keeps
pub of_one_square : {X : Type 0} (p : X → Bool) (f : ℕ → List X) (t : ℕ) → ((x : ℕ) → (x ≡ t → ⊥) → filter p (f x) ≡ []) → t < 64 → filter p (flat_map f squares) ≡ filter p (f t)
unfolding squares
of_one_square p f t none small = alone p f t 0 64 none (omega arith) (omega arith)

-- moves that are found one list after another
pub seen-append : (found : Found) (xs ys : List Move) → seen found (xs ++ ys) ≡ seen (seen found xs) ys
seen-append found [] ys = refl
seen-append found (x ∷ xs) ys = seen-append (with_one found x) xs ys

several : (ms : List Move) → seen Several ms ≡ Several
several [] = refl
several (m ∷ ms) = several ms

-- the one move that is found in a list
pub answered_only : (ms : List Move) → answered (seen Nothing ms) ≡ only ms
answered_only [] = refl
answered_only (m ∷ []) = refl
answered_only (m ∷ n ∷ rest) = ap answered (several rest)
