-- Prefixes of one history.
use Rattle.std.proofs.Common.{◌≡◌, ◌∙◌, sym, ap, subst, refl, ℕ, ◌≤◌, ◌<◌, Bool, true, false, cond, length, List, [], ◌∷◌, ◌++◌, arith, length-append, append-nil, append_assoc, nat_eq, nat_lt}
use Rattle.std.proofs.lemmas.List.Elements.{filter-append}
use Rattle.std.proofs.lemmas.Bool.{ltb-true, ltb-false}
use Rattle.cha_list.proofs.Longer.{left_nothing}
use Rattle.turn_cell.specs.Histories.{IsPrefix, entries_of, longer_of}
use Rattle.turn_cell.specs.Views.{shorter_of}
use Rattle.turn_cell.specs.declared.object.Entry.{Entry}

nil_short : {A : Type 0} (xs : List A) → length xs ≤ 0 → xs ≡ []
nil_short [] h = refl
nil_short (x ∷ xs) h = absurd (omega (arith, h))

head_is : {A : Type 0} (x y : A) (xs ys : List A) → x ∷ xs ≡ y ∷ ys → x ≡ y
head_is x y xs ys e = cc

tail_is : {A : Type 0} (x y : A) (xs ys : List A) → x ∷ xs ≡ y ∷ ys → xs ≡ ys
tail_is x y xs ys e = cc

-- of two prefixes of one list the shorter_of is a prefix of the longer_of
meet_lists : {A : Type 0} (a b r t : List A) → a ++ r ≡ b ++ t → length a ≤ length b → (u : List A) × (b ≡ a ++ u)
meet_lists [] b r t e h = (b, refl)
meet_lists (x ∷ a) [] r t e h = absurd (omega (arith, h))
meet_lists (x ∷ a) (y ∷ b) r t e h =
    let m = meet_lists a b r t (tail_is x y (a ++ r) (b ++ t) e) (omega (arith, h)) in
    (m.0, subst (λ z. z ∷ b ≡ x ∷ (a ++ m.0)) (head_is x y (a ++ r) (b ++ t) e) (ap (λ zs. x ∷ zs) m.1))

-- nothing is added where a list is no longer_of
none_left : {A : Type 0} (a r x : List A) → x ≡ a ++ r → length x ≤ length a → r ≡ []
none_left a r x e h = let l = ap length e ∙ length-append a r in nil_short r (omega (arith, h, l))

same_left : {A : Type 0} (a r : List A) → a ≡ a ++ r → r ≡ []
same_left a r e = none_left a r a e (omega arith)

module _ {C R : Type 0} (xs ys history : List (Entry C R)) (x_in : IsPrefix xs history) (y_in : IsPrefix ys history) where
  pub meet : length xs ≤ length ys → IsPrefix xs ys
  meet h = meet_lists xs ys x_in.0 y_in.0 (sym x_in.1 ∙ y_in.1) h

pub goes_same : {C R : Type 0} (xs : List (Entry C R)) → IsPrefix xs xs
goes_same xs = ([], sym (append-nil xs))

pub goes_all : {C R : Type 0} (xs history : List (Entry C R)) → IsPrefix xs history → length history ≤ length xs → xs ≡ history
goes_all xs history g h = sym (g.1 ∙ (ap (λ r. xs ++ r) (none_left xs g.0 history g.1 h) ∙ append-nil xs))

module _ {C R : Type 0} (n : ℕ) where
  pub by_more : (xs ys : List (Entry C R)) → entries_of n (xs ++ ys) ≡ entries_of n xs ++ entries_of n ys
  by_more xs ys = filter-append (λ e. nat_eq e.number n) xs ys

  pub none_seen : (seen history : List (Entry C R)) → IsPrefix seen history → entries_of n history ≡ [] → entries_of n seen ≡ []
  none_seen seen history g h = left_nothing (entries_of n seen) (entries_of n g.0) (sym (by_more seen g.0) ∙ (ap (entries_of n) (sym g.1) ∙ h))

  -- what stands between has no more
  pub squeeze : (xs ys history m : List (Entry C R)) → IsPrefix xs ys → IsPrefix ys history → entries_of n xs ≡ m → entries_of n history ≡ m → entries_of n ys ≡ m
  squeeze xs ys history m g h low high =
      let a : entries_of n ys ≡ m ++ entries_of n g.0 = ap (entries_of n) g.1 ∙ (by_more xs g.0 ∙ ap (λ z. z ++ entries_of n g.0) low) in
      let b : entries_of n history ≡ entries_of n ys ++ entries_of n h.0 = ap (entries_of n) h.1 ∙ by_more ys h.0 in
      let c : m ≡ m ++ (entries_of n g.0 ++ entries_of n h.0) = sym high ∙ (b ∙ (ap (λ z. z ++ entries_of n h.0) a ∙ append_assoc m (entries_of n g.0) (entries_of n h.0))) in
      let d = left_nothing (entries_of n g.0) (entries_of n h.0) (same_left m (entries_of n g.0 ++ entries_of n h.0) c) in
      a ∙ (ap (λ z. m ++ z) d ∙ append-nil m)

-- both lists of a join
module _ {C R : Type 0} (xs ys history : List (Entry C R)) where
  choose : (b : Bool) → nat_lt (length xs) (length ys) ≡ b → (P : List (Entry C R) → List (Entry C R) → Type 0)
      → (length xs < length ys → P ys xs) → (length ys ≤ length xs → P xs ys) → P (cond b ys xs) (cond b xs ys)
  choose true e P f g = f (ltb-true (length xs) (length ys) e)
  choose false e P f g = g (ltb-false (length xs) (length ys) e)

  pub either_way : (P : List (Entry C R) → List (Entry C R) → Type 0)
      → (length xs < length ys → P ys xs) → (length ys ≤ length xs → P xs ys) → P (longer_of xs ys) (shorter_of xs ys)
  either_way P f g = choose (nat_lt (length xs) (length ys)) refl P f g

  pub longer_in : IsPrefix xs history → IsPrefix ys history → IsPrefix (longer_of xs ys) history × IsPrefix (shorter_of xs ys) history
  longer_in x y = either_way (λ a b. IsPrefix a history × IsPrefix b history) (λ h. (y, x)) (λ h. (x, y))

  pub both_in : IsPrefix (longer_of xs ys) history → IsPrefix (shorter_of xs ys) history → IsPrefix xs (longer_of xs ys) × IsPrefix ys (longer_of xs ys)
  both_in = either_way (λ a b. IsPrefix a history → IsPrefix b history → IsPrefix xs a × IsPrefix ys a)
      (λ h p q. (meet xs ys history q p (omega (arith, h)), goes_same ys))
      (λ h p q. (goes_same xs, meet ys xs history q p h))

  -- where one of the two is the whole history, so is the longer_of
  pub longer_all : IsPrefix xs history → IsPrefix ys history → length history ≤ length xs → longer_of xs ys ≡ history
  longer_all x y h = either_way (λ a b. a ≡ history)
      (λ lt. let l = ap length y.1 ∙ length-append ys y.0 in absurd (omega (arith, lt, l, h)))
      (λ le. goes_all xs history x h)

  pub longer_all' : IsPrefix xs history → IsPrefix ys history → length history ≤ length ys → longer_of xs ys ≡ history
  longer_all' x y h = either_way (λ a b. a ≡ history)
      (λ lt. goes_all ys history y h)
      (λ le. goes_all xs history x (omega (arith, le, h)))
