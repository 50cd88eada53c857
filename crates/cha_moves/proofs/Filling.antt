-- What a side attacks once squares are filled by men of the other side.
use Rattle.std.proofs.Common.{◌≡◌, ℕ, ◌<◌, true, false, ◌&&◌, List, length, get_or, Option, Some, None, slice_set, ◌⊎◌, inl, inr, sym, ◌∙◌, ap}
use Rattle.std.proofs.lemmas.Bool.{and_parts, and_from, both_ways, cases_Bool, cases_eq, false_from_ne_true}
use Rattle.std.proofs.lemmas.List.Sums.{AllPass-from_list_all, list_all-from_AllPass}
use Rattle.cha_board.specs.declared.men.Color.{Color}
use Rattle.cha_board.specs.declared.men.Man.{Man}
use Rattle.cha_board.specs.Men.{same_color, is_vacant}
use Rattle.cha_board.specs.Squares.{aims_at, between}
use Rattle.cha_board.specs.Board.{man_at, is_empty, is_clear, attacks_as, attacked}
use Rattle.cha_board.proofs.Sightings.{attacked_from, attacked_by_none}
use Rattle.cha_moves.proofs.Made.{put, put_other}

-- a man that is not of c stands there
pub record Foreign (c : Color) (o : Option Man) : Type 0 where
  pub man : Man
  pub found : o ≡ Some man
  pub other : same_color man.color c ≡ false

-- each square shows what it showed before, or a man that is not of c
abbrev pub IsFilled : Color → List (Option Man) → List (Option Man) → Type 0
IsFilled c men now = (u : ℕ) → (man_at now u ≡ man_at men u) ⊎ Foreign c (man_at now u)

empty_before : (c : Color) (old new : Option Man) → (new ≡ old) ⊎ Foreign c new → is_vacant new ≡ true → is_vacant old ≡ true
empty_before c old new (inl e) free = ap is_vacant (sym e) ∙ free
empty_before c old new (inr f) free = (let none : is_vacant new ≡ false = ap is_vacant f.found in absurd (both_ways (is_vacant new) none free))

clear_before : (c : Color) (men now : List (Option Man)) (s t : ℕ) → IsFilled c men now → is_clear now s t ≡ true → is_clear men s t ≡ true
unfolding is_clear
clear_before c men now s t filled h =
    list_all-from_AllPass (λ u. is_empty men u) (between s t) (λ k d inside.
    empty_before c (man_at men (get_or (between s t) k d)) (man_at now (get_or (between s t) k d)) (filled (get_or (between s t) k d)) (AllPass-from_list_all (λ u. is_empty now u) (between s t) h k d inside))

attacks_by : (c : Color) (men now : List (Option Man)) (t s : ℕ) (o : Option Man) → IsFilled c men now → attacks_as now c t s o ≡ true → attacks_as men c t s o ≡ true
unfolding attacks_as
attacks_by c men now t s None filled h = cc
attacks_by c men now t s (Some man) filled h =
    let both = and_parts (same_color man.color c && aims_at c man.kind s t) (is_clear now s t) h in
    and_from (same_color man.color c && aims_at c man.kind s t) (is_clear men s t) both.0 (clear_before c men now s t filled both.1)

pub foreign_idle : (c : Color) (men : List (Option Man)) (t s : ℕ) (o : Option Man) → Foreign c o → attacks_as men c t s o ≡ true → ⊥
unfolding attacks_as
foreign_idle c men t s None f h = cc
foreign_idle c men t s (Some man) f h =
    let both = and_parts (same_color man.color c && aims_at c man.kind s t) (is_clear men s t) h in
    let own = (and_parts (same_color man.color c) (aims_at c man.kind s t) both.0).0 in
    let same : man ≡ f.man = cc in
    let there : same_color man.color c ≡ false = ap (λ (x : Man). same_color x.color c) same ∙ f.other in
    both_ways (same_color man.color c) there own

pub attacks_before : (c : Color) (men now : List (Option Man)) (t s : ℕ) → IsFilled c men now → attacks_as now c t s (man_at now s) ≡ true → attacks_as men c t s (man_at men s) ≡ true
attacks_before c men now t s filled h = elim (filled s) [
  | inl e ↦ attacks_by c men now t s (man_at men s) filled (ap (attacks_as now c t s) (sym e) ∙ h)
  | inr f ↦ absurd (foreign_idle c now t s (man_at now s) f h)
]

-- a square that c does not attack is not attacked once squares are filled
pub still_safe : (c : Color) (men now : List (Option Man)) (t : ℕ) → IsFilled c men now → attacked men c t ≡ false → attacked now c t ≡ false
still_safe c men now t filled safe =
    attacked_by_none now c t (λ s small.
    false_from_ne_true (attacks_as now c t s (man_at now s)) (λ h. both_ways (attacked men c t) safe (attacked_from men c t s small (attacks_before c men now t s filled h))))

-- which man of the other side stands on a square is all the same
pub same_attacks : (c : Color) (a b : List (Option Man)) (t : ℕ) → IsFilled c a b → IsFilled c b a → attacked a c t ≡ attacked b c t
same_attacks c a b t there back = elim (cases_Bool (attacked a c t)) [
  | inl yes' ↦ elim (cases_Bool (attacked b c t)) [
    | inl also ↦ yes' ∙ sym also
    | inr none ↦ absurd (both_ways (attacked a c t) (still_safe c b a t back none) yes')
  ]
  | inr none ↦ none ∙ sym (still_safe c a b t there none)
]

-- a square filled by a man that is not of c
pub filled_put : (c : Color) (men : List (Option Man)) (s : ℕ) (man : Man) → s < length men → same_color man.color c ≡ false → IsFilled c men (slice_set men s (Some man))
filled_put c men s man inside other = λ u. elim (cases_eq u s) [
  | inl e ↦ inr (record { man = man; found = ap (man_at (slice_set men s (Some man))) e ∙ put men s (Some man) inside; other = other })
  | inr ne ↦ inl (put_other men s (Some man) u ne)
]

-- one square filled by one such man or by another
pub filled_either : (c : Color) (men : List (Option Man)) (s : ℕ) (a b : Man) → s < length men → same_color b.color c ≡ false → IsFilled c (slice_set men s (Some a)) (slice_set men s (Some b))
filled_either c men s a b inside other = λ u. elim (cases_eq u s) [
  | inl e ↦ inr (record { man = b; found = ap (man_at (slice_set men s (Some b))) e ∙ put men s (Some b) inside; other = other })
  | inr ne ↦ inl (put_other men s (Some b) u ne ∙ sym (put_other men s (Some a) u ne))
]
