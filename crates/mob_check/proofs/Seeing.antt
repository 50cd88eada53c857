-- What is seen over the fixed squares.
use Rattle.std.proofs.Common.{◌≡◌, ℕ, ◌<◌, Bool, true, false, not, ◌&&◌, ◌||◌, ◌==◌, length, None, refl, ap, sym, ◌∙◌, arith, inl, inr}
use Rattle.std.specs.List.{list_all}
use Rattle.std.proofs.lemmas.Bool.{cases_lt, ne_eqb}
use Rattle.std.proofs.lemmas.List.{get_or_past}
use Rattle.cha_board.specs.Men.{is_vacant}
use Rattle.cha_board.specs.Squares.{between}
use Rattle.cha_board.specs.SquareSets.{set_of, has_square, set_without}
use Rattle.cha_board.proofs.SetLaws.{length-set_of, has-set_of}
use Rattle.cha_board.specs.Aims.{is_open as is_seen}
use Rattle.cha_board.specs.Board.{Board, is_empty}
use Rattle.mob_sets.specs.Mobility.{Sets}
use Rattle.mob_law.specs.Reach.{is_fixed, is_open, is_open_through}

without_test : (a b : Bool) → not (not a && b) ≡ (a || not b)
without_test true b = refl
without_test false b = refl

module _ (p : Board) (s : Sets) (size : length p.men ≡ 64) where
  fixed_has : (v : ℕ) → has_square (set_of (is_fixed p s)) v ≡ is_fixed p s v
  unfolding is_fixed
  fixed_has v =
      let test = λ (f : ℕ). not (is_empty p.men f) && not (s.loose f) in
      elim (cases_lt v 64) [
        | inl small ↦ has-set_of test v small
        | inr past ↦ get_or_past (set_of test) v false (omega (arith, length-set_of test, past))
            ∙ sym (ap (λ o. not (is_vacant o) && not (s.loose v)) (get_or_past p.men v None (omega (arith, size, past))))
      ]

  without_has : (k v : ℕ) → k < 64 → not (has_square (set_without (set_of (is_fixed p s)) k) v) ≡ ((v == k) || not (is_fixed p s v))
  unfolding set_without
  without_has k v small =
      let fixed = set_of (is_fixed p s) in
      let test = λ (x : ℕ). not (x == k) && has_square fixed x in
      elim (cases_lt v 64) [
        | inl inside ↦ ap not (has-set_of test v inside ∙ ap (λ b. not (v == k) && b) (fixed_has v)) ∙ without_test (v == k) (is_fixed p s v)
        | inr past ↦ (
            let none : has_square fixed v ≡ false = get_or_past fixed v false (omega (arith, length-set_of (is_fixed p s), past)) in
            ap not (get_or_past (set_of test) v false (omega (arith, length-set_of test, past)))
            ∙ sym (ap (λ b. b || not (is_fixed p s v)) (ne_eqb v k (λ e. omega (arith, e, past, small))) ∙ ap not (sym (fixed_has v) ∙ none)))
      ]

  pub open_is : (u t : ℕ) → is_seen (set_of (is_fixed p s)) u t ≡ is_open p s u t
  unfolding is_seen is_open
  open_is u t = λ i. list_all (λ v. not (fixed_has v i)) (between u t)

  pub through_is : (k u t : ℕ) → k < 64 → is_seen (set_without (set_of (is_fixed p s)) k) u t ≡ is_open_through p s k u t
  unfolding is_seen is_open_through
  through_is k u t small = λ i. list_all (λ v. without_has k v small i) (between u t)
