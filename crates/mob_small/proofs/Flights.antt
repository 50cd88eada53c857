-- What the tables say of the squares beside a king that a knight or a bishop checks.
use Rattle.std.proofs.Common.{◌≡◌, ◌≢◌, ℕ, ◌<◌, true, false, not, ◌&&◌, ◌||◌, ◌==◌, ltb, ◌⊎◌, inl, inr}
use Rattle.std.specs.List.{list_all}
use Rattle.std.proofs.lemmas.Bool.{and_parts, and_from, or_cases, eq-eqb, eqb-true, ltb-true, not-true}
use Rattle.cha_board.specs.declared.men.Color.TheVariants.{White}
use Rattle.cha_board.specs.declared.men.Kind.{Kind}
use Rattle.cha_board.specs.Squares.{squares, steps_apart, aims_at, lies_between, between}
use Rattle.cha_board.proofs.Identity.{if_at, all_four}
use Rattle.cha_board.proofs.Scans.{pair_at}
use Rattle.mob_small.proofs.BesideKing.{flight_test, far_test, far_table, in_rank, in_file, is_hole, reply_test, is_right, is_above, along_rank, along_file}

-- a square next to the king that the man on s does not attack
pub record Flight (k : Kind) (ks s n : ℕ) : Type 0 where
  pub small : n < 64
  pub step : (steps_apart ks n == 1) ≡ true
  pub unaimed : aims_at White k s n ≡ false

pub flight : (k : Kind) (n : ℕ → ℕ → ℕ) → list_all (λ ks. list_all (flight_test k n ks) squares) squares ≡ true
    → (ks s : ℕ) → ks < 64 → s < 64 → aims_at White k s ks ≡ true → Flight k ks s (n ks s)
unfolding flight_test
flight k n table ks s small small' aims =
    let h = if_at (aims_at White k s ks) (ltb (n ks s) 64 && (steps_apart ks (n ks s) == 1) && not (aims_at White k s (n ks s))) (pair_at (flight_test k n) table ks s small small') aims in
    let a = and_parts (ltb (n ks s) 64 && (steps_apart ks (n ks s) == 1)) (not (aims_at White k s (n ks s))) h in
    let b = and_parts (ltb (n ks s) 64) (steps_apart ks (n ks s) == 1) a.0 in
    record { small = ltb-true (n ks s) 64 b.0; step = b.1; unaimed = not-true (aims_at White k s (n ks s)) a.1 }

-- the winner's king is not next to both
pub not_both : (ks s wk : ℕ) → ks < 64 → wk < 64 → wk ≢ ks → steps_apart ks wk ≢ 1
    → (steps_apart ks (along_rank ks s) == 1) ≡ true → (steps_apart ks (along_file ks s) == 1) ≡ true
    → steps_apart wk (along_rank ks s) ≡ 1 → steps_apart wk (along_file ks s) ≡ 1 → ⊥
unfolding far_test along_rank along_file
not_both ks s wk small small' distinct far first second near near' =
    let n = in_rank (is_right ks s) ks in
    let m = in_file (is_above ks s) ks in
    let all = and_from ((steps_apart ks n == 1) && (steps_apart ks m == 1) && (steps_apart wk n == 1)) (steps_apart wk m == 1)
    (and_from ((steps_apart ks n == 1) && (steps_apart ks m == 1)) (steps_apart wk n == 1) (and_from (steps_apart ks n == 1) (steps_apart ks m == 1) first second) (eq-eqb (steps_apart wk n) 1 near))
    (eq-eqb (steps_apart wk m) 1 near') in
    let h = if_at ((steps_apart ks n == 1) && (steps_apart ks m == 1) && (steps_apart wk n == 1) && (steps_apart wk m == 1)) ((wk == ks) || (steps_apart ks wk == 1))
    (pair_at (far_test (is_right ks s) (is_above ks s)) (far_table (is_right ks s) (is_above ks s)) ks wk small small') all in
    elim (or_cases (wk == ks) (steps_apart ks wk == 1) h) [
      | inl e ↦ distinct (eqb-true wk ks e)
      | inr e ↦ far (eqb-true (steps_apart ks wk) 1 e)
    ]

-- where a man of kind i on n goes to answer the check
pub record Answer (i : Kind) (ks s n t : ℕ) : Type 0 where
  pub small : t < 64
  pub aims : aims_at White i n t ≡ true
  pub over : list_all (is_hole ks s n) (between n t) ≡ true
  pub onto : (t ≡ s) ⊎ ((is_hole ks s n t ≡ true) × (lies_between s ks t ≡ true))

pub answer : (k i : Kind) (n t : ℕ → ℕ → ℕ) → list_all (λ ks. list_all (reply_test k i n t ks) squares) squares ≡ true
    → (ks s : ℕ) → ks < 64 → s < 64 → aims_at White k s ks ≡ true → Answer i ks s (n ks s) (t ks s)
unfolding reply_test
answer k i n t table ks s small small' aims =
    let a = n ks s in
    let b = t ks s in
    let stands = (b == s) || (is_hole ks s a b && lies_between s ks b) in
    let h = if_at (aims_at White k s ks) (ltb b 64 && aims_at White i a b && list_all (is_hole ks s a) (between a b) && stands) (pair_at (reply_test k i n t) table ks s small small') aims in
    let p = all_four (ltb b 64) (aims_at White i a b) (list_all (is_hole ks s a) (between a b)) stands h in
    record {
      small = ltb-true b 64 p.0;
      aims = p.1;
      over = p.2;
      onto = elim (or_cases (b == s) (is_hole ks s a b && lies_between s ks b) p.3) [
        | inl e ↦ inl (eqb-true b s e)
        | inr e ↦ inr (and_parts (is_hole ks s a b) (lies_between s ks b) e)
      ];
    }
