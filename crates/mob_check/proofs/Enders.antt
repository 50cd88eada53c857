-- From where a man could at once end a check: the squares to which it would step or jump back.
use Rattle.std.proofs.Common.{◌≡◌, ℕ, ◌<◌, ◌==◌, true, false, not, ◌&&◌, ◌||◌, refl, sym, ap, subst, ◌∙◌, inl, inr}
use Rattle.std.specs.List.{list_any}
use Rattle.std.proofs.lemmas.Bool.{and_parts, and_from, or_cases, or_left, or_right, eq-eqb, eqb-true}
use Rattle.cha_board.specs.declared.men.Color.{Color}
use Rattle.cha_board.specs.declared.men.Kind.{Kind}
use Rattle.cha_board.specs.declared.men.Kind.TheVariants.{Pawn}
use Rattle.cha_board.specs.Men.{other_color, same_kind}
use Rattle.cha_board.specs.Squares.{squares, aims_at, steps_apart, lies_between}
use Rattle.cha_board.specs.SquareSets.{set_of, empty_set, has_square, set_with, set_minus}
use Rattle.cha_board.proofs.SetLaws.{has-set_of, same_set}
use Rattle.cha_board.proofs.Scans.{any_square_at}
use Rattle.cha_board.proofs.Contents.{some_square, same_test, in_empty}
use Rattle.cha_board.proofs.Tables.{aims_from_there}
use Rattle.mob_law.specs.Reach.{is_leaper, steps_to}
use Rattle.mob_law.specs.Threats.{ends_check}
use Rattle.mob_law.proofs.Geometry.{near}
use Rattle.mob_check.specs.SingleSteps.{is_stepped_to, spread_of}
use Rattle.mob_check.specs.declared.scene.Scene.{Scene}
use Rattle.mob_check.specs.Scenes.{squares_as}
use Rattle.mob_check.specs.MatesInReach.{ends_at, check_ends, stays_as}

-- a man steps or jumps where one of the other side steps or jumps back
pub steps_back : (c : Color) (k : Kind) (s t : ℕ) → s < 64 → t < 64 → steps_to (other_color c) k t s ≡ steps_to c k s t
unfolding steps_to
steps_back c k s t small small' =
    let one : (steps_apart t s == 1) ≡ (steps_apart s t == 1) = same_test (steps_apart t s == 1) (steps_apart s t == 1) (λ h. (near t s small' small h).back) (λ h. (near s t small small' h).back) in
    ap (λ b. b && (is_leaper k || (steps_apart t s == 1))) (aims_from_there c k s t small small') ∙ ap (λ b. aims_at c k s t && (is_leaper k || b)) one

-- a pawn ends a check on the checker's square alone, and another man between as well
pub ends_of_pawn : (k : Kind) (ks u : ℕ) → same_kind k Pawn ≡ true → set_with empty_set u ≡ check_ends k ks u
unfolding set_with check_ends ends_at
ends_of_pawn k ks u pawn =
    same_set (λ t. (t == u) || has_square empty_set t) (λ t. (t == u) || (not (same_kind k Pawn) && lies_between u ks t)) (λ t small.
    ap (λ b. (t == u) || b) (in_empty t) ∙ sym (ap (λ b. (t == u) || (not b && lies_between u ks t)) pawn))

pub ends_of_piece : (k : Kind) (ks u : ℕ) → same_kind k Pawn ≡ false → set_with (set_of (lies_between u ks)) u ≡ check_ends k ks u
unfolding set_with check_ends ends_at
ends_of_piece k ks u piece =
    same_set (λ t. (t == u) || has_square (set_of (lies_between u ks)) t) (λ t. (t == u) || (not (same_kind k Pawn) && lies_between u ks t)) (λ t small.
    ap (λ b. (t == u) || b) (has-set_of (lies_between u ks) t small) ∙ sym (ap (λ b. (t == u) || (not b && lies_between u ks t)) piece))

ends_test : (c : Color) (k : Kind) (ks u n : ℕ) → u < 64 → n < 64 → is_stepped_to (other_color c) k (check_ends k ks u) n ≡ ends_check c ks u k n
unfolding is_stepped_to ends_check check_ends ends_at
ends_test c k ks u n small small' =
    let test = λ (t : ℕ). (t == u) || (not (same_kind k Pawn) && lies_between u ks t) in
    let ends = set_of test in
    let steps = λ (t : ℕ). has_square ends t && steps_to (other_color c) k t n in
    let between = λ (t : ℕ). lies_between u ks t && steps_to c k n t in
    same_test (list_any steps squares) (steps_to c k n u || (not (same_kind k Pawn) && list_any between squares))
    (λ h. let t = some_square steps h in
    let both = and_parts (has_square ends t.0) (steps_to (other_color c) k t.0 n) t.2 in
    let on = sym (has-set_of test t.0 t.1) ∙ both.0 in
    let back : steps_to c k n t.0 ≡ true = sym (steps_back c k n t.0 small' t.1) ∙ both.1 in
    elim (or_cases (t.0 == u) (not (same_kind k Pawn) && lies_between u ks t.0) on) [
      | inl e ↦ (
          let P : ℕ → Type 0 = λ x. steps_to c k n x ≡ true in
          or_left (steps_to c k n u) (not (same_kind k Pawn) && list_any between squares) (subst P (eqb-true t.0 u e) back))
      | inr x ↦ (
          let parts = and_parts (not (same_kind k Pawn)) (lies_between u ks t.0) x in
          or_right (steps_to c k n u) (not (same_kind k Pawn) && list_any between squares)
          (and_from (not (same_kind k Pawn)) (list_any between squares) parts.0
          (any_square_at between t.0 t.1 (and_from (lies_between u ks t.0) (steps_to c k n t.0) parts.1 back))))
    ])
    (λ h. elim (or_cases (steps_to c k n u) (not (same_kind k Pawn) && list_any between squares) h) [
      | inl e ↦ any_square_at steps u small (and_from (has_square ends u) (steps_to (other_color c) k u n)
          (has-set_of test u small ∙ or_left (u == u) (not (same_kind k Pawn) && lies_between u ks u) (eq-eqb u u refl)) (steps_back c k n u small' small ∙ e))
      | inr x ↦ (
          let parts = and_parts (not (same_kind k Pawn)) (list_any between squares) x in
          let t = some_square between parts.1 in
          let both = and_parts (lies_between u ks t.0) (steps_to c k n t.0) t.2 in
          any_square_at steps t.0 t.1 (and_from (has_square ends t.0) (steps_to (other_color c) k t.0 n)
          (has-set_of test t.0 t.1 ∙ or_right (t.0 == u) (not (same_kind k Pawn) && lies_between u ks t.0) (and_from (not (same_kind k Pawn)) (lies_between u ks t.0) parts.0 both.0))
          (steps_back c k n t.0 small' t.1 ∙ both.1)))
    ])

-- the squares from which a man could at once end a check
pub enders_are : (c : Color) (k : Kind) (ks u : ℕ) → u < 64 → spread_of (other_color c) k (check_ends k ks u) ≡ set_of (ends_check c ks u k)
enders_are c k ks u small =
    same_set (is_stepped_to (other_color c) k (check_ends k ks u)) (ends_check c ks u k) (λ n small'. ends_test c k ks u n small small')

-- those men of the loser who could not
pub staying_are : (scene : Scene) (ks u : ℕ) (k : Kind) → set_minus (squares_as scene.losers k) (set_of (ends_check (other_color scene.winner) ks u k)) ≡ set_of (λ n. stays_as scene ks u n k)
unfolding set_minus stays_as
staying_are scene ks u k =
    let ends = ends_check (other_color scene.winner) ks u k in
    same_set (λ n. has_square (squares_as scene.losers k) n && not (has_square (set_of ends) n)) (λ n. stays_as scene ks u n k) (λ n small.
    ap (λ b. has_square (squares_as scene.losers k) n && not b) (has-set_of ends n small))
