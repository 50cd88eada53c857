-- The squares that men attack, as sets.
use Rattle.std.proofs.Common.{◌≡◌, ℕ, ◌<◌, ◌≤◌, Bool, true, false, not, ◌&&◌, ◌==◌, List, sym, ap, ◌∙◌, arith, inl, inr}
use Rattle.std.specs.List.{list_any}
use Rattle.std.proofs.lemmas.Bool.{and_parts, and_left, cases_Bool}
use Rattle.cha_board.specs.declared.men.Color.{Color}
use Rattle.cha_board.specs.declared.men.Kind.{Kind}
use Rattle.cha_board.specs.Aims.{aims_over, aimed}
use Rattle.cha_board.specs.Squares.{squares, steps_apart}
use Rattle.cha_board.specs.SquareSets.{set_of, empty_set, has_square, set_without, set_common, is_subset}
use Rattle.cha_board.proofs.SetLaws.{length-set_of, has-set_of, same_set, same_squares}
use Rattle.cha_board.proofs.Contents.{some_square, same_test, subset_at}
use Rattle.cha_board.proofs.Scans.{any_square_at}
use Rattle.mob_sets.specs.Rows.{kinds}
use Rattle.mob_sets.proofs.KindTests.{some_kind}
use Rattle.mob_check.proofs.Gathering.{Gathers}
use Rattle.mob_check.specs.declared.scene.Scene.{Scene}
use Rattle.mob_check.specs.Nearness.{next_to}
use Rattle.mob_check.specs.Scenes.{squares_as, all_in_reach}
use Rattle.mob_check.specs.MatesInReach.{strikes, struck_by, strikes_as, strikes_from, struck}
use Rattle.mob_check.proofs.NextTo.{near_has}
use Rattle.mob_check.proofs.Unreached.{no_strike_as}

pub near_aimed : (w : Color) (seen : List Bool) (ks u : ℕ) (k : Kind) → set_common (next_to ks) (aimed w k u seen) ≡ struck_by w seen ks u k
unfolding set_common aimed struck_by strikes
near_aimed w seen ks u k =
    let aim = set_of (aims_over w k u seen) in
    same_set (λ n. has_square (next_to ks) n && has_square aim n) (strikes w seen ks u k) (λ n small.
    ap (λ b. b && has_square aim n) (near_has ks n small) ∙ ap (λ b. (steps_apart ks n == 1) && b) (has-set_of (aims_over w k u seen) n small))

pub struck_where : (scene : Scene) (seen : List Bool) (ks u : ℕ) (k : Kind) → has_square (squares_as scene.men k) u ≡ true → struck_by scene.winner seen ks u k ≡ set_of (λ n. strikes_as scene seen ks n u k)
unfolding struck_by strikes_as
struck_where scene seen ks u k here =
    same_set (strikes scene.winner seen ks u k) (λ n. strikes_as scene seen ks n u k) (λ n small. sym (ap (λ b. b && strikes scene.winner seen ks u k n) here))

pub struck_nowhere : (scene : Scene) (seen : List Bool) (ks u : ℕ) (k : Kind) → has_square (squares_as scene.men k) u ≡ false → empty_set ≡ set_of (λ n. strikes_as scene seen ks n u k)
unfolding strikes_as
struck_nowhere scene seen ks u k none =
    same_set (λ _. false) (λ n. strikes_as scene seen ks n u k) (λ n small. sym (and_left (has_square (squares_as scene.men k) u) (strikes scene.winner seen ks u k n) none))

-- a square of the men in reach, without the king's, and another
pub from_man : (scene : Scene) (seen : List Bool) (ks n u : ℕ) → u < 64 → has_square (set_without (all_in_reach scene.men) ks) u ≡ true → list_any (strikes_as scene seen ks n u) kinds ≡ strikes_from scene seen ks n u
unfolding set_without strikes_from
from_man scene seen ks n u small here =
    let both = and_parts (not (u == ks)) (has_square (all_in_reach scene.men) u) (sym (has-set_of (λ s. not (s == ks) && has_square (all_in_reach scene.men) s) u small) ∙ here) in
    sym (ap (λ b. b && list_any (strikes_as scene seen ks n u) kinds) both.0)

pub from_none : (scene : Scene) (seen : List Bool) (ks n u : ℕ) → u < 64 → has_square (set_without (all_in_reach scene.men) ks) u ≡ false → strikes_from scene seen ks n u ≡ false
unfolding set_without strikes_from
from_none scene seen ks n u small none =
    let test = sym (has-set_of (λ s. not (s == ks) && has_square (all_in_reach scene.men) s) u small) ∙ none in
    elim (cases_Bool (not (u == ks))) [
      | inl apart ↦ (
          let gone : has_square (all_in_reach scene.men) u ≡ false = sym (ap (λ b. b && has_square (all_in_reach scene.men) u) apart) ∙ test in
          ap (λ b. b && list_any (strikes_as scene seen ks n u) kinds) apart ∙ no_strike_as scene seen ks n u small gone)
      | inr same ↦ ap (λ b. b && list_any (strikes_as scene seen ks n u) kinds) same
    ]

-- what is attacked is next to the king
near_of : (scene : Scene) (seen : List Bool) (ks n u : ℕ) → strikes_from scene seen ks n u ≡ true → (steps_apart ks n == 1) ≡ true
unfolding strikes_from strikes_as strikes
near_of scene seen ks n u h =
    let both = and_parts (not (u == ks)) (list_any (strikes_as scene seen ks n u) kinds) h in
    let as_kind = some_kind (strikes_as scene seen ks n u) both.1 in
    let hit = and_parts (has_square (squares_as scene.men as_kind.0) u) (strikes scene.winner seen ks u as_kind.0 n) as_kind.1 in
    (and_parts (steps_apart ks n == 1) (aims_over scene.winner as_kind.0 u seen n) hit.1).0

-- where the first squares give all that is next to the king, the others give no more
pub all_struck : (scene : Scene) (seen : List Bool) (ks : ℕ) (set : List Bool) (i : ℕ) → Gathers (λ (u n : ℕ). strikes_from scene seen ks n u) set i → i ≤ 64 → is_subset (next_to ks) set ≡ true → set ≡ struck scene seen ks
unfolding struck
all_struck scene seen ks set i g below full =
    let test = λ (n : ℕ). list_any (strikes_from scene seen ks n) squares in
    same_squares set (set_of test) g.width (length-set_of test) (λ n small.
    same_test (has_square set n) (has_square (set_of test) n)
    (λ h. let k = g.some n small h in has-set_of test n small ∙ any_square_at (strikes_from scene seen ks n) k.0 (omega (arith, k.1, below)) k.2)
    (λ h. let k = some_square (strikes_from scene seen ks n) (sym (has-set_of test n small) ∙ h) in
    subset_at (next_to ks) set full n small (near_has ks n small ∙ near_of scene seen ks n k.0 k.2)))
