-- A threat is found by the tests, and what they find is one.
use Rattle.std.proofs.Common.{◌≡◌, ◌≢◌, ℕ, ◌<◌, Bool, true, false, not, ◌&&◌, ◌||◌, ◌==◌, if◌then◌else◌, List, length, Option, refl, ap, sym, subst, ◌∙◌, inl, inr}
use Rattle.cha_moves.proofs.GoingLegally.{aims_at_self}
use Rattle.std.specs.List.{list_any}
use Rattle.std.proofs.lemmas.Bool.{and_parts, and_from, or_cases, or_left, or_right, both_ways, cases_Bool, not-true, eq-eqb, eqb-true, false_from_ne_true}
use Rattle.cha_board.specs.declared.men.Color.{Color}
use Rattle.cha_board.specs.declared.men.Kind.{Kind}
use Rattle.cha_board.specs.Men.{other_color}
use Rattle.cha_board.specs.Squares.{squares, aims_at, steps_apart}
use Rattle.cha_board.specs.Aims.{aims_over, is_open as is_seen}
use Rattle.cha_board.specs.Board.{Board}
use Rattle.mob_check.specs.Grounds.{has_own}
use Rattle.cha_board.specs.SquareSets.{set_of, has_square}
use Rattle.cha_board.proofs.SetLaws.{has-set_of}
use Rattle.cha_board.proofs.Scans.{any_square_at}
use Rattle.mob_sets.specs.Mobility.{Sets}
use Rattle.mob_law.specs.Threats.{KingOn, NonKingOn, HasAtMostOneMan, Checks, Attacks, Covered, Blocked, NextToKing, Attacked, Threat, HasNoMate}
use Rattle.cha_board.proofs.Contents.{some_square}
use Rattle.mob_sets.specs.Rows.{SetRows, kinds, sets_of}
use Rattle.mob_sets.proofs.KindTests.{any_kind_at, some_kind}
use Rattle.mob_check.specs.declared.scene.Scene.{Scene}
use Rattle.mob_check.specs.declared.ring.Ring.{Ring}
use Rattle.mob_check.specs.Scenes.{squares_as, has_at_most_one, scene_of}
use Rattle.mob_check.specs.MatesInReach.{checks_as, checks_from, has_check, seen_through, strikes, struck_by, strikes_as, strikes_from, struck, may_shut, stays_on, ring_of_one, mates_with_all, mates_as, mates_from, mates_with_one, men_near, mates_among, may_mate_on, may_mate}
use Rattle.mob_check.proofs.Choices.{chosen, chosen_first, chosen_second}
use Rattle.mob_check.proofs.Seeing.{open_is, through_is}
use Rattle.mob_check.proofs.Rings.{apart_from, apart_tells, Filled, Fills, filled_test, filled_gives, shut_test, shut_gives, stays_test, stays_give}
use Rattle.mob_check.proofs.MenInReach.{squares_as_is, king_gives, king_from, man_gives, man_from, any_gives, any_from, one_from, several_not_one}

-- For a position, rows and a winner:
module _ (p : Board) (r : SetRows) (w : Color) (size : length p.men ≡ 64) where
  abbrev s : Sets
  s = sets_of r

  abbrev scene : Scene
  scene = scene_of p r w

  abbrev few : Bool
  few = has_at_most_one (set_of (has_own p w))

  -- no man attacks the square on which it stands
  elsewhere : (k : Kind) (u t : ℕ) → u < 64 → aims_at w k u t ≡ true → u ≢ t
  elsewhere k u t small aims e = (let P : ℕ → Type 0 = λ x. aims_at w k u x ≡ true in both_ways (aims_at w k u u) (aims_at_self w k u) (subst P (sym e) aims))

  checks_test : (ks u : ℕ) (k : Kind) → Checks p s w ks k u → checks_as scene ks u k ≡ true
  unfolding checks_as aims_over scene_of
  checks_test ks u k c =
      let a = ap (λ q. has_square q u) (squares_as_is p r.rows w k) ∙ man_from p r w k u c.checker in
      and_from (has_square (squares_as scene.men k) u) (aims_at w k u ks && is_seen scene.fixed u ks) a
      (and_from (aims_at w k u ks) (is_seen scene.fixed u ks) c.aims (open_is p s size u ks ∙ c.open_way))

  checks_give : (ks u : ℕ) (k : Kind) → u < 64 → checks_as scene ks u k ≡ true → Checks p s w ks k u
  unfolding checks_as aims_over scene_of
  checks_give ks u k small h =
      let a = and_parts (has_square (squares_as scene.men k) u) (aims_at w k u ks && is_seen scene.fixed u ks) h in
      let b = and_parts (aims_at w k u ks) (is_seen scene.fixed u ks) a.1 in
      record {
        checker = man_gives p r w k u small (sym (ap (λ q. has_square q u) (squares_as_is p r.rows w k)) ∙ a.0);
        other = elsewhere k u ks small b.0;
        aims = b.0;
        open_way = sym (open_is p s size u ks) ∙ b.1;
      }

  strikes_test : (ks n u : ℕ) (k : Kind) → ks < 64 → (steps_apart ks n == 1) ≡ true → Attacks p s w ks n k u → strikes w (seen_through scene ks) ks u k n ≡ true
  unfolding strikes aims_over scene_of
  strikes_test ks n u k small near_by a =
      let seen = seen_through scene ks in
      and_from (steps_apart ks n == 1) (aims_at w k u n && is_seen seen u n) near_by (and_from (aims_at w k u n) (is_seen seen u n) a.aims (through_is p s size ks u n small ∙ a.open_way))

  attacks_give : (ks n u : ℕ) (k : Kind) → ks < 64 → NonKingOn p s w k u → u ≢ ks → strikes w (seen_through scene ks) ks u k n ≡ true → Attacks p s w ks n k u
  unfolding strikes aims_over scene_of
  attacks_give ks n u k small man other h =
      let seen = seen_through scene ks in
      let a = and_parts (steps_apart ks n == 1) (aims_at w k u n && is_seen seen u n) h in
      let b = and_parts (aims_at w k u n) (is_seen seen u n) a.1 in
      record {
        attacker = man;
        not_there = elsewhere k u n man.small b.0;
        other = other;
        aims = b.0;
        open_way = sym (through_is p s size ks u n small) ∙ b.1;
      }

  -- a square that some man may attack is struck
  struck_test : (ks n v : ℕ) (j : Kind) → ks < 64 → n < 64 → (steps_apart ks n == 1) ≡ true → Attacks p s w ks n j v → has_square (struck scene (seen_through scene ks) ks) n ≡ true
  unfolding struck strikes_from strikes_as scene_of
  struck_test ks n v j small small' near_by a =
      let seen = seen_through scene ks in
      let has = ap (λ q. has_square q v) (squares_as_is p r.rows w j) ∙ man_from p r w j v a.attacker in
      let as_kind = and_from (has_square (squares_as scene.men j) v) (strikes w seen ks v j n) has (strikes_test ks n v j small near_by a) in
      let from = and_from (not (v == ks)) (list_any (strikes_as scene seen ks n v) kinds) (apart_from v ks a.other) (any_kind_at (strikes_as scene seen ks n v) j as_kind) in
      has-set_of (λ n. list_any (strikes_from scene seen ks n) squares) n small' ∙ any_square_at (strikes_from scene seen ks n) v a.attacker.small from

  struck_gives : (ks n : ℕ) → ks < 64 → n < 64 → has_square (struck scene (seen_through scene ks) ks) n ≡ true → (j : Kind) × (v : ℕ) × Attacks p s w ks n j v
  unfolding struck strikes_from strikes_as scene_of
  struck_gives ks n small small' h =
      let seen = seen_through scene ks in
      let v = some_square (strikes_from scene seen ks n) (sym (has-set_of (λ n. list_any (strikes_from scene seen ks n) squares) n small') ∙ h) in
      let both = and_parts (not (v.0 == ks)) (list_any (strikes_as scene seen ks n v.0) kinds) v.2 in
      let j = some_kind (strikes_as scene seen ks n v.0) both.1 in
      let as_kind = and_parts (has_square (squares_as scene.men j.0) v.0) (strikes w seen ks v.0 j.0 n) j.1 in
      let man = man_gives p r w j.0 v.0 v.1 (sym (ap (λ q. has_square q v.0) (squares_as_is p r.rows w j.0)) ∙ as_kind.0) in
      (j.0, v.0, attacks_give ks n v.0 j.0 small man (apart_tells v.0 ks both.0) as_kind.1)

  -- how many men of the loser may stand next to ks
  abbrev men : ℕ → ℕ
  men ks = men_near p r.rows w ks

  -- a square that is covered is struck, next to the winner's king, or filled: with all men
  abbrev struck_by_all : ℕ → List Bool
  struck_by_all ks = struck scene (seen_through scene ks) ks

  fill_all : (ks wk n u : ℕ) (k : Kind) (counted : Option ℕ) → ks < 64 → n < 64 → (steps_apart ks n == 1) ≡ true → Covered p s w ks wk n k u counted
      → (has_square (struck_by_all ks) n || (steps_apart wk n == 1)) ≡ false → Filled scene.loser_men n counted
  unfolding scene_of
  fill_all ks wk n u k counted small small' near_by (Blocked j man stuck o is) free = record { here = any_from p r (other_color w) j n man; man = o; is = is }
  fill_all ks wk n u k counted small small' near_by (NextToKing h) free =
      absurd (both_ways (has_square (struck_by_all ks) n || (steps_apart wk n == 1)) free (or_right (has_square (struck_by_all ks) n) (steps_apart wk n == 1) (eq-eqb (steps_apart wk n) 1 h)))
  fill_all ks wk n u k counted small small' near_by (Attacked j v a lone) free =
      absurd (both_ways (has_square (struck_by_all ks) n || (steps_apart wk n == 1)) free (or_left (has_square (struck_by_all ks) n) (steps_apart wk n == 1) (struck_test ks n v j small small' near_by a)))

  -- and with one
  abbrev struck_by_one : ℕ → ℕ → Kind → List Bool
  struck_by_one ks u k = struck_by w (seen_through scene ks) ks u k

  fill_one : (ks wk n u : ℕ) (k : Kind) (counted : Option ℕ) → HasAtMostOneMan p w → ks < 64 → n < 64 → (steps_apart ks n == 1) ≡ true → Covered p s w ks wk n k u counted
      → (has_square (struck_by_one ks u k) n || (steps_apart wk n == 1)) ≡ false → Filled (stays_on scene ks u) n counted
  unfolding struck_by
  fill_one ks wk n u k counted one small small' near_by (Blocked j man stuck o is) free = record { here = stays_test p r w size ks u n j man (stuck one); man = o; is = is }
  fill_one ks wk n u k counted one small small' near_by (NextToKing h) free =
      absurd (both_ways (has_square (struck_by_one ks u k) n || (steps_apart wk n == 1)) free (or_right (has_square (struck_by_one ks u k) n) (steps_apart wk n == 1) (eq-eqb (steps_apart wk n) 1 h)))
  fill_one ks wk n u k counted one small small' near_by (Attacked j v a lone) free =
      let same = lone one in
      let a' : Attacks p s w ks n k u = (let P : Kind → Type 0 = λ x. Attacks p s w ks n x u in let Q : ℕ → Type 0 = λ x. Attacks p s w ks n j x in subst P same.0 (subst Q same.1 a)) in
      absurd (both_ways (has_square (struck_by_one ks u k) n || (steps_apart wk n == 1)) free (or_left (has_square (struck_by_one ks u k) n) (steps_apart wk n == 1)
      (has-set_of (strikes w (seen_through scene ks) ks u k) n small' ∙ strikes_test ks n u k small near_by a')))

  -- what keeps the king in, with all men and with one
  abbrev ring_all : ℕ → Ring
  ring_all ks = record { struck = struck_by_all ks; blockers = scene.loser_men; men = men ks }

  abbrev ring_one : ℕ → ℕ → Kind → Ring
  ring_one ks u k = record { struck = struck_by_one ks u k; blockers = stays_on scene ks u; men = men ks }

  threat_seen : (ks wk : ℕ) → Threat p s w ks wk → may_mate_on p r.rows scene ks ≡ true
  unfolding may_mate_on mates_among mates_with_one mates_from mates_as ring_of_one mates_with_all has_check checks_from scene_of
  threat_seen ks wk t =
      let seen = seen_through scene ks in
      let small = t.loser.small in
      let u = t.square in
      let k = t.kind in
      let check = checks_test ks u k t.checks in
      let u_small = t.checks.checker.small in
      let one = λ (h : few ≡ true). (
      let lone = one_from p w size h in
      let filled = filled_test p r w size ks wk (struck_by_one ks u k) (stays_on scene ks u) t (λ n small' near_by free. fill_one ks wk n u k (t.counted n) lone small small' near_by (t.covered n small' (eqb-true (steps_apart ks n) 1 near_by)) free) in
      let shut = shut_test p r w size ks wk (ring_one ks u k) t.winner t.distinct t.far filled in
      any_square_at (mates_from scene seen (men ks) ks) u u_small (any_kind_at (mates_as scene seen (men ks) ks u) k (and_from (checks_as scene ks u k) (may_shut scene (ring_one ks u k) ks) check shut))) in
      let many = λ (h : few ≡ false). (
      let filled = filled_test p r w size ks wk (struck_by_all ks) scene.loser_men t (λ n small' near_by free. fill_all ks wk n u k (t.counted n) small small' near_by (t.covered n small' (eqb-true (steps_apart ks n) 1 near_by)) free) in
      let shut = shut_test p r w size ks wk (ring_all ks) t.winner t.distinct t.far filled in
      let some = any_square_at (checks_from scene ks) u u_small (any_kind_at (checks_as scene ks u) k check) in
      and_from (has_check scene ks) (may_shut scene (ring_all ks) ks) some shut) in
      and_from (has_square scene.loser_king ks) (if few then mates_with_one scene seen (men ks) ks else mates_with_all scene seen (men ks) ks)
      (king_from p r (other_color w) ks t.loser) (chosen few (mates_with_one scene seen (men ks) ks) (mates_with_all scene seen (men ks) ks) one many)

  -- a square that is not left to the king is covered: with one man
  covered_one : (ks wk n u : ℕ) (k : Kind) (f : Fills p s (other_color w) ks wk (struck_by_one ks u k) (stays_on scene ks u)) → ks < 64 → n < 64 → (steps_apart ks n == 1) ≡ true → NonKingOn p s w k u → u ≢ ks
      → Covered p s w ks wk n k u (f.counted n)
  unfolding struck_by
  covered_one ks wk n u k f small small' near_by man other =
      elim (cases_Bool (has_square (struck_by_one ks u k) n || (steps_apart wk n == 1))) [
        | inl kept ↦ elim (or_cases (has_square (struck_by_one ks u k) n) (steps_apart wk n == 1) kept) [
          | inl hit ↦ Attacked k u (attacks_give ks n u k small man other (sym (has-set_of (strikes w (seen_through scene ks) ks u k) n small') ∙ hit)) (λ lone. (refl, refl))
          | inr by_king ↦ NextToKing (eqb-true (steps_apart wk n) 1 by_king)
        ]
        | inr free ↦ (
            let fill = f.each n small' near_by free in
            let blocker = stays_give p r w size ks u n small' fill.here in
            Blocked blocker.0 blocker.1 (λ lone. blocker.2) fill.man fill.is)
      ]

  covered_all : (ks wk n u : ℕ) (k : Kind) (f : Fills p s (other_color w) ks wk (struck_by_all ks) scene.loser_men) → few ≡ false → ks < 64 → n < 64 → (steps_apart ks n == 1) ≡ true
      → Covered p s w ks wk n k u (f.counted n)
  unfolding scene_of
  covered_all ks wk n u k f two small small' near_by =
      elim (cases_Bool (has_square (struck_by_all ks) n || (steps_apart wk n == 1))) [
        | inl kept ↦ elim (or_cases (has_square (struck_by_all ks) n) (steps_apart wk n == 1) kept) [
          | inl hit ↦ (let a = struck_gives ks n small small' hit in Attacked a.0 a.1 a.2 (λ lone. absurd (several_not_one p w two lone)))
          | inr by_king ↦ NextToKing (eqb-true (steps_apart wk n) 1 by_king)
        ]
        | inr free ↦ (
            let fill = f.each n small' near_by free in
            let blocker = any_gives p r (other_color w) n small' fill.here in
            Blocked blocker.0 blocker.1 (λ lone. absurd (several_not_one p w two lone)) fill.man fill.is)
      ]

  found_with_one : (ks : ℕ) → ks < 64 → KingOn p s (other_color w) ks → mates_with_one scene (seen_through scene ks) (men ks) ks ≡ true → (wk : ℕ) × Threat p s w ks wk
  unfolding mates_with_one mates_from mates_as ring_of_one scene_of
  found_with_one ks small loser h =
      let seen = seen_through scene ks in
      let u = some_square (mates_from scene seen (men ks) ks) h in
      let k = some_kind (mates_as scene seen (men ks) ks u.0) u.2 in
      let both = and_parts (checks_as scene ks u.0 k.0) (may_shut scene (ring_one ks u.0 k.0) ks) k.1 in
      let check = checks_give ks u.0 k.0 u.1 both.0 in
      let shut = shut_gives p r w size ks (ring_one ks u.0 k.0) both.1 in
      let f = filled_gives p r w size ks shut.wk (struck_by_one ks u.0 k.0) (stays_on scene ks u.0) shut.filled in (
        shut.wk,
        record {
          loser = loser;
          winner = shut.king;
          distinct = shut.distinct;
          far = shut.far;
          kind = k.0;
          square = u.0;
          checks = check;
          counted = f.counted;
          covered = λ n small' near_by. covered_one ks shut.wk n u.0 k.0 f small small' (eq-eqb (steps_apart ks n) 1 near_by) check.checker check.other;
          near = f.near;
          once = f.once;
        },
      )

  found_with_all : (ks : ℕ) → ks < 64 → KingOn p s (other_color w) ks → few ≡ false → mates_with_all scene (seen_through scene ks) (men ks) ks ≡ true → (wk : ℕ) × Threat p s w ks wk
  unfolding mates_with_all has_check checks_from scene_of
  found_with_all ks small loser two h =
      let both = and_parts (has_check scene ks) (may_shut scene (ring_all ks) ks) h in
      let u = some_square (checks_from scene ks) both.0 in
      let k = some_kind (checks_as scene ks u.0) u.2 in
      let check = checks_give ks u.0 k.0 u.1 k.1 in
      let shut = shut_gives p r w size ks (ring_all ks) both.1 in
      let f = filled_gives p r w size ks shut.wk (struck_by_all ks) scene.loser_men shut.filled in (
        shut.wk,
        record {
          loser = loser;
          winner = shut.king;
          distinct = shut.distinct;
          far = shut.far;
          kind = k.0;
          square = u.0;
          checks = check;
          counted = f.counted;
          covered = λ n small' near_by. covered_all ks shut.wk n u.0 k.0 f two small small' (eq-eqb (steps_apart ks n) 1 near_by);
          near = f.near;
          once = f.once;
        },
      )

  threat_found : (ks : ℕ) → ks < 64 → may_mate_on p r.rows scene ks ≡ true → (wk : ℕ) × Threat p s w ks wk
  unfolding may_mate_on mates_among scene_of
  threat_found ks small h =
      let seen = seen_through scene ks in
      let both = and_parts (has_square scene.loser_king ks) (if few then mates_with_one scene seen (men ks) ks else mates_with_all scene seen (men ks) ks) h in
      let loser = king_gives p r (other_color w) ks small both.0 in
      elim (cases_Bool few) [
        | inl one ↦ found_with_one ks small loser (chosen_first few (mates_with_one scene seen (men ks) ks) (mates_with_all scene seen (men ks) ks) both.1 one)
        | inr two ↦ found_with_all ks small loser two (chosen_second few (mates_with_one scene seen (men ks) ks) (mates_with_all scene seen (men ks) ks) both.1 two)
      ]

  pub none_from : not (may_mate p r.rows scene) ≡ true → HasNoMate p s w
  unfolding may_mate
  none_from h ks wk t = both_ways (may_mate p r.rows scene) (not-true (may_mate p r.rows scene) h) (any_square_at (may_mate_on p r.rows scene) ks t.loser.small (threat_seen ks wk t))

  pub none_test : HasNoMate p s w → not (may_mate p r.rows scene) ≡ true
  unfolding may_mate
  none_test none =
      ap not (false_from_ne_true (may_mate p r.rows scene) (λ h.
      let ks = some_square (may_mate_on p r.rows scene) h in
      let t = threat_found ks.0 ks.1 ks.2 in
      none ks.0 t.0 t.1))
