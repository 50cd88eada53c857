-- Which rings keep a king in: how what is left to it is filled, and where the other king then stands.
use Rattle.std.proofs.Common.{◌≡◌, ◌≢◌, ℕ, ◌<◌, Bool, true, false, not, ◌&&◌, ◌||◌, ◌==◌, List, length, leb, Option, Some, ap, sym, ◌∙◌}
use Rattle.std.specs.List.{list_any}
use Rattle.std.proofs.lemmas.Bool.{and_parts, and_from, not-true, ne_eqb, eqb-false, le-leb, leb-true}
use Rattle.cha_board.specs.declared.men.Color.{Color}
use Rattle.cha_board.specs.declared.men.Kind.{Kind}
use Rattle.cha_board.specs.Men.{other_color}
use Rattle.cha_board.specs.Squares.{steps_apart}
use Rattle.cha_board.specs.Board.{Board}
use Rattle.cha_board.specs.SquareSets.{has_square, squares_in, is_subset}
use Rattle.cha_board.proofs.SetLaws.{has-set_of}
use Rattle.cha_board.proofs.Scans.{any_square_at}
use Rattle.mob_sets.specs.Mobility.{Sets}
use Rattle.mob_law.specs.Threats.{KingOn, NonKingOn, ends_check, MayStandNear, Threat}
use Rattle.cha_board.proofs.Contents.{some_square, subset_at, subset_from}
use Rattle.mob_sets.specs.Rows.{SetRows, kinds, sets_of}
use Rattle.mob_sets.proofs.KindTests.{any_kind_at, some_kind}
use Rattle.mob_check.specs.declared.scene.Scene.{Scene}
use Rattle.mob_check.specs.declared.ring.Ring.{Ring}
use Rattle.mob_check.specs.Nearness.{next_to}
use Rattle.mob_check.specs.Reaches.{origins_of}
use Rattle.mob_check.specs.Scenes.{squares_as, scene_of}
use Rattle.mob_check.specs.MatesInReach.{is_left, left_squares, is_filled, shuts_from, may_shut, stays_as, stays_on, men_near}
use Rattle.cha_moves.proofs.MateMoves.{in_squares}
use Rattle.mob_check.proofs.Counting.{squares_apart, in_listed, counts, given}
use Rattle.mob_check.proofs.MenInReach.{squares_as_is, king_gives, king_from, man_gives, man_from, near_gives, near_from, small_of}

pub apart_from : (a b : ℕ) → a ≢ b → not (a == b) ≡ true
apart_from a b ne = ap not (ne_eqb a b ne)

pub apart_tells : (a b : ℕ) → not (a == b) ≡ true → a ≢ b
apart_tells a b h = eqb-false a b (not-true (a == b) h)

-- a man of the loser may stand on n, and one is counted for it
pub record Filled (blockers : List Bool) (n : ℕ) (counted : Option ℕ) : Type 0 where
  pub here : has_square blockers n ≡ true
  pub man : ℕ
  pub is : counted ≡ Some man

-- a man of the loser is counted for each square that is left to the king on ks
pub record Fills (p : Board) (s : Sets) (c : Color) (ks wk : ℕ) (struck_set blockers : List Bool) : Type 0 where
  pub counted : ℕ → Option ℕ
  pub each : (n : ℕ) → n < 64 → (steps_apart ks n == 1) ≡ true → (has_square struck_set n || (steps_apart wk n == 1)) ≡ false → Filled blockers n (counted n)
  pub near : (n o : ℕ) → counted n ≡ Some o → MayStandNear p s c ks o
  pub once : (n m o : ℕ) → counted n ≡ Some o → counted m ≡ Some o → n ≡ m

-- the winner's king may stand on wk and shut in the king on ks
pub record ShutBy (p : Board) (s : Sets) (w : Color) (ks : ℕ) (ring : Ring) : Type 0 where
  pub wk : ℕ
  pub king : KingOn p s w wk
  pub distinct : wk ≢ ks
  pub far : steps_apart ks wk ≢ 1
  pub filled : is_filled ring (left_squares ring.struck ks wk) ≡ true

-- For a position, rows and a winner:
module _ (p : Board) (r : SetRows) (w : Color) (size : length p.men ≡ 64) where
  abbrev s : Sets
  s = sets_of r

  abbrev scene : Scene
  scene = scene_of p r w

  -- The squares left to the king on ks, where the winner's stands on wk and these squares are struck:
  abbrev left : List Bool → ℕ → ℕ → List Bool
  left struck_set ks wk = left_squares struck_set ks wk

  -- how many men of the loser may stand next to ks
  abbrev men : ℕ → ℕ
  men ks = men_near p r.rows w ks

  left_parts : (struck_set : List Bool) (ks wk n : ℕ) → n < 64 → has_square (left struck_set ks wk) n ≡ true → ((steps_apart ks n == 1) ≡ true) × ((has_square struck_set n || (steps_apart wk n == 1)) ≡ false)
  unfolding is_left
  left_parts struck_set ks wk n small h =
      let kept = has_square struck_set n || (steps_apart wk n == 1) in
      let both = and_parts (steps_apart ks n == 1) (not kept) (sym (has-set_of (is_left struck_set ks wk) n small) ∙ h) in
      (both.0, not-true kept both.1)

  left_from : (struck_set : List Bool) (ks wk n : ℕ) → n < 64 → (steps_apart ks n == 1) ≡ true → (has_square struck_set n || (steps_apart wk n == 1)) ≡ false → has_square (left struck_set ks wk) n ≡ true
  unfolding is_left
  left_from struck_set ks wk n small step free =
      has-set_of (is_left struck_set ks wk) n small ∙ and_from (steps_apart ks n == 1) (not (has_square struck_set n || (steps_apart wk n == 1))) step (ap not free)

  -- where a man of the loser is counted for each square that is left, they fill these squares
  pub filled_test : (ks wk : ℕ) (struck_set blockers : List Bool) (t : Threat p s w ks wk)
      → ((n : ℕ) → n < 64 → (steps_apart ks n == 1) ≡ true → (has_square struck_set n || (steps_apart wk n == 1)) ≡ false → Filled blockers n (t.counted n))
      → is_filled (record { struck = struck_set; blockers = blockers; men = men ks }) (left struck_set ks wk) ≡ true
  unfolding is_filled men_near
  filled_test ks wk struck_set blockers t each =
      let set = left struck_set ks wk in
      let near_men = origins_of p r.rows (other_color w) (next_to ks) in
      let at = λ (n : ℕ) (small : n < 64) (here : has_square set n ≡ true). (let parts = left_parts struck_set ks wk n small here in each n small parts.0 parts.1) in
      let inside = subset_from set blockers (λ n small here. (at n small here).here) in
      let few = counts (squares_in set) (squares_in near_men) t.counted (squares_apart set) (λ n there.
      let in_set = in_listed set n there in
      let f = at n in_set.0 in_set.1 in
      let m = t.near n f.man f.is in
      (f.man, f.is, in_squares near_men f.man (small_of p.men (other_color w) f.man size m.stood) (near_from p r (other_color w) ks f.man size m))) t.once in
      and_from (is_subset set blockers) (leb (length (squares_in set)) (length (squares_in near_men))) inside (le-leb (length (squares_in set)) (length (squares_in near_men)) few)

  -- and the other way round
  pub filled_gives : (ks wk : ℕ) (struck_set blockers : List Bool) → is_filled (record { struck = struck_set; blockers = blockers; men = men ks }) (left struck_set ks wk) ≡ true → Fills p s (other_color w) ks wk struck_set blockers
  unfolding is_filled men_near
  filled_gives ks wk struck_set blockers h =
      let set = left struck_set ks wk in
      let near_men = origins_of p r.rows (other_color w) (next_to ks) in
      let both = and_parts (is_subset set blockers) (leb (length (squares_in set)) (length (squares_in near_men))) h in
      let g = given (squares_in set) (squares_in near_men) (squares_apart near_men) (leb-true (length (squares_in set)) (length (squares_in near_men)) both.1) in
      record {
        counted = g.f;
        each = λ n small step free.
            let here = left_from struck_set ks wk n small step free in
            let man = g.each n (in_squares set n small here) in
            record { here = subset_at set blockers both.0 n small here; man = man.0; is = man.1 };
        near = λ n o is. (let there = in_listed near_men o (g.inside n o is) in near_gives p r (other_color w) ks o there.0 there.1);
        once = g.once;
      }

  -- the winner's king shuts in the loser's
  pub shut_test : (ks wk : ℕ) (ring : Ring) → KingOn p s w wk → wk ≢ ks → steps_apart ks wk ≢ 1 → is_filled ring (left ring.struck ks wk) ≡ true → may_shut scene ring ks ≡ true
  unfolding may_shut shuts_from scene_of
  shut_test ks wk ring king distinct far filled =
      let here = king_from p r w wk king in
      let a = and_from (has_square scene.winner_king wk) (not (wk == ks)) here (apart_from wk ks distinct) in
      let b = and_from (has_square scene.winner_king wk && not (wk == ks)) (not (steps_apart ks wk == 1)) a (apart_from (steps_apart ks wk) 1 far) in
      any_square_at (shuts_from scene ring ks) wk king.small (and_from (has_square scene.winner_king wk && not (wk == ks) && not (steps_apart ks wk == 1)) (is_filled ring (left ring.struck ks wk)) b filled)

  pub shut_gives : (ks : ℕ) (ring : Ring) → may_shut scene ring ks ≡ true → ShutBy p s w ks ring
  unfolding may_shut shuts_from scene_of
  shut_gives ks ring h =
      let wk = some_square (shuts_from scene ring ks) h in
      let a = and_parts (has_square scene.winner_king wk.0 && not (wk.0 == ks) && not (steps_apart ks wk.0 == 1)) (is_filled ring (left ring.struck ks wk.0)) wk.2 in
      let b = and_parts (has_square scene.winner_king wk.0 && not (wk.0 == ks)) (not (steps_apart ks wk.0 == 1)) a.0 in
      let d = and_parts (has_square scene.winner_king wk.0) (not (wk.0 == ks)) b.0 in
      record {
        wk = wk.0;
        king = king_gives p r w wk.0 wk.1 d.0;
        distinct = apart_tells wk.0 ks d.1;
        far = apart_tells (steps_apart ks wk.0) 1 b.1;
        filled = a.1;
      }

  -- who could not at once end a check
  pub stays_test : (ks u n : ℕ) (j : Kind) → NonKingOn p s (other_color w) j n → ends_check (other_color w) ks u j n ≡ false → has_square (stays_on scene ks u) n ≡ true
  unfolding stays_on stays_as scene_of
  stays_test ks u n j man stuck =
      let has = ap (λ q. has_square q n) (squares_as_is p r.rows (other_color w) j) ∙ man_from p r (other_color w) j n man in
      let as_kind = and_from (has_square (squares_as scene.losers j) n) (not (ends_check (other_color w) ks u j n)) has (ap not stuck) in
      has-set_of (λ n. list_any (stays_as scene ks u n) kinds) n man.small ∙ any_kind_at (stays_as scene ks u n) j as_kind

  pub stays_give : (ks u n : ℕ) → n < 64 → has_square (stays_on scene ks u) n ≡ true → (j : Kind) × NonKingOn p s (other_color w) j n × (ends_check (other_color w) ks u j n ≡ false)
  unfolding stays_on stays_as scene_of
  stays_give ks u n small h =
      let j = some_kind (stays_as scene ks u n) (sym (has-set_of (λ n. list_any (stays_as scene ks u n) kinds) n small) ∙ h) in
      let both = and_parts (has_square (squares_as scene.losers j.0) n) (not (ends_check (other_color w) ks u j.0 n)) j.1 in
      (j.0, man_gives p r (other_color w) j.0 n small (sym (ap (λ q. has_square q n) (squares_as_is p r.rows (other_color w) j.0)) ∙ both.0), not-true (ends_check (other_color w) ks u j.0 n) both.1)
