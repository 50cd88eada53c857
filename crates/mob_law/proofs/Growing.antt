-- Larger sets: what is fixed or guarded in them is so in smaller ones, and a threat in smaller sets is one in larger ones.
use Rattle.std.proofs.Common.{◌≡◌, ℕ, Option, true, false, not, ◌&&◌, ◌||◌, ◌==◌, ap, inl, inr}
use Rattle.std.proofs.lemmas.Bool.{and_parts, and_from, or_cases, or_left, or_right, both_ways, false_from_ne_true, true_from_ne_false, not-true}
use Rattle.cha_board.specs.declared.men.Color.{Color}
use Rattle.cha_board.specs.declared.men.Kind.{Kind}
use Rattle.cha_board.specs.declared.men.Kind.TheVariants.{King}
use Rattle.cha_board.specs.Men.{other_color, is_non_king}
use Rattle.cha_board.specs.Squares.{between}
use Rattle.cha_board.specs.Board.{Board, man_at, is_empty}
use Rattle.cha_board.proofs.Scans.{any_square_at}
use Rattle.mob_law.specs.Reach.{is_fixed, is_open, is_open_through, guards_as, guards_from, is_guarded}
use Rattle.mob_sets.specs.Mobility.{Sets, IsWithin}
use Rattle.mob_law.specs.Closed.{has_fixed_enemy, EnemyReaches}
use Rattle.mob_law.specs.Threats.{KingOn, NonKingOn, MayStandNear, Covered, Blocked, NextToKing, Attacked, Threat, HasNoMate}
use Rattle.cha_board.proofs.Contents.{some_square}
use Rattle.mob_law.proofs.Standing.{all_weaker}

-- Where s lie within r:
module _ (p : Board) (s r : Sets) (within : IsWithin s r) where
  -- what is fixed in the larger sets is fixed in the smaller ones
  pub fixed_shrinks : (f : ℕ) → is_fixed p r f ≡ true → is_fixed p s f ≡ true
  unfolding is_fixed
  fixed_shrinks f h =
      let both = and_parts (not (is_empty p.men f)) (not (r.loose f)) h in
      let tied : s.loose f ≡ false = false_from_ne_true (s.loose f) (λ loose. both_ways (r.loose f) (not-true (r.loose f) both.1) (within.loose f loose)) in
      and_from (not (is_empty p.men f)) (not (s.loose f)) both.0 (ap not tied)

  pub free_grows : (f : ℕ) → is_fixed p s f ≡ false → is_fixed p r f ≡ false
  free_grows f free = false_from_ne_true (is_fixed p r f) (λ h. both_ways (is_fixed p s f) free (fixed_shrinks f h))

  -- what is open stays open
  pub open_grows : (u t : ℕ) → is_open p s u t ≡ true → is_open p r u t ≡ true
  unfolding is_open
  open_grows u t h =
      all_weaker (λ v. not (is_fixed p s v)) (λ v. not (is_fixed p r v)) (between u t) (λ v free. ap not (free_grows v (not-true (is_fixed p s v) free))) h

  pub open_through_grows : (k u t : ℕ) → is_open_through p s k u t ≡ true → is_open_through p r k u t ≡ true
  unfolding is_open_through
  open_through_grows k u t h =
      all_weaker (λ v. (v == k) || not (is_fixed p s v)) (λ v. (v == k) || not (is_fixed p r v)) (between u t) (λ v free.
      elim (or_cases (v == k) (not (is_fixed p s v)) free) [
        | inl x ↦ or_left (v == k) (not (is_fixed p r v)) x
        | inr x ↦ or_right (v == k) (not (is_fixed p r v)) (ap not (free_grows v (not-true (is_fixed p s v) x)))
      ]) h

  -- what is not guarded stays unguarded
  pub guard_shrinks : (c : Color) (t : ℕ) → is_guarded p s c t ≡ false → is_guarded p r c t ≡ false
  unfolding is_guarded guards_from
  guard_shrinks c t none =
      false_from_ne_true (is_guarded p r c t) (λ h.
      let from = some_square (guards_from p r c t) h in
      let both = and_parts (is_fixed p r from.0) (guards_as c from.0 t (man_at p.men from.0)) from.2 in
      let guards = and_from (is_fixed p s from.0) (guards_as c from.0 t (man_at p.men from.0)) (fixed_shrinks from.0 both.0) both.1 in
      both_ways (is_guarded p s c t) none (any_square_at (guards_from p s c t) from.0 from.1 guards))

  -- what is in reach stays in reach
  pub king_grows : (c : Color) (u : ℕ) → KingOn p s c u → KingOn p r c u
  king_grows c u k = record { origin = k.origin; stood = k.stood; reach = within.has k.origin King u k.reach; small = k.small }

  pub non_king_grows : (c : Color) (k : Kind) (u : ℕ) → NonKingOn p s c k u → NonKingOn p r c k u
  non_king_grows c k u h = record { origin = h.origin; stood = h.stood; reach = within.has h.origin k u h.reach; small = h.small }

  pub enemy_grows : (c : Color) (t : ℕ) → EnemyReaches p s c t → EnemyReaches p r c t
  enemy_grows c t e = record { origin = e.origin; man = e.man; kind = e.kind; stood = e.stood; enemy = e.enemy; reach = within.has e.origin e.kind t e.reach }

  near_grows : (c : Color) (ks o : ℕ) → MayStandNear p s c ks o → MayStandNear p r c ks o
  near_grows c ks o h = record { stood = h.stood; kind = h.kind; square = h.square; small = h.small; next = h.next; reach = within.has o h.kind h.square h.reach }

  covered_grows : (w : Color) (ks wk n : ℕ) (k : Kind) (u : ℕ) (counted : Option ℕ) → Covered p s w ks wk n k u counted → Covered p r w ks wk n k u counted
  covered_grows w ks wk n k u counted (Blocked j h stuck o is) = Blocked j (non_king_grows (other_color w) j n h) stuck o is
  covered_grows w ks wk n k u counted (NextToKing h) = NextToKing h
  covered_grows w ks wk n k u counted (Attacked j v a lone) = Attacked j v (record {
    attacker = non_king_grows w j v a.attacker;
    not_there = a.not_there;
    other = a.other;
    aims = a.aims;
    open_way = open_through_grows ks v n a.open_way;
  }) lone

  -- a threat in smaller sets is one in larger ones
  pub threat_grows : (w : Color) (ks wk : ℕ) → Threat p s w ks wk → Threat p r w ks wk
  threat_grows w ks wk t = record {
    loser = king_grows (other_color w) ks t.loser;
    winner = king_grows w wk t.winner;
    distinct = t.distinct;
    far = t.far;
    kind = t.kind;
    square = t.square;
    checks = record {
      checker = non_king_grows w t.kind t.square t.checks.checker;
      other = t.checks.other;
      aims = t.checks.aims;
      open_way = open_grows t.square ks t.checks.open_way;
    };
    counted = t.counted;
    covered = λ n small step. covered_grows w ks wk n t.kind t.square (t.counted n) (t.covered n small step);
    near = λ n o is. near_grows (other_color w) ks o (t.near n o is);
    once = t.once;
  }

  pub no_mate_shrinks : (w : Color) → HasNoMate p r w → HasNoMate p s w
  no_mate_shrinks w none ks wk threat = none ks wk (threat_grows w ks wk threat)

-- a fixed enemy that could be captured is loose in all closed sets that hold these
pub enemy_forced : (p : Board) (s r : Sets) (c : Color) (t : ℕ) → has_fixed_enemy p r c t ≡ false → has_fixed_enemy p s c t ≡ true → r.loose t ≡ true
unfolding has_fixed_enemy is_fixed
enemy_forced p s r c t none here =
    true_from_ne_false (r.loose t) (λ tied.
    let both = and_parts (is_fixed p s t) (is_non_king (other_color c) (man_at p.men t)) here in
    let stands = and_parts (not (is_empty p.men t)) (not (s.loose t)) both.0 in
    let fixed : is_fixed p r t ≡ true = and_from (not (is_empty p.men t)) (not (r.loose t)) stands.0 (ap not tied) in
    both_ways (is_fixed p r t && is_non_king (other_color c) (man_at p.men t)) none (and_from (is_fixed p r t) (is_non_king (other_color c) (man_at p.men t)) fixed both.1))
