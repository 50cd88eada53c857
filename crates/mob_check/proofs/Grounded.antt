-- Closed sets keep the rules on the ground of any sets within them.
use Rattle.std.proofs.Common.{◌≡◌, ◌≢◌, ℕ, ◌+◌, ◌-◌, ◌<◌, Bool, true, false, not, ◌&&◌, ◌||◌, ◌==◌, List, Some, refl, sym, ap, subst, ◌∙◌, arith, inl, inr}
use Rattle.std.specs.List.{list_any}
use Rattle.std.proofs.lemmas.Bool.{and_parts, and_from, or_cases, both_ways, not-true, not-false, eqb-true, eqb-false, cases_Bool}
use Rattle.cha_board.specs.declared.men.Color.{Color}
use Rattle.cha_board.specs.declared.men.Color.TheVariants.{White, Black}
use Rattle.cha_board.specs.declared.men.Kind.{Kind}
use Rattle.cha_board.specs.declared.men.Kind.TheVariants.{Pawn, Knight, Bishop, Rook, Queen, King}
use Rattle.cha_board.specs.declared.men.Man.{Man}
use Rattle.cha_board.specs.Men.{other_color, same_color, same_kind, is_non_king}
use Rattle.cha_board.specs.Squares.{squares, rank_of, last_rank, files_apart, is_rank_ahead, aims_at, steps_apart}
use Rattle.cha_board.specs.SquareSets.{set_of, has_square}
use Rattle.cha_board.specs.Shifts.{is_ahead}
use Rattle.cha_board.specs.Board.{Board, man_at}
use Rattle.cha_moves.specs.Moves.{is_target, is_promotion, victim_of}
use Rattle.cha_board.proofs.Identity.{same_color_equal, same_kind_equal}
use Rattle.mob_law.specs.Reach.{is_fixed, is_open, is_leaper, steps_to, is_guarded}
use Rattle.mob_sets.specs.Mobility.{Sets, IsWithin}
use Rattle.mob_law.specs.Closed.{has_fixed_enemy, Entry, Enters, IsClosed}
use Rattle.cha_board.proofs.Contents.{some_square, in_set_of}
use Rattle.mob_law.proofs.Geometry.{leap_clear}
use Rattle.cha_board.proofs.ManTests.{kinds_differ, same_kind_from}
use Rattle.mob_law.proofs.Standing.{open_near}
use Rattle.mob_check.specs.SingleSteps.{is_stepped_to, stays}
use Rattle.mob_check.specs.Grounds.{ground_of, side_in}
use Rattle.mob_check.specs.Rules.{is_barred, piece_goes, pawn_steps, is_capturable, pawn_captures, pawn_goes, goes_on, is_struck, passes_on, is_passed, is_left, is_freed, AreRules, AllRules}
use Rattle.mob_check.proofs.GroundAt.{fixed_at, guards_at, reach_at, men_at, target_at, reached_enemy}
use Rattle.mob_law.proofs.Growing.{free_grows, guard_shrinks, enemy_grows, enemy_forced}

-- what stands behind a square of a set is the pawn that is captured en passant there
behind : (c : Color) (onto : List Bool) (x : ℕ) → x < 64 → is_ahead (other_color c) onto x ≡ true → (t : ℕ) × (has_square onto t ≡ true) × (x ≡ victim_of c t)
behind White onto x small h =
    let both = and_parts (not (rank_of x == 7)) (has_square onto (x + 8)) h in
    (x + 8, both.1, omega arith)
behind Black onto x small h =
    let both = and_parts (not (rank_of x == 0)) (has_square onto (x - 8)) h in
    let ne = eqb-false (rank_of x) 0 (not-true (rank_of x == 0) both.0) in
    (x - 8, both.1, omega (arith, ne))

-- a man that goes from u to t
record Goes (r : Sets) (o : ℕ) (c : Color) (k : Kind) (u t : ℕ) : Type 0 where
  stay : stays c k t ≡ true → r.has o k t ≡ true
  become : stays c k t ≡ false → (j : Kind) → is_promotion (Some j) ≡ true → r.has o j t ≡ true
  leaves : u ≡ o → r.loose o ≡ true

pawn_stays : (c : Color) (t : ℕ) → stays c Pawn t ≡ true → rank_of t ≢ last_rank c
unfolding stays
pawn_stays c t h = eqb-false (rank_of t) (last_rank c) (not-true (rank_of t == last_rank c) h)

pawn_ends : (c : Color) (t : ℕ) → stays c Pawn t ≡ false → rank_of t ≡ last_rank c
unfolding stays
pawn_ends c t h = eqb-true (rank_of t) (last_rank c) (not-false (rank_of t == last_rank c) h)

pub piece_stays : (c : Color) (k : Kind) (t : ℕ) → same_kind k Pawn ≡ false → stays c k t ≡ true
unfolding stays
piece_stays c k t other = ap (λ b. not (b && (rank_of t == last_rank c))) other

entered_goes : (p : Board) (r : Sets) (o : ℕ) (c : Color) (u t : ℕ) → Enters p r o c u t → Goes r o c Pawn u t
entered_goes p r o c u t e = record {
  stay = λ h. e.stays (pawn_stays c t h);
  become = λ h. e.becomes (pawn_ends c t h);
  leaves = e.leaves;
}

-- Where s lie within r, and r are closed:
module _ (p : Board) (s r : Sets) (within : IsWithin s r) (closed : IsClosed p r) where
  free_at : (t : ℕ) → t < 64 → has_square (ground_of p s).fixed t ≡ false → is_fixed p r t ≡ false
  free_at t small h = free_grows p s r within t (sym (fixed_at p s t small) ∙ h)

  unguarded : (c : Color) (k : Kind) (t : ℕ) → t < 64 → is_barred (ground_of p s) c k t ≡ false → k ≡ King → is_guarded p r (other_color c) t ≡ false
  unfolding is_barred
  unguarded c k t small h king =
      let none : has_square (side_in (ground_of p s) (other_color c)).guards t ≡ false = sym (ap (λ b. b && has_square (side_in (ground_of p s) (other_color c)).guards t) (same_kind_from k King king)) ∙ h in
      guard_shrinks p s r within (other_color c) t (sym (guards_at p s (other_color c) t small) ∙ none)

  open_step : (c : Color) (k : Kind) (u t : ℕ) → u < 64 → t < 64 → steps_to c k u t ≡ true → (aims_at c k u t ≡ true) × (is_open p r u t ≡ true)
  unfolding steps_to
  open_step c k u t small small' h =
      let both = and_parts (aims_at c k u t) (is_leaper k || (steps_apart u t == 1)) h in
      (both.0, open_near p r u t (leap_clear c k u t small small' both.0 both.1))

  piece_forced : (o : ℕ) (man : Man) (k : Kind) (u t : ℕ) → man_at p.men o ≡ Some man → r.has o k u ≡ true → u < 64 → t < 64 → same_kind k Pawn ≡ false → piece_goes (ground_of p s) man.color k u t ≡ true
      → Goes r o man.color k u t
  unfolding piece_goes
  piece_forced o man k u t stood reach small small' other h =
      let g = ground_of p s in
      let a = and_parts (steps_to man.color k u t && not (is_barred g man.color k t)) (not (has_square g.fixed t)) h in
      let b = and_parts (steps_to man.color k u t) (not (is_barred g man.color k t)) a.0 in
      let way = open_step man.color k u t small small' b.0 in
      let free = free_at t small' (not-true (has_square g.fixed t) a.1) in
      let rule = closed.pieces_move o man k u t (record { stood = stood; reach = reach; from = small; to = small' }) (kinds_differ k Pawn other) way.0 way.1
      (unguarded man.color k t small' (not-true (is_barred g man.color k t) b.1)) in
      record { stay = λ _. rule.goes free; become = λ h'. absurd (both_ways (stays man.color k t) h' (piece_stays man.color k t other)); leaves = rule.leaves free }

  pawn_forced : (o : ℕ) (man : Man) (u t : ℕ) → man_at p.men o ≡ Some man → r.has o Pawn u ≡ true → u < 64 → t < 64 → pawn_goes (ground_of p s) man.color u t ≡ true → Enters p r o man.color u t
  unfolding pawn_goes pawn_steps pawn_captures is_capturable
  pawn_forced o man u t stood reach small small' h =
      let g = ground_of p s in
      let c = man.color in
      let entry : Entry p r o man Pawn u t = record { stood = stood; reach = reach; from = small; to = small' } in
      let free = has_square g.fixed in
      elim (or_cases (pawn_steps g c u t) (pawn_captures g c u t) h) [
        | inl one ↦ (
            let a = and_parts ((files_apart u t == 0) && is_rank_ahead c u t) (not (free t)) one in
            let b = and_parts (files_apart u t == 0) (is_rank_ahead c u t) a.0 in
            closed.pawns_step o man u t entry (eqb-true (files_apart u t) 0 b.0) b.1 (free_at t small' (not-true (free t) a.1)))
        | inr takes ↦ (
            let a = and_parts (steps_to c Pawn u t) (is_capturable g c t) takes in
            let way = open_step c Pawn u t small small' a.0 in
            let rule = closed.pawns_capture o man u t entry way.0 in
            elim (or_cases (not (free t) && has_square (side_in g (other_color c)).reach t) (has_square (side_in g c).target t) a.1) [
              | inl enemy ↦ (
                  let b = and_parts (not (free t)) (has_square (side_in g (other_color c)).reach t) enemy in
                  let foe = reached_enemy p s c t (sym (reach_at p s (other_color c) t small') ∙ b.1) in
                  rule.captures (free_at t small' (not-true (free t) b.0)) (enemy_grows p s r within c t foe))
              | inr target ↦ (
                  let b = and_parts (is_target p.target t) (same_color c p.side) (sym (target_at p s c t small') ∙ target) in
                  rule.en_passant b.0 (same_color_equal c p.side b.1))
            ])
      ]

  goes_forced : (o : ℕ) (man : Man) (k : Kind) (u t : ℕ) → man_at p.men o ≡ Some man → r.has o k u ≡ true → u < 64 → t < 64 → goes_on (ground_of p s) man.color k u t ≡ true → Goes r o man.color k u t
  unfolding goes_on
  goes_forced o man Pawn u t stood reach small small' h = entered_goes p r o man.color u t (pawn_forced o man u t stood reach small small' h)
  goes_forced o man Knight u t stood reach small small' h = piece_forced o man Knight u t stood reach small small' refl h
  goes_forced o man Bishop u t stood reach small small' h = piece_forced o man Bishop u t stood reach small small' refl h
  goes_forced o man Rook u t stood reach small small' h = piece_forced o man Rook u t stood reach small small' refl h
  goes_forced o man Queen u t stood reach small small' h = piece_forced o man Queen u t stood reach small small' refl h
  goes_forced o man King u t stood reach small small' h = piece_forced o man King u t stood reach small small' refl h

  spared : (o : ℕ) (man : Man) (k : Kind) (u x : ℕ) → man_at p.men o ≡ Some man → r.has o k u ≡ true → u < 64 → x < 64 → steps_to man.color k u x ≡ true → is_barred (ground_of p s) man.color k x ≡ false
      → has_fixed_enemy p r man.color x ≡ false
  spared o man k u x stood reach small small' steps bar =
      let way = open_step man.color k u x small small' steps in
      elim (cases_Bool (same_kind k Pawn)) [
        | inl e ↦ (
            let pawn = same_kind_equal k Pawn e in
            let P : Kind → Type 0 = λ j. r.has o j u ≡ true in
            let Q : Kind → Type 0 = λ j. aims_at man.color j u x ≡ true in
            (closed.pawns_capture o man u x (record { stood = stood; reach = subst P pawn reach; from = small; to = small' }) (subst Q pawn way.0)).spares)
        | inr other ↦ (closed.pieces_move o man k u x (record { stood = stood; reach = reach; from = small; to = small' }) (kinds_differ k Pawn other) way.0 way.1 (unguarded man.color k x small' bar)).spares
      ]

  struck_forced : (o : ℕ) (man : Man) (k : Kind) (set : List Bool) → man_at p.men o ≡ Some man → ((u : ℕ) → has_square set u ≡ true → r.has o k u ≡ true) → (x : ℕ) → x < 64
      → is_struck (ground_of p s) man.color k set x ≡ true → r.loose x ≡ true
  unfolding is_struck is_stepped_to has_fixed_enemy
  struck_forced o man k set stood holds x small h =
      let g = ground_of p s in
      let c = man.color in
      let men = (side_in g (other_color c)).men in
      let a = and_parts (has_square g.fixed x && has_square men x && not (is_barred g c k x)) (is_stepped_to c k set x) h in
      let b = and_parts (has_square g.fixed x && has_square men x) (not (is_barred g c k x)) a.0 in
      let d = and_parts (has_square g.fixed x) (has_square men x) b.0 in
      let from = some_square (λ u. has_square set u && steps_to c k u x) a.1 in
      let two = and_parts (has_square set from.0) (steps_to c k from.0 x) from.2 in
      let none = spared o man k from.0 x stood (holds from.0 two.0) from.1 small two.1 (not-true (is_barred g c k x) b.1) in
      let here : (is_fixed p s x && is_non_king (other_color c) (man_at p.men x)) ≡ true
      = and_from (is_fixed p s x) (is_non_king (other_color c) (man_at p.men x)) (sym (fixed_at p s x small) ∙ d.0) (sym (men_at p s (other_color c) x small) ∙ d.1) in
      enemy_forced p s r c x none here

  passed_forced : (o : ℕ) (man : Man) (k : Kind) (set : List Bool) → man_at p.men o ≡ Some man → ((u : ℕ) → has_square set u ≡ true → r.has o k u ≡ true) → (x : ℕ) → x < 64
      → is_passed (ground_of p s) man.color k set x ≡ true → r.loose x ≡ true
  unfolding is_passed passes_on is_stepped_to
  passed_forced o man k set stood holds x small h =
      let g = ground_of p s in
      let c = man.color in
      let a = and_parts (same_kind k Pawn) (is_ahead (other_color c) (set_of (passes_on g c k set)) x) h in
      let t = behind c (set_of (passes_on g c k set)) x small a.1 in
      let onto = in_set_of (passes_on g c k set) t.0 t.1 in
      let d = and_parts (has_square (side_in g c).target t.0) (is_stepped_to c k set t.0) onto.1 in
      let from = some_square (λ u. has_square set u && steps_to c k u t.0) d.1 in
      let two = and_parts (has_square set from.0) (steps_to c k from.0 t.0) from.2 in
      let pawn = same_kind_equal k Pawn a.0 in
      let P : Kind → Type 0 = λ j. r.has o j from.0 ≡ true in
      let A : Kind → Type 0 = λ j. aims_at c j from.0 t.0 ≡ true in
      let way = open_step c k from.0 t.0 from.1 onto.0 two.1 in
      let target = and_parts (is_target p.target t.0) (same_color c p.side) (sym (target_at p s c t.0 onto.0) ∙ d.0) in
      let Q : ℕ → Type 0 = λ y. r.loose y ≡ true in
      subst Q (sym t.2) ((closed.pawns_capture o man from.0 t.0 (record { stood = stood; reach = subst P pawn (holds from.0 two.0); from = from.1; to = onto.0 }) (subst A pawn way.0)).victim target.0 (same_color_equal c p.side target.1))

  left_forced : (o : ℕ) (man : Man) (k : Kind) (set : List Bool) → man_at p.men o ≡ Some man → ((u : ℕ) → has_square set u ≡ true → r.has o k u ≡ true) → (x : ℕ) → x < 64
      → is_left (ground_of p s) o man.color k set x ≡ true → r.loose x ≡ true
  unfolding is_left
  left_forced o man k set stood holds x small h =
      let g = ground_of p s in
      let c = man.color in
      let a = and_parts ((x == o) && has_square set o) (list_any (goes_on g c k o) squares) h in
      let b = and_parts (x == o) (has_square set o) a.0 in
      let t = some_square (goes_on g c k o) a.1 in
      let at = eqb-true x o b.0 in
      let small-o : o < 64 = omega arith in
      let goes = goes_forced o man k o t.0 stood (holds o b.1) small-o t.1 t.2 in
      let Q : ℕ → Type 0 = λ y. r.loose y ≡ true in
      subst Q (sym at) (goes.leaves refl)

  rules_forced : (o : ℕ) (man : Man) (k : Kind) → man_at p.men o ≡ Some man → AreRules (ground_of p s) r o man.color k
  unfolding is_freed
  rules_forced o man k stood = record {
    stay = λ u t small small' here goes stay. (goes_forced o man k u t stood here small small' goes).stay stay;
    become = λ u t small small' here goes ends. (goes_forced o man k u t stood here small small' goes).become ends;
    free = λ set holds x small h. (
        let g = ground_of p s in
        let c = man.color in
        elim (or_cases (is_struck g c k set x || is_passed g c k set x) (is_left g o c k set x) h) [
          | inl e ↦ (elim (or_cases (is_struck g c k set x) (is_passed g c k set x) e) [
            | inl f ↦ struck_forced o man k set stood holds x small f
            | inr f ↦ passed_forced o man k set stood holds x small f
          ])
          | inr e ↦ left_forced o man k set stood holds x small e
        ]);
  }

  -- closed sets keep the rules on the ground of sets within them
  pub all_forced : AllRules p (ground_of p s) r
  all_forced o man stood = record { begins = closed.begins o man stood; each = λ k. rules_forced o man k stood }
