-- Sets that keep the rules on their own ground are closed.
use Rattle.std.proofs.Common.{◌≡◌, ◌≢◌, ℕ, zero, suc, ◌+◌, ◌-◌, ◌<◌, ◌≤◌, Bool, true, false, not, ◌&&◌, ◌||◌, ◌==◌, List, length, if◌then◌else◌, Some, refl, sym, ap, subst, ◌∙◌, arith, inl, inr}
use Rattle.std.specs.List.{list_any}
use Rattle.std.proofs.lemmas.Bool.{and_parts, and_from, or_left, or_right, both_ways, false_from_ne_true, eq-eqb, ne_eqb, eqb-true, cases_Bool}
use Rattle.cha_board.specs.declared.men.Color.{Color}
use Rattle.cha_board.specs.declared.men.Color.TheVariants.{White, Black}
use Rattle.cha_board.specs.declared.men.Kind.{Kind}
use Rattle.cha_board.specs.declared.men.Kind.TheVariants.{Pawn, Knight, Bishop, Rook, Queen, King}
use Rattle.cha_board.specs.declared.men.Man.{Man}
use Rattle.cha_board.specs.Men.{other_color, same_color, same_kind, is_non_king}
use Rattle.cha_board.specs.Squares.{squares, rank_of, last_rank, files_apart, is_rank_ahead, aims_at, steps_apart}
use Rattle.cha_board.specs.SquareSets.{set_of, empty_set, has_square, set_with}
use Rattle.cha_board.proofs.SetLaws.{has-set_of}
use Rattle.cha_board.specs.Shifts.{is_ahead}
use Rattle.cha_board.specs.Board.{Board, man_at, IsValid}
use Rattle.cha_board.proofs.Scans.{any_square_at}
use Rattle.cha_moves.specs.Moves.{is_target, victim_of}
use Rattle.cha_board.proofs.Identity.{on_board, same_kind_equal}
use Rattle.mob_law.specs.Reach.{is_fixed, is_open, is_leaper, steps_to, is_guarded}
use Rattle.mob_sets.specs.Mobility.{Sets}
use Rattle.mob_law.specs.Closed.{has_fixed_enemy, PieceGoes, PawnsStep, Enters, EnemyReaches, PawnCaptures, IsClosed}
use Rattle.mob_law.specs.Castling.{IsClosedButForCastling}
use Rattle.mob_law.proofs.DoubleSteps.{step_twice}
use Rattle.mob_law.proofs.CastlingFollows.{follows}
use Rattle.cha_board.proofs.ManTests.{other_kind, same_color_from}
use Rattle.mob_law.proofs.Standing.{fixed_stands}
use Rattle.mob_sets.proofs.KindTests.{any_kind_at}
use Rattle.mob_check.specs.SingleSteps.{is_stepped_to, stays}
use Rattle.mob_sets.specs.Rows.{kinds}
use Rattle.mob_check.specs.Grounds.{reaches_from, is_reached, ground_of, side_in}
use Rattle.mob_check.specs.Rules.{is_barred, piece_goes, pawn_steps, is_capturable, pawn_captures, pawn_goes, goes_on, is_struck, passes_on, is_passed, is_left, is_freed, AreRules, AllRules}
use Rattle.cha_board.proofs.Contents.{in_single, single_has}
use Rattle.mob_check.proofs.GroundAt.{fixed_at, guards_at, reach_at, men_at, target_at}
use Rattle.mob_check.proofs.Grounded.{piece_stays}
use Rattle.mob_check.proofs.AlongLines.{is_slider, last_step, last_open}

abbrev one : ℕ → List Bool
one u = set_with empty_set u

-- behind a target that a pawn aims at stands the pawn that it captures en passant
stands_behind : (c : Color) (onto : List Bool) (u t : ℕ) → u < 64 → t < 64 → aims_at c Pawn u t ≡ true → has_square onto t ≡ true → (victim_of c t < 64) × (is_ahead (other_color c) onto (victim_of c t) ≡ true)
unfolding aims_at is_rank_ahead
stands_behind White onto u t small' small aims here =
    let e = eqb-true (rank_of t) (rank_of u + 1) (and_parts (rank_of t == rank_of u + 1) (files_apart u t == 1) aims).0 in
    let back : t - 8 + 8 ≡ t = omega (arith, e) in
    let low : rank_of (t - 8) ≢ 7 = (λ f. omega (arith, e, f, small)) in
    (omega (arith, small), and_from (not (rank_of (t - 8) == 7)) (has_square onto (t - 8 + 8)) (ap not (ne_eqb (rank_of (t - 8)) 7 low)) (ap (has_square onto) back ∙ here))
stands_behind Black onto u t small' small aims here =
    let e = eqb-true (rank_of u) (rank_of t + 1) (and_parts (rank_of u == rank_of t + 1) (files_apart u t == 1) aims).0 in
    let back : t + 8 - 8 ≡ t = omega arith in
    let high : rank_of (t + 8) ≢ 0 = (λ f. omega (arith, f)) in
    (omega (arith, e, small'), and_from (not (rank_of (t + 8) == 0)) (has_square onto (t + 8 - 8)) (ap not (ne_eqb (rank_of (t + 8)) 0 high)) (ap (has_square onto) back ∙ here))

-- Where s keep the rules on their ground:
module _ (p : Board) (s : Sets) (size : length p.men ≡ 64) (rules : AllRules p (ground_of p s) s) where
  reached_from : (c : Color) (t : ℕ) → EnemyReaches p s c t → is_reached p s (other_color c) t ≡ true
  unfolding is_reached reaches_from
  reached_from c t e =
      let small : e.origin < 64 = rw size at (on_board p.men e.origin e.man e.stood) in
      let own : is_non_king (other_color c) (man_at p.men e.origin) ≡ true = ap (is_non_king (other_color c)) e.stood ∙ e.enemy in
      any_square_at (reaches_from p s (other_color c) t) e.origin small
      (and_from (is_non_king (other_color c) (man_at p.men e.origin)) (list_any (λ k. s.has e.origin k t) kinds) own (any_kind_at (λ k. s.has e.origin k t) e.kind e.reach))

  module _ (o : ℕ) (man : Man) (stood : man_at p.men o ≡ Some man) where
    keeps : (k : Kind) → AreRules (ground_of p s) s o man.color k
    keeps = (rules o man stood).each

    held : (k : Kind) (u : ℕ) → s.has o k u ≡ true → (v : ℕ) → has_square (one u) v ≡ true → s.has o k v ≡ true
    held k u reach v h = (let P : ℕ → Type 0 = λ x. s.has o k x ≡ true in subst P (sym (in_single u v h)) reach)

    stepped_one : (k : Kind) (u t : ℕ) → u < 64 → steps_to man.color k u t ≡ true → is_stepped_to man.color k (one u) t ≡ true
    unfolding is_stepped_to
    stepped_one k u t small steps =
        any_square_at (λ x. has_square (one u) x && steps_to man.color k x t) u small (and_from (has_square (one u) u) (steps_to man.color k u t) (single_has u small) steps)

    -- a man that goes from its origin leaves it
    leaves_home : (k : Kind) (u t : ℕ) → s.has o k u ≡ true → u < 64 → t < 64 → goes_on (ground_of p s) man.color k u t ≡ true → u ≡ o → s.loose o ≡ true
    unfolding is_freed is_left
    leaves_home k u t reach small small' goes home =
        let g = ground_of p s in
        let small-o : o < 64 = omega (arith, home) in
        let P : ℕ → Type 0 = λ x. goes_on g man.color k x t ≡ true in
        let Q : ℕ → Type 0 = λ x. s.has o k x ≡ true in
        let here = subst Q home reach in
        let any : list_any (goes_on g man.color k o) squares ≡ true = any_square_at (goes_on g man.color k o) t small' (subst P home goes) in
        let left : is_left g o man.color k (one o) o ≡ true = and_from ((o == o) && has_square (one o) o) (list_any (goes_on g man.color k o) squares) (and_from (o == o) (has_square (one o) o) (eq-eqb o o refl) (single_has o small-o)) any in
        (keeps k).free (one o) (held k o here) o small-o (or_right (is_struck g man.color k (one o) o || is_passed g man.color k (one o) o) (is_left g o man.color k (one o) o) left)

    -- no fixed enemy is faced
    spares : (k : Kind) (u t : ℕ) → s.has o k u ≡ true → u < 64 → t < 64 → steps_to man.color k u t ≡ true → is_barred (ground_of p s) man.color k t ≡ false → has_fixed_enemy p s man.color t ≡ false
    unfolding has_fixed_enemy is_freed is_struck
    spares k u t reach small small' steps bar =
        false_from_ne_true (is_fixed p s t && is_non_king (other_color man.color) (man_at p.men t)) (λ h.
        let g = ground_of p s in
        let both = and_parts (is_fixed p s t) (is_non_king (other_color man.color) (man_at p.men t)) h in
        let men = (side_in g (other_color man.color)).men in
        let a : (has_square g.fixed t && has_square men t) ≡ true = and_from (has_square g.fixed t) (has_square men t) (fixed_at p s t small' ∙ both.0) (men_at p s (other_color man.color) t small' ∙ both.1) in
        let struck : is_struck g man.color k (one u) t ≡ true = and_from (has_square g.fixed t && has_square men t && not (is_barred g man.color k t)) (is_stepped_to man.color k (one u) t)
        (and_from (has_square g.fixed t && has_square men t) (not (is_barred g man.color k t)) a (ap not bar)) (stepped_one k u t small steps) in
        let loose = (keeps k).free (one u) (held k u reach) t small'
        (or_left (is_struck g man.color k (one u) t || is_passed g man.color k (one u) t) (is_left g o man.color k (one u) t) (or_left (is_struck g man.color k (one u) t) (is_passed g man.color k (one u) t) struck)) in
        both_ways (s.loose t) (fixed_stands p s t both.0).1 loose)

    -- a piece that makes one step
    piece_steps : (k : Kind) (u t : ℕ) → s.has o k u ≡ true → u < 64 → t < 64 → same_kind k Pawn ≡ false → steps_to man.color k u t ≡ true → is_barred (ground_of p s) man.color k t ≡ false → PieceGoes p s o man.color k u t
    unfolding goes_on piece_goes
    piece_steps k u t reach small small' other steps bar =
        let g = ground_of p s in
        let goes = λ (free : is_fixed p s t ≡ false).
        (let piece : piece_goes g man.color k u t ≡ true = and_from (steps_to man.color k u t && not (is_barred g man.color k t)) (not (has_square g.fixed t))
        (and_from (steps_to man.color k u t) (not (is_barred g man.color k t)) steps (ap not bar)) (ap not (fixed_at p s t small' ∙ free)) in
        let all : goes_on g man.color k u t ≡ true = ap (λ b. if b then pawn_goes g man.color u t else piece_goes g man.color k u t) other ∙ piece in all) in
        record {
          goes = λ free. (keeps k).stay u t small small' reach (goes free) (piece_stays man.color k t other);
          leaves = λ free home. leaves_home k u t reach small small' (goes free) home;
          spares = spares k u t reach small small' steps bar;
        }

    unbarred : (k : Kind) (t : ℕ) → t < 64 → (same_kind k King ≡ true → is_guarded p s (other_color man.color) t ≡ false) → is_barred (ground_of p s) man.color k t ≡ false
    unfolding is_barred
    unbarred k t small unguarded =
        elim (cases_Bool (same_kind k King)) [
          | inl e ↦ ap (λ b. b && has_square (side_in (ground_of p s) (other_color man.color)).guards t) e ∙ guards_at p s (other_color man.color) t small ∙ unguarded e
          | inr e ↦ ap (λ b. b && has_square (side_in (ground_of p s) (other_color man.color)).guards t) e
        ]

    slider_unbarred : (k : Kind) (t : ℕ) → is_slider k ≡ true → is_barred (ground_of p s) man.color k t ≡ false
    unfolding is_barred
    slider_unbarred Bishop t h = refl
    slider_unbarred Rook t h = refl
    slider_unbarred Queen t h = refl
    slider_unbarred k t h = cc

    slider_other : (k : Kind) → is_slider k ≡ true → same_kind k Pawn ≡ false
    slider_other Bishop h = refl
    slider_other Rook h = refl
    slider_other Queen h = refl
    slider_other k h = cc

    near_steps : (k : Kind) (u t : ℕ) → aims_at man.color k u t ≡ true → (steps_apart u t == 1) ≡ true → steps_to man.color k u t ≡ true
    unfolding steps_to
    near_steps k u t aims near = and_from (aims_at man.color k u t) (is_leaper k || (steps_apart u t == 1)) aims (or_right (is_leaper k) (steps_apart u t == 1) near)

    leap_steps : (k : Kind) (u t : ℕ) → aims_at man.color k u t ≡ true → is_leaper k ≡ true → steps_to man.color k u t ≡ true
    unfolding steps_to
    leap_steps k u t aims leap = and_from (aims_at man.color k u t) (is_leaper k || (steps_apart u t == 1)) aims (or_left (is_leaper k) (steps_apart u t == 1) leap)

    -- a piece that goes along a line, by the number of its steps
    slides : (n : ℕ) (k : Kind) (u t : ℕ) → is_slider k ≡ true → s.has o k u ≡ true → u < 64 → t < 64 → aims_at man.color k u t ≡ true → is_open p s u t ≡ true → steps_apart u t ≤ n → PieceGoes p s o man.color k u t
    slides zero k u t slider reach small small' aims open_way few =
        elim (cases_Bool (steps_apart u t == 1)) [
          | inl e ↦ piece_steps k u t reach small small' (slider_other k slider) (near_steps k u t aims e) (slider_unbarred k t slider)
          | inr far ↦ (let l = last_step man.color k u t slider small small' aims far in let less = l.less in absurd (omega (arith, few, less)))
        ]
    slides (suc n) k u t slider reach small small' aims open_way few =
        elim (cases_Bool (steps_apart u t == 1)) [
          | inl e ↦ piece_steps k u t reach small small' (slider_other k slider) (near_steps k u t aims e) (slider_unbarred k t slider)
          | inr far ↦ (
              let l = last_step man.color k u t slider small small' aims far in
              let less = l.less in
              let way = last_open p s man.color k u t open_way l in
              let first = slides n k u l.from slider reach small l.small l.first way.0 (omega (arith, few, less)) in
              let last = piece_steps k l.from t (first.goes way.1) l.small small' (slider_other k slider) (near_steps k l.from t l.last l.near) (slider_unbarred k t slider) in
              record { goes = last.goes; leaves = λ free home. first.leaves way.1 home; spares = last.spares })
        ]

    piece_goes_on : (k : Kind) (u t : ℕ) → s.has o k u ≡ true → u < 64 → t < 64 → same_kind k Pawn ≡ false → aims_at man.color k u t ≡ true → is_open p s u t ≡ true
        → (same_kind k King ≡ true → is_guarded p s (other_color man.color) t ≡ false) → PieceGoes p s o man.color k u t
    piece_goes_on Pawn u t reach small small' other aims open_way unguarded = cc
    piece_goes_on Knight u t reach small small' other aims open_way unguarded = piece_steps Knight u t reach small small' other (leap_steps Knight u t aims refl) (unbarred Knight t small' unguarded)
    piece_goes_on King u t reach small small' other aims open_way unguarded = piece_steps King u t reach small small' other (leap_steps King u t aims refl) (unbarred King t small' unguarded)
    piece_goes_on Bishop u t reach small small' other aims open_way unguarded = slides (steps_apart u t) Bishop u t refl reach small small' aims open_way (omega arith)
    piece_goes_on Rook u t reach small small' other aims open_way unguarded = slides (steps_apart u t) Rook u t refl reach small small' aims open_way (omega arith)
    piece_goes_on Queen u t reach small small' other aims open_way unguarded = slides (steps_apart u t) Queen u t refl reach small small' aims open_way (omega arith)

    stays_from : (t : ℕ) → rank_of t ≢ last_rank man.color → stays man.color Pawn t ≡ true
    unfolding stays
    stays_from t h = ap not (ne_eqb (rank_of t) (last_rank man.color) h)

    ends_from : (t : ℕ) → rank_of t ≡ last_rank man.color → stays man.color Pawn t ≡ false
    unfolding stays
    ends_from t h = ap not (eq-eqb (rank_of t) (last_rank man.color) h)

    pawn_enters : (u t : ℕ) → s.has o Pawn u ≡ true → u < 64 → t < 64 → pawn_goes (ground_of p s) man.color u t ≡ true → Enters p s o man.color u t
    unfolding goes_on
    pawn_enters u t reach small small' goes = record {
      stays = λ h. (keeps Pawn).stay u t small small' reach goes (stays_from t h);
      becomes = λ h k promotion. (keeps Pawn).become u t small small' reach goes (ends_from t h) k promotion;
      leaves = leaves_home Pawn u t reach small small' goes;
    }

    steps_enter : (u t : ℕ) → s.has o Pawn u ≡ true → u < 64 → t < 64 → files_apart u t ≡ 0 → is_rank_ahead man.color u t ≡ true → is_fixed p s t ≡ false → Enters p s o man.color u t
    unfolding pawn_goes pawn_steps
    steps_enter u t reach small small' file ahead free =
        let g = ground_of p s in
        let unfixed = not (has_square g.fixed t) in
        let e : unfixed ≡ true = ap not (fixed_at p s t small' ∙ free) in
        let steps : pawn_steps g man.color u t ≡ true = and_from ((files_apart u t == 0) && is_rank_ahead man.color u t) unfixed
        (and_from (files_apart u t == 0) (is_rank_ahead man.color u t) (eq-eqb (files_apart u t) 0 file) ahead) e in
        pawn_enters u t reach small small' (or_left (pawn_steps g man.color u t) (pawn_captures g man.color u t) steps)

    captures_enter : (u t : ℕ) → s.has o Pawn u ≡ true → u < 64 → t < 64 → aims_at man.color Pawn u t ≡ true → is_capturable (ground_of p s) man.color t ≡ true → Enters p s o man.color u t
    unfolding pawn_goes pawn_captures
    captures_enter u t reach small small' aims takes =
        let g = ground_of p s in
        let captures : pawn_captures g man.color u t ≡ true = and_from (steps_to man.color Pawn u t) (is_capturable g man.color t) (leap_steps Pawn u t aims refl) takes in
        pawn_enters u t reach small small' (or_right (pawn_steps g man.color u t) (pawn_captures g man.color u t) captures)

    pawn_captures_on : (u t : ℕ) → s.has o Pawn u ≡ true → u < 64 → t < 64 → aims_at man.color Pawn u t ≡ true → PawnCaptures p s o man.color u t
    unfolding is_capturable is_freed is_passed passes_on is_barred
    pawn_captures_on u t reach small small' aims =
        let g = ground_of p s in
        let steps = leap_steps Pawn u t aims refl in
        let enemy = not (has_square g.fixed t) && has_square (side_in g (other_color man.color)).reach t in
        let target = has_square (side_in g man.color).target t in
        record {
          captures = λ free foe. captures_enter u t reach small small' aims (or_left enemy target
              (and_from (not (has_square g.fixed t)) (has_square (side_in g (other_color man.color)).reach t) (ap not (fixed_at p s t small' ∙ free)) (reach_at p s (other_color man.color) t small' ∙ reached_from man.color t foe)));
          spares = spares Pawn u t reach small small' steps refl;
          en_passant = λ here side. captures_enter u t reach small small' aims (or_right enemy target
              (target_at p s man.color t small' ∙ and_from (is_target p.target t) (same_color man.color p.side) here (same_color_from man.color p.side side)));
          victim = λ here side. (
              let v = victim_of man.color t in
              let own = same_color_from man.color p.side side in
              let at : target ≡ true = target_at p s man.color t small' ∙ and_from (is_target p.target t) (same_color man.color p.side) here own in
              let onto = passes_on g man.color Pawn (one u) in
              let passes : onto t ≡ true = and_from target (is_stepped_to man.color Pawn (one u) t) at (stepped_one Pawn u t small steps) in
              let passed = stands_behind man.color (set_of onto) u t small small' aims (has-set_of onto t small' ∙ passes) in
              (keeps Pawn).free (one u) (held Pawn u reach) v passed.0
              (or_left (is_struck g man.color Pawn (one u) v || is_passed g man.color Pawn (one u) v) (is_left g o man.color Pawn (one u) v) (or_right (is_struck g man.color Pawn (one u) v) (is_passed g man.color Pawn (one u) v) passed.1)));
        }

  -- the rules but those of castling hold, and so those of castling
  but_for_castling : IsClosedButForCastling p s
  but_for_castling = record {
    begins = λ o man stood. (rules o man stood).begins;
    pieces_move = λ o man k u t entry other aims open_way unguarded. piece_goes_on o man entry.stood k u t entry.reach entry.from entry.to (other_kind k Pawn other) aims open_way (λ h. unguarded (same_kind_equal k King h));
    pawns_step = steps_hold;
    pawns_double_step = step_twice p s steps_hold;
    pawns_capture = λ o man u t entry aims. pawn_captures_on o man entry.stood u t entry.reach entry.from entry.to aims;
  }
    where
      steps_hold : PawnsStep p s
      steps_hold o man u t entry file ahead free = steps_enter o man entry.stood u t entry.reach entry.from entry.to file ahead free

-- sets that keep the rules on their ground are closed
pub rules_close : (p : Board) (s : Sets) → IsValid p → AllRules p (ground_of p s) s → IsClosed p s
rules_close p s valid rules = follows p s valid (but_for_castling p s valid.size rules)
