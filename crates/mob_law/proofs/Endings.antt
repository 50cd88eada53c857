-- A man that takes the lone checker, or steps between it and the king, ends the check: at a mate there is none.
use Rattle.std.proofs.Common.{◌≡◌, ◌≢◌, ℕ, ◌<◌, ◌==◌, true, false, not, ◌&&◌, ◌⊎◌, List, [], length, Option, Some, None, Contains, refl, sym, subst, ap, ◌∙◌, arith, inl, inr}
use Rattle.std.specs.List.{list_any}
use Rattle.std.proofs.lemmas.Bool.{and_parts, and_from, or_cases, both_ways, cases_Bool, not-true, false_from_ne_true}
use Rattle.std.proofs.lemmas.Option.{same_Some}
use Rattle.cha_board.specs.declared.men.Color.{Color}
use Rattle.cha_board.specs.declared.men.Kind.{Kind}
use Rattle.cha_board.specs.declared.men.Kind.TheVariants.{Pawn, King}
use Rattle.cha_board.specs.declared.men.Man.{Man}
use Rattle.cha_board.specs.Men.{other_color, same_color, same_kind, is_man}
use Rattle.cha_board.specs.Squares.{squares, steps_apart, aims_at, lies_between}
use Rattle.cha_board.specs.Board.{Board, man_at, is_empty, is_clear, attacked, king_of, in_check, has_one_king, IsValid}
use Rattle.cha_board.proofs.Identity.{man_of, is_man_from, same_color_equal, same_kind_equal, empty_is_none, other_other, none_some, one_color}
use Rattle.cha_board.proofs.ManTests.{not_of_other}
use Rattle.cha_board.proofs.Contents.{some_square}
use Rattle.cha_moves.specs.Step.{Move}
use Rattle.cha_moves.specs.Moves.{goes, is_en_passant, castles, promotes_well, may_enter, is_pseudo_legal, is_pseudo_legal_as, arriving, men_after, is_legal_in}
use Rattle.cha_moves.specs.Ends.{IsMated}
use Rattle.cha_moves.proofs.Clearing.{clear_at}
use Rattle.cha_moves.proofs.Kept.{arrived_is, kings_kept, target_of, king_place}
use Rattle.cha_moves.proofs.Listed.{listed}
use Rattle.cha_moves.proofs.Made.{may_gives, length-moved, moved_to, moved_from, moved_other, men_moved, makes, Plainly, Passing, OnWing}
use Rattle.mob_law.specs.Reach.{steps_to}
use Rattle.mob_law.specs.Threats.{ends_check}
use Rattle.mob_law.proofs.Attackers.{some_attacker}
use Rattle.cha_moves.proofs.Near.{king_aims}
use Rattle.cha_moves.proofs.GoingLegally.{aims_at_self}
use Rattle.mob_law.proofs.Geometry.{near}
use Rattle.mob_law.proofs.Ways.{steps_parts, clear_over, piece_way, pawn_way, becoming, some_arrives, not_of_kind}

-- The squares of a check by w's only man beside its king: that man's on s, the loser's king's on ks and the winner's on wk.
pub record LoneCheck (q : Board) (w : Color) (ks wk s : ℕ) : Type 0 where
  pub loser : is_man (other_color w) King (man_at q.men ks) ≡ true
  pub winner : is_man w King (man_at q.men wk) ≡ true
  pub ks_small : ks < 64
  pub wk_small : wk < 64
  pub s_small : s < 64
  pub far : (steps_apart ks wk == 1) ≡ false
  pub checker : Man
  pub found : man_at q.men s ≡ Some checker
  pub own : same_color checker.color w ≡ true
  pub no_king : same_kind checker.kind King ≡ false
  pub clear : is_clear q.men s ks ≡ true
  pub alone : (u : ℕ) (man : Man) → man_at q.men u ≡ Some man → same_color man.color w ≡ true → same_kind man.kind King ≡ false → u ≡ s

-- At a mate by such a check, with a man of the loser's other than the king on n:
module _ (q : Board) (w : Color) (valid : IsValid q) (mate : IsMated q (other_color w)) (ks wk s : ℕ) (check : LoneCheck q w ks wk s)
    (n : ℕ) (man : Man) (found : man_at q.men n ≡ Some man) (own : same_color man.color (other_color w) ≡ true) (no_king : same_kind man.kind King ≡ false) (small : n < 64) where
  -- a move of it to t, where it takes the checker or stands between
  record Reply (t : ℕ) : Type 0 where
    to : t < 64
    apart : n ≢ t
    way : goes q man.kind n t ≡ true
    onto : (t ≡ s) ⊎ ((lies_between s ks t ≡ true) × (same_kind man.kind Pawn ≡ false))

  module _ (t : ℕ) (r : Reply t) where
    abbrev by : Move
    by = record { from = n; to = t; promotion = (becoming q.side man.kind t).0 }

    abbrev then : List (Option Man)
    then = men_moved q by

    side_own : same_color man.color q.side ≡ true
    side_own = rw mate.to_move own

    -- between there is nobody
    free_between : lies_between s ks t ≡ true → is_empty q.men t ≡ true
    free_between h = clear_at q.men s ks t check.clear r.to h

    enters : may_enter q.side (man_at q.men t) ≡ true
    enters =
        elim r.onto [
          | inl e ↦ (
              let P : ℕ → Type 0 = λ x. may_enter q.side (man_at q.men x) ≡ true in
              let enemy : same_color check.checker.color q.side ≡ false = false_from_ne_true (same_color check.checker.color q.side) (λ h.
              let H : Color → Type 0 = λ x. same_color check.checker.color x ≡ true in
              one_color check.checker.color w check.own (subst H mate.to_move h)) in
              subst P (sym e) (rw (check.found, enemy, check.no_king) refl))
          | inr x ↦ (
              let none = empty_is_none (man_at q.men t) (free_between x.0) in
              rw none refl)
        ]

    may : is_pseudo_legal q by ≡ true
    unfolding is_pseudo_legal_as
    may =
        let P : Option Man → Type 0 = λ x. is_pseudo_legal_as q by x ≡ true in
        let well = (becoming q.side man.kind t).1 in
        subst P (sym found) (and_from (same_color man.color q.side && may_enter q.side (man_at q.men t) && goes q man.kind n t) (promotes_well q.side man.kind t by.promotion)
        (and_from (same_color man.color q.side && may_enter q.side (man_at q.men t)) (goes q man.kind n t)
        (and_from (same_color man.color q.side) (may_enter q.side (man_at q.men t)) side_own enters) r.way) well)

    -- a capture en passant goes to an empty square, and a pawn goes here to the checker's
    no_passing : is_man q.side Pawn (man_at q.men n) ≡ true → is_en_passant q n t ≡ true → ⊥
    no_passing pawn passing =
        elim r.onto [
          | inl e ↦ (
              let P : ℕ → Type 0 = λ x. is_empty q.men x ≡ true in
              let free : is_empty q.men s ≡ true = subst P e (target_of q n t valid passing).free in
              none_some (man_at q.men s) check.checker (empty_is_none (man_at q.men s) free) check.found)
          | inr x ↦ not_of_kind (man_at q.men n) man q.side Pawn found x.1 pawn
        ]

    -- the move moves one man
    plain : men_after q by ≡ then
    plain =
        elim (makes q by) [
          | Plainly a b e ↦ e
          | Passing x e ↦ (let both = and_parts (is_man q.side Pawn (man_at q.men n)) (is_en_passant q n t) x in absurd (no_passing both.0 both.1))
          | OnWing w x e ↦ absurd (not_of_kind (man_at q.men n) man q.side King found no_king (and_parts (is_man q.side King (man_at q.men n)) (castles q w n t) x).0)
        ]

    in_n : n < length q.men
    in_n = rw valid.size small

    in_t : t < length q.men
    in_t = rw valid.size r.to

    -- what arrives is of the loser
    new : Man
    new = (some_arrives man by.promotion).0

    arrived : man_at then t ≡ Some new
    unfolding new
    arrived = moved_to q.men n t (arriving (man_at q.men n) by.promotion) in_t ∙ ap (λ o. arriving o by.promotion) found ∙ (some_arrives man by.promotion).1

    new_own : same_color new.color (other_color w) ≡ true
    unfolding new
    new_own =
        let color = (arrived_is q.side man new t by.promotion (becoming q.side man.kind t).1 (some_arrives man by.promotion).1).0 in
        let C : Color → Type 0 = λ x. same_color x (other_color w) ≡ true in
        subst C color own

    left : man_at then n ≡ None
    left = moved_from q.men n t (arriving (man_at q.men n) by.promotion) in_n r.apart

    stays : (u : ℕ) → u ≢ n → u ≢ t → man_at then u ≡ man_at q.men u
    stays u not_from not_to = moved_other q.men n t (arriving (man_at q.men n) by.promotion) u not_from not_to

    -- the loser's king is on neither square
    king_not_from : ks ≢ n
    king_not_from e = (
        let P : ℕ → Type 0 = λ x. is_man (other_color w) King (man_at q.men x) ≡ true in
        not_of_kind (man_at q.men n) man (other_color w) King found no_king (subst P e check.loser))

    king_not_to : ks ≢ t
    king_not_to e =
        let P : ℕ → Type 0 = λ x. is_man (other_color w) King (man_at q.men x) ≡ true in
        elim r.onto [
          | inl x ↦ not_of_other w King (man_at q.men s) check.checker check.found check.own (subst P (e ∙ x) check.loser)
          | inr x ↦ (
              let l = man_of (man_at q.men t) (other_color w) King (subst P e check.loser) in
              none_some (man_at q.men t) l.man (empty_is_none (man_at q.men t) (free_between x.0)) l.found)
        ]

    loser_place : king_of then (other_color w) ≡ ks
    loser_place =
        let mover = may_gives q by may in
        let kings : has_one_king then (other_color w) ≡ true = rw plain at (kings_kept q by mover.0 (record { valid = valid; from = small; to = r.to; may = mover.1 }) (other_color w)) in
        let inside : ks < length then = rw (length-moved q.men n t (arriving (man_at q.men n) by.promotion), valid.size) check.ks_small in
        king_place then (other_color w) ks kings inside (rw (stays ks king_not_from king_not_to) check.loser)

    -- nobody attacks it then: the winner's king is far, and the checker is taken, or sees no longer
    unattacked : attacked then w ks ≡ true → ⊥
    unattacked h =
        let from = some_attacker then w ks h in
        let u = from.0 in
        let a = from.2 in
        let P : ℕ → Type 0 = λ x. man_at then x ≡ Some a.man in
        let not_from : u ≢ n = λ f. none_some (man_at then n) a.man left (subst P f a.found) in
        let not_to : u ≢ t = λ f. (
        let same = same_Some new a.man (sym arrived ∙ subst P f a.found) in
        let C : Man → Type 0 = λ x. same_color x.color (other_color w) ≡ true in
        one_color a.man.color w a.own (subst C same new_own)) in
        let stood : man_at q.men u ≡ Some a.man = sym (stays u not_from not_to) ∙ a.found in
        elim (cases_Bool (same_kind a.man.kind King)) [
          | inl king ↦ (
              let kind = same_kind_equal a.man.kind King king in
              let size = valid.size in
              let here = king_place q.men w u (valid.kings w) (rw size from.1) (is_man_from (man_at q.men u) a.man w King stood (same_color_equal a.man.color w a.own) kind) in
              let there = king_place q.men w wk (valid.kings w) (rw size check.wk_small) check.winner in
              let K : Kind → Type 0 = λ x. aims_at w x u ks ≡ true in
              let step = king_aims w u ks (subst K kind a.aims) in
              let back = (near u ks from.1 check.ks_small step).back in
              let B : ℕ → Type 0 = λ x. (steps_apart ks x == 1) ≡ true in
              both_ways (steps_apart ks wk == 1) check.far (subst B (sym here ∙ there) back))
          | inr other ↦ (
              let e = check.alone u a.man stood a.own other in
              elim r.onto [
                | inl f ↦ not_to (e ∙ sym f)
                | inr x ↦ (
                    let C : ℕ → Type 0 = λ y. is_clear then y ks ≡ true in
                    let free = clear_at then s ks t (subst C e a.clear) r.to x.0 in
                    none_some (man_at then t) new (empty_is_none (man_at then t) free) arrived)
              ])
        ]

    -- so the loser has a legal move, which a mate does not leave it
    answered : ⊥
    unfolding in_check is_legal_in
    answered =
        let safe : in_check then (other_color w) ≡ false = false_from_ne_true (in_check then (other_color w)) (λ checked.
        let seen : attacked then w ks ≡ true = rw (other_other, loser_place) at checked in
        unattacked seen) in
        let S : Color → Type 0 = λ c. in_check (men_after q by) c ≡ false in
        let safe' : in_check (men_after q by) q.side ≡ false = subst S (sym mate.to_move) (rw plain safe) in
        let fine : is_legal_in q by ≡ true = and_from (is_pseudo_legal q by) (not (in_check (men_after q by) q.side)) may (ap not safe') in
        let there = listed q by small r.to fine in
        let L : List Move → Type 0 = λ ms. Contains ms by in
        let nowhere : Contains [] by = subst L mate.stuck there in
        omega (arith, nowhere.1)

  -- its step or jump, as the side to move makes it
  stepping : (t : ℕ) → t < 64 → steps_to (other_color w) man.kind n t ≡ true → (aims_at q.side man.kind n t ≡ true) × ((n ≢ t) × (is_clear q.men n t ≡ true))
  stepping t to steps =
      let parts = steps_parts (other_color w) man.kind n t small to steps in
      let S : Color → Type 0 = λ c. aims_at c man.kind n t ≡ true in
      let T : ℕ → Type 0 = λ x. aims_at (other_color w) man.kind n x ≡ true in
      let apart : n ≢ t = λ e. both_ways (aims_at (other_color w) man.kind n n) (aims_at_self (other_color w) man.kind n) (subst T (sym e) parts.0) in
      (subst S (sym mate.to_move) parts.0, (apart, clear_over q n t parts.1))

  takes : steps_to (other_color w) man.kind n s ≡ true → Reply s
  takes steps =
      let st = stepping s check.s_small steps in
      let full : is_empty q.men s ≡ false = rw (check.found) refl in
      record {
        to = check.s_small;
        apart = st.1.0;
        way = elim (cases_Bool (same_kind man.kind Pawn)) [
          | inl pawn ↦ pawn_way q man.kind n s (same_kind_equal man.kind Pawn pawn) st.0 full
          | inr no_pawn ↦ piece_way q man.kind n s no_pawn no_king st.0 st.1.1
        ];
        onto = inl refl;
      }

  interposes : (t : ℕ) → t < 64 → same_kind man.kind Pawn ≡ false → lies_between s ks t ≡ true → steps_to (other_color w) man.kind n t ≡ true → Reply t
  interposes t to no_pawn on steps =
      let st = stepping t to steps in
      record {
        to = to;
        apart = st.1.0;
        way = piece_way q man.kind n t no_pawn no_king st.0 st.1.1;
        onto = inr (on, no_pawn);
      }

  -- the man on n cannot end the check
  pub cannot_end : ends_check (other_color w) ks s man.kind n ≡ false
  unfolding ends_check
  cannot_end =
      let c = other_color w in
      let steps_between = λ (t : ℕ). lies_between s ks t && steps_to c man.kind n t in
      false_from_ne_true (ends_check c ks s man.kind n) (λ h.
      elim (or_cases (steps_to c man.kind n s) (not (same_kind man.kind Pawn) && list_any steps_between squares) h) [
        | inl steps ↦ answered s (takes steps)
        | inr x ↦ (
            let both = and_parts (not (same_kind man.kind Pawn)) (list_any steps_between squares) x in
            let t = some_square steps_between both.1 in
            let on = and_parts (lies_between s ks t.0) (steps_to c man.kind n t.0) t.2 in
            answered t.0 (interposes t.0 t.1 (not-true (same_kind man.kind Pawn) both.0) on.0 on.1))
      ])
