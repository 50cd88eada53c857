-- Which moves are legal, by the squares that end every check and the men that shield the king.
use Rattle.std.proofs.Common.{◌≡◌, ◌≢◌, ℕ, ◌<◌, ◌==◌, Bool, true, false, not, List, length, Some, slice_set, inl, inr, sym, ◌∙◌, ap, arith}
use Rattle.std.proofs.lemmas.Bool.{and_parts, both_ways, cases_eq, or_cases, or_parts, eqb-true, eqb-false, false_from_ne_true}
use Rattle.cha_board.specs.declared.men.Man.{Man}
use Rattle.cha_board.specs.Men.{other_color, same_color, is_vacant}
use Rattle.cha_board.specs.Squares.{aims_at, lies_between}
use Rattle.cha_board.specs.Board.{Board, man_at, is_empty, attacks_as, attacked, king_of}
use Rattle.cha_board.specs.SquareSets.{has_square}
use Rattle.cha_board.proofs.Sightings.{attacked_from, attacked_by_none}
use Rattle.cha_board.proofs.Betweens.{lies_turned}
use Rattle.cha_moves.specs.Step.{Move}
use Rattle.cha_moves.specs.Moves.{is_legal_in, arriving}
use Rattle.cha_moves.specs.Shields.{aims_as, stops, men_less, AreShields}
use Rattle.cha_board.proofs.Identity.{one_color}
use Rattle.cha_moves.proofs.Made.{may_gives, men_moved, moved_from, moved_other, put}
use Rattle.cha_moves.proofs.Kept.{from_to}
use Rattle.cha_moves.proofs.Filling.{attacks_before, foreign_idle, filled_put}
use Rattle.cha_moves.proofs.Sureness.{Ordinary, arrival, check_after, legal_if, left_long, not_enemy}
use Rattle.cha_moves.proofs.Clearing.{clear_at, clear_from, attack_parts, attack_from}

-- a man that is not screens and goes to a square that ends every check leaves its king unattacked
pub answer_is_legal : (q : Board) (m : Move) (answers screens : List Bool) → AreShields q answers screens → Ordinary q m → has_square screens m.from ≡ false → has_square answers m.to ≡ true → is_legal_in q m ≡ true
unfolding stops
answer_is_legal q m answers screens shields o free answer =
    let a = arrival q m o in
    let e = other_color q.side in
    let k = king_of q.men q.side in
    let now = slice_set (men_less q m.from) m.to (Some a.man) in
    let filled = filled_put e (men_less q m.from) m.to a.man (left_long q m o) (not_enemy a.man.color q.side a.own) in
    let here : man_at now m.to ≡ Some a.man = put (men_less q m.from) m.to (Some a.man) (left_long q m o) in
    let safe : attacked now e k ≡ false = attacked_by_none now e k (λ u small. false_from_ne_true (attacks_as now e k u (man_at now u)) (λ h.
    let before = attacks_before e (men_less q m.from) now k u filled h in
    let stop = shields.stopped u m.to small o.to (shields.shielded m.from u o.from small free before) answer in
    elim (or_cases (m.to == u) (lies_between k u m.to) stop) [
      | inl same ↦ foreign_idle e now k u (man_at now u) (record { man = a.man; found = ap (man_at now) (sym (eqb-true m.to u same)) ∙ here; other = not_enemy a.man.color q.side a.own }) h
      | inr lies ↦ both_ways (is_empty now m.to) (ap is_vacant here) (clear_at now u k m.to (attack_parts now e k u (man_at now u) h).1 o.to (lies_turned k u m.to ∙ lies))
    ])) in
    legal_if q m o.may ∙ ap not (check_after q m o ∙ ap (λ x. attacked (slice_set (men_less q m.from) m.to x) e k) a.found ∙ safe)

enemy_there : (q : Board) (k s u : ℕ) (man : Man) → man_at q.men s ≡ Some man → same_color man.color q.side ≡ true → aims_as (other_color q.side) k u (man_at q.men u) ≡ true → u ≢ s
enemy_there q k s u man found own aims e =
    let there : aims_as (other_color q.side) k u (Some man) ≡ true = ap (aims_as (other_color q.side) k u) (sym found ∙ ap (man_at q.men) (sym e)) ∙ aims in
    one_color man.color q.side own (and_parts (same_color man.color (other_color q.side)) (aims_at (other_color q.side) man.kind u k) there).0

-- a man that goes to another square leaves its king attacked
pub no_answer_is_illegal : (q : Board) (m : Move) (answers screens : List Bool) → AreShields q answers screens → Ordinary q m → has_square answers m.to ≡ false → is_legal_in q m ≡ false
unfolding stops
no_answer_is_illegal q m answers screens shields o answer =
    let e = other_color q.side in
    let k = king_of q.men q.side in
    let un = shields.unstopped m.to o.to answer in
    let u = un.by in
    let mover = may_gives q m o.may in
    let size = o.valid.size in
    let inside : m.from < length q.men = omega (arith, size, o.from) in
    let parts = attack_parts q.men e k u (man_at q.men u) un.check in
    let apart = or_parts (m.to == u) (lies_between k u m.to) un.missed in
    let not_from : u ≢ m.from = enemy_there q k m.from u mover.0 mover.1.found mover.1.own parts.0 in
    let not_to : u ≢ m.to = λ same. eqb-false m.to u apart.0 (sym same) in
    let now = men_moved q m in
    let arrived = arriving (man_at q.men m.from) m.promotion in
    let there : man_at now u ≡ man_at q.men u = moved_other q.men m.from m.to arrived u not_from not_to in
    let clear = clear_from now u k (λ y small lies.
    let off_to : y ≢ m.to = λ same. both_ways (lies_between k u m.to) apart.1 (ap (lies_between k u) (sym same) ∙ sym (lies_turned k u y) ∙ lies) in
    elim (cases_eq y m.from) [
      | inl same ↦ ap (is_empty now) same ∙ ap is_vacant (moved_from q.men m.from m.to arrived inside (from_to q m mover.0 mover.1))
      | inr other ↦ ap is_vacant (moved_other q.men m.from m.to arrived y other off_to) ∙ clear_at q.men u k y parts.1 small lies
    ]) in
    let check = attacked_from now e k u un.on_board (attack_from now e k u (man_at now u) (ap (aims_as e k u) there ∙ parts.0) clear) in
    legal_if q m o.may ∙ ap not (check_after q m o ∙ check)
