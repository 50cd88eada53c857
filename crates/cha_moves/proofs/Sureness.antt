-- Moves of a man that is no king, other than en passant, and that what a pawn becomes makes no difference to its king.
use Rattle.std.proofs.Common.{◌≡◌, ◌≢◌, ℕ, ◌<◌, true, false, not, List, length, Option, Some, None, slice_set, refl, sym, ◌∙◌, ap, arith}
use Rattle.std.proofs.lemmas.Bool.{and_parts, both_ways, false_from_ne_true}
use Rattle.std.proofs.lemmas.List.{length-set}
use Rattle.cha_board.specs.declared.men.Color.{Color}
use Rattle.cha_board.specs.declared.men.Kind.{Kind}
use Rattle.cha_board.specs.declared.men.Kind.TheVariants.{King}
use Rattle.cha_board.specs.declared.men.Man.{Man}
use Rattle.cha_board.specs.Men.{other_color, same_color, is_man}
use Rattle.cha_board.specs.Board.{Board, IsValid, man_at, attacked, in_check, king_of}
use Rattle.cha_moves.specs.Step.{Move}
use Rattle.cha_moves.specs.Moves.{is_pseudo_legal, arriving, captures_en_passant, castles, men_after, is_legal_in}
use Rattle.cha_moves.specs.Shields.{men_less}
use Rattle.cha_moves.proofs.KingSquare.{king_stands}
use Rattle.cha_board.proofs.Identity.{one_color, man_of, on_board}
use Rattle.cha_moves.proofs.Made.{Step, may_gives, men_moved, moved_other, Plainly, Passing, OnWing, makes}
use Rattle.cha_moves.proofs.Kept.{own_bars, length_after, kings_kept, king_place}
use Rattle.cha_moves.proofs.Filling.{same_attacks, filled_either}

-- A move of a man that is no king, and no capture en passant.
pub record Ordinary (q : Board) (m : Move) : Type 0 where
  pub valid : IsValid q
  pub from : m.from < 64
  pub to : m.to < 64
  pub may : is_pseudo_legal q m ≡ true
  pub no_king : is_man q.side King (man_at q.men m.from) ≡ false
  pub not_passing : captures_en_passant q (man_at q.men m.from) m.from m.to ≡ false

-- it moves one man
moves_one : (q : Board) (m : Move) → Ordinary q m → men_after q m ≡ men_moved q m
moves_one q m o = elim (makes q m) [
  | Plainly a b e ↦ e
  | Passing t e ↦ absurd (both_ways (captures_en_passant q (man_at q.men m.from) m.from m.to) o.not_passing t)
  | OnWing w t e ↦ absurd (both_ways (is_man q.side King (man_at q.men m.from)) o.no_king (and_parts (is_man q.side King (man_at q.men m.from)) (castles q w m.from m.to) t).0)
]

-- the king stays where it is
king_stays : (q : Board) (m : Move) → Ordinary q m → king_of (men_after q m) q.side ≡ king_of q.men q.side
king_stays q m o =
    let mover = may_gives q m o.may in
    let step : Step q m mover.0 = record { valid = o.valid; from = o.from; to = o.to; may = mover.1 } in
    let k = king_of q.men q.side in
    let king = king_stands q.men q.side (o.valid.kings q.side) in
    let is = man_of (man_at q.men k) q.side King king in
    let inside = on_board q.men k is.man is.found in
    let long = length_after q m in
    let own : same_color is.man.color q.side ≡ true = (and_parts (same_color is.man.color q.side) _ (ap (is_man q.side King) (sym is.found) ∙ king)).0 in
    let not_from : k ≢ m.from = λ e. both_ways (is_man q.side King (man_at q.men k)) (ap (λ u. is_man q.side King (man_at q.men u)) e ∙ o.no_king) king in
    let not_to : k ≢ m.to = λ e. own_bars q.side (man_at q.men m.to) is.man (ap (man_at q.men) (sym e) ∙ is.found) own mover.1.enter in
    let there : man_at (men_after q m) k ≡ man_at q.men k =
    ap (λ (xs : List (Option Man)). man_at xs k) (moves_one q m o) ∙ moved_other q.men m.from m.to (arriving (man_at q.men m.from) m.promotion) k not_from not_to in
    king_place (men_after q m) q.side k (kings_kept q m mover.0 step q.side) (omega (arith, long, inside)) (ap (is_man q.side King) there ∙ king)

-- what arrives is a man of the mover
pub record Arrival (c : Color) (o : Option Man) : Type 0 where
  pub man : Man
  pub found : o ≡ Some man
  pub own : same_color man.color c ≡ true

arrival_by : (c : Color) (o : Option Man) (man : Man) (k : Option Kind) → o ≡ Some man → same_color man.color c ≡ true → Arrival c (arriving o k)
arrival_by c o man None found own = record { man = man; found = found; own = own }
arrival_by c o man (Some k) found own = record { man = record { color = man.color; kind = k }; found = ap (λ (x : Option Man). arriving x (Some k)) found; own = own }

pub arrival : (q : Board) (m : Move) → Ordinary q m → Arrival q.side (arriving (man_at q.men m.from) m.promotion)
arrival q m o = (let mover = may_gives q m o.may in arrival_by q.side (man_at q.men m.from) mover.0 m.promotion mover.1.found mover.1.own)

-- the king is attacked afterwards where the square of the king was attacked over what has moved
pub check_after : (q : Board) (m : Move) → Ordinary q m → in_check (men_after q m) q.side ≡ attacked (men_moved q m) (other_color q.side) (king_of q.men q.side)
unfolding in_check
check_after q m o =
    ap (λ k. attacked (men_after q m) (other_color q.side) k) (king_stays q m o)
    ∙ ap (λ (xs : List (Option Man)). attacked xs (other_color q.side) (king_of q.men q.side)) (moves_one q m o)

pub legal_if : (q : Board) (m : Move) → is_pseudo_legal q m ≡ true → is_legal_in q m ≡ not (in_check (men_after q m) q.side)
unfolding is_legal_in
legal_if q m h = rw h refl

pub left_long : (q : Board) (m : Move) → Ordinary q m → m.to < length (men_less q m.from)
left_long q m o = (let size = o.valid.size in rw length-set (omega (arith, size, o.to)))

pub not_enemy : (a c : Color) → same_color a c ≡ true → same_color a (other_color c) ≡ false
not_enemy a c own = false_from_ne_true (same_color a (other_color c)) (λ h. one_color a c own h)

-- moves that differ in what a pawn becomes are legal alike
pub legal_alike : (q : Board) (s t : ℕ) (j k : Option Kind) → Ordinary q (record { from = s; to = t; promotion = j }) → Ordinary q (record { from = s; to = t; promotion = k })
    → is_legal_in q (record { from = s; to = t; promotion = j }) ≡ is_legal_in q (record { from = s; to = t; promotion = k })
legal_alike q s t j k o p =
    let m : Move = record { from = s; to = t; promotion = j } in
    let n : Move = record { from = s; to = t; promotion = k } in
    let a = arrival q m o in
    let b = arrival q n p in
    let e = other_color q.side in
    let at = king_of q.men q.side in
    let left = men_less q s in
    let inside = left_long q m o in
    let there = filled_either e left t a.man b.man inside (not_enemy b.man.color q.side b.own) in
    let back = filled_either e left t b.man a.man inside (not_enemy a.man.color q.side a.own) in
    let same = same_attacks e (slice_set left t (Some a.man)) (slice_set left t (Some b.man)) at there back in
    let before : attacked (men_moved q m) e at ≡ attacked (slice_set left t (Some a.man)) e at = ap (λ x. attacked (slice_set left t x) e at) a.found in
    let after : attacked (men_moved q n) e at ≡ attacked (slice_set left t (Some b.man)) e at = ap (λ x. attacked (slice_set left t x) e at) b.found in
    legal_if q m o.may ∙ ap not (check_after q m o ∙ before ∙ same ∙ sym after ∙ sym (check_after q n p)) ∙ sym (legal_if q n p.may)
