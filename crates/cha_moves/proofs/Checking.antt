-- Which moves of a man give check: where it aims at the king from its new square, or leaves a line to the king, or moves another man
-- too.
use Rattle.std.proofs.Common.{◌≡◌, ◌≢◌, ℕ, ◌<◌, ◌==◌, Bool, true, false, not, ◌&&◌, ◌||◌, List, length, Option, Some, None, inl, inr, sym, ◌∙◌, ap, subst, arith}
use Rattle.std.specs.List.{Contains}
use Rattle.std.proofs.lemmas.Bool.{and_parts, and_from, and_left, and_right, or_right, eq-eqb, both_ways, cases_Bool, cases_eq, not-true, false_from_ne_true, or_left}
use Rattle.cha_board.specs.declared.men.Color.{Color}
use Rattle.cha_board.specs.declared.men.Kind.{Kind}
use Rattle.cha_board.specs.declared.men.Kind.TheVariants.{Pawn, Knight, Bishop, Rook, Queen, King}
use Rattle.cha_board.specs.declared.men.Man.{Man}
use Rattle.cha_board.specs.declared.castling.Wing.{Wing}
use Rattle.cha_board.specs.declared.castling.Wing.TheVariants.{Kingside, Queenside}
use Rattle.cha_board.specs.Men.{other_color, same_color, same_kind, is_man, is_vacant}
use Rattle.cha_board.specs.Squares.{squares, rank_of, last_rank, aims_at, lies_between, between}
use Rattle.cha_board.specs.Aims.{is_open, aims_over}
use Rattle.cha_board.specs.Board.{Board, IsValid, man_at, is_empty, is_clear, attacks_as, attacked, in_check, king_of, goal_of}
use Rattle.cha_board.specs.SquareSets.{set_of, squares_in, has_square, set_common, set_without}
use Rattle.cha_board.proofs.SetLaws.{has-set_of}
use Rattle.cha_board.proofs.Tables.{aims_from_there}
use Rattle.cha_board.proofs.Betweens.{all_kept, lies_turned}
use Rattle.cha_board.proofs.Scans.{no_square}
use Rattle.cha_board.proofs.Identity.{one_color, man_of, on_board, other_other, same_kind_equal}
use Rattle.cha_board.proofs.Sightings.{attacked_from, attacked_by_none}
use Rattle.cha_moves.specs.Step.{Move}
use Rattle.cha_moves.specs.Moves.{is_target, arriving, is_en_passant, castles, men_after, after}
use Rattle.cha_moves.specs.Shields.{aims_as}
use Rattle.cha_moves.specs.Ways.{is_way}
use Rattle.cha_moves.specs.Checks.{IsAlone, HaveScreens, others, may_check, is_special_check}
use Rattle.cha_moves.proofs.KingSquare.{king_stands}
use Rattle.cha_moves.proofs.Made.{Step, men_moved, moved_to, moved_from, moved_other, Plainly, Passing, OnWing, makes}
use Rattle.cha_moves.proofs.Kept.{from_to, no_king_entered, promoted, length_after, kings_kept, king_place, castling_tests}
use Rattle.cha_moves.proofs.Listed.{is_listed, mover_of}
use Rattle.cha_moves.proofs.MateMoves.{Mates, in_squares, way_there}
use Rattle.cha_moves.proofs.Clearing.{clear_at, clear_from, attack_parts, attack_from}

-- the king that a move may check
abbrev pub enemy_king : Board → ℕ
enemy_king q = king_of q.men (other_color q.side)

-- no man on s alone stands between the king and a man that aims at it
abbrev pub IsOffLines : Board → ℕ → Type 0
IsOffLines q s = (u : ℕ) → u < 64 → aims_as q.side (enemy_king q) u (man_at q.men u) ≡ true → IsAlone q.men u (enemy_king q) s → lies_between u (enemy_king q) s ≡ false

-- a man that stands on a square
occupies : (men : List (Option Man)) (s : ℕ) (man : Man) → man_at men s ≡ Some man → is_empty men s ≡ false
occupies men s man found = ap is_vacant found

-- the king stays where it is
king_still : (q : Board) (m : Move) (man : Man) → Step q m man → men_after q m ≡ men_moved q m → king_of (men_after q m) (other_color q.side) ≡ enemy_king q
king_still q m man step plain =
    let c = other_color q.side in
    let k = enemy_king q in
    let king = king_stands q.men c (step.valid.kings c) in
    let is = man_of (man_at q.men k) c King king in
    let inside = on_board q.men k is.man is.found in
    let long = length_after q m in
    let theirs : same_color is.man.color c ≡ true = (and_parts (same_color is.man.color c) _ (ap (is_man c King) (sym is.found) ∙ king)).0 in
    let not_from : k ≢ m.from = λ e. (
    let here : Some is.man ≡ Some man = sym is.found ∙ ap (man_at q.men) e ∙ step.may.found in
    let same : is.man ≡ man = cc in
    one_color man.color q.side step.may.own (ap (λ (x : Man). same_color x.color c) (sym same) ∙ theirs)) in
    let not_to : k ≢ m.to = λ e. both_ways (is_man c King (man_at q.men k)) (ap (λ u. is_man c King (man_at q.men u)) e ∙ no_king_entered q.side c (man_at q.men m.to) step.may.enter) king in
    let there : man_at (men_after q m) k ≡ man_at q.men k =
    ap (λ (xs : List (Option Man)). man_at xs k) plain ∙ moved_other q.men m.from m.to (arriving (man_at q.men m.from) m.promotion) k not_from not_to in
    king_place (men_after q m) c k (kings_kept q m man step c) (omega (arith, long, inside)) (ap (is_man c King) there ∙ king)

-- what arrives stands there
some_arrives : (o : Option Man) (man : Man) (b : Option Kind) → o ≡ Some man → is_vacant (arriving o b) ≡ false
some_arrives o man None found = ap is_vacant found
some_arrives o man (Some k) found = ap (λ (x : Option Man). is_vacant (arriving x (Some k))) found

-- the side that is not to move is not in check
unchecked : (q : Board) → IsValid q → attacked q.men q.side (enemy_king q) ≡ false
unfolding in_check
unchecked q valid =
    ap (λ c. attacked q.men c (enemy_king q)) (sym (other_other q.side)) ∙ not-true (in_check q.men (other_color q.side)) valid.opponent

-- a man that leaves no line to the king, and does not attack it from its new square, gives no check
no_check : (q : Board) (m : Move) (man : Man) → Step q m man → men_after q m ≡ men_moved q m → IsOffLines q m.from → attacks_as (men_moved q m) q.side (enemy_king q) m.to (arriving (man_at q.men m.from) m.promotion) ≡ false
    → in_check (men_after q m) (other_color q.side) ≡ false
unfolding in_check
no_check q m man step plain off aimless =
    let c = q.side in
    let k = enemy_king q in
    let now = men_moved q m in
    let new = arriving (man_at q.men m.from) m.promotion in
    let size = step.valid.size in
    let inside_from : m.from < length q.men = (let small = step.from in omega (arith, size, small)) in
    let inside_to : m.to < length q.men = (let small = step.to in omega (arith, size, small)) in
    let here : man_at now m.to ≡ new = moved_to q.men m.from m.to new inside_to in
    let gone : man_at now m.from ≡ None = moved_from q.men m.from m.to new inside_from (from_to q m man step.may) in
    let stands : is_empty now m.to ≡ false = ap is_vacant here ∙ some_arrives (man_at q.men m.from) man m.promotion step.may.found in
    let safe : attacked now c k ≡ false = attacked_by_none now c k (λ u small. false_from_ne_true (attacks_as now c k u (man_at now u)) (λ h.
    let parts = attack_parts now c k u (man_at now u) h in
    elim (cases_eq u m.to) [
      | inl same ↦ both_ways (attacks_as now c k m.to new) aimless (ap (λ (x : Option Man). attacks_as now c k m.to x) (sym here) ∙ ap (λ v. attacks_as now c k v (man_at now v)) (sym same) ∙ h)
      | inr not_to ↦ elim (cases_eq u m.from) [
        | inl same ↦ (let none : false ≡ true = sym (ap (λ (x : Option Man). aims_as c k m.from x) gone) ∙ ap (λ v. aims_as c k v (man_at now v)) (sym same) ∙ parts.0 in cc)
        | inr not_from ↦
            let was : man_at now u ≡ man_at q.men u = moved_other q.men m.from m.to new u not_from not_to in
            let aims : aims_as c k u (man_at q.men u) ≡ true = ap (aims_as c k u) (sym was) ∙ parts.0 in
            let alone : IsAlone q.men u k m.from = record {
              stands = occupies q.men m.from man step.may.found;
              only = λ y low lies is. (elim (cases_eq y m.from) [
                | inl same ↦ same
                | inr off_from ↦ elim (cases_eq y m.to) [
                  | inl same ↦ absurd (both_ways (is_empty now m.to) stands (clear_at now u k m.to parts.1 step.to (ap (lies_between u k) (sym same) ∙ lies)))
                  | inr off_to ↦ absurd (both_ways (is_empty q.men y) is (ap is_vacant (sym (moved_other q.men m.from m.to new y off_from off_to)) ∙ clear_at now u k y parts.1 low lies))
                ]
              ]);
            } in
            let clear = clear_from q.men u k (λ y low lies.
            elim (cases_eq y m.to) [
              | inl same ↦ absurd (both_ways (is_empty now m.to) stands (clear_at now u k m.to parts.1 step.to (ap (lies_between u k) (sym same) ∙ lies)))
              | inr off_to ↦ elim (cases_eq y m.from) [
                | inl same ↦ absurd (both_ways (lies_between u k m.from) (off u small aims alone) (ap (lies_between u k) (sym same) ∙ lies))
                | inr off_from ↦ ap is_vacant (sym (moved_other q.men m.from m.to new y off_from off_to)) ∙ clear_at now u k y parts.1 low lies
              ]
            ]) in
            both_ways (attacked q.men c k) (unchecked q step.valid) (attacked_from q.men c k u small (attack_from q.men c k u (man_at q.men u) aims clear))
      ]
    ])) in
    ap (λ x. attacked (men_after q m) (other_color (other_color c)) x) (king_still q m man step plain)
    ∙ ap (λ x. attacked (men_after q m) x k) (other_other c)
    ∙ ap (λ (xs : List (Option Man)). attacked xs c k) plain
    ∙ safe

-- How a man that leaves no line to the king gives check.
pub data Gives (q : Board) (m : Move) (man : Man) : Type 0 where
  Near : aims_at q.side man.kind m.to (enemy_king q) ≡ true → is_clear (men_moved q m) m.to (enemy_king q) ≡ true → Gives q m man
  Becoming : man.kind ≡ Pawn → rank_of m.to ≡ last_rank q.side → Gives q m man
  Taking : man.kind ≡ Pawn → is_target q.target m.to ≡ true → Gives q m man
  Castled : (w : Wing) → man.kind ≡ King → m.to ≡ goal_of q.side w → Gives q m man

-- a man that passes the test of a kind is of that kind
pub kind_tested : (c : Color) (k : Kind) (o : Option Man) (man : Man) → o ≡ Some man → is_man c k o ≡ true → man.kind ≡ k
kind_tested c k o man found is =
    let there : is_man c k (Some man) ≡ true = ap (is_man c k) (sym found) ∙ is in
    same_kind_equal man.kind k (and_parts (same_color man.color c) (same_kind man.kind k) there).1

near_by : (q : Board) (m : Move) (man : Man) → Step q m man → aims_as q.side (enemy_king q) m.to (arriving (man_at q.men m.from) m.promotion) ≡ true → is_clear (men_moved q m) m.to (enemy_king q) ≡ true → Gives q m man
near_by q m man step aims clear =
    elim (promoted q.side man.kind m.to m.promotion step.may.well) [
      | inl x ↦ Becoming x.0 x.1
      | inr x ↦
          let there : aims_as q.side (enemy_king q) m.to (Some man) ≡ true = ap (λ (b : Option Kind). aims_as q.side (enemy_king q) m.to (arriving (Some man) b)) (sym x.0) ∙ ap (λ (o : Option Man). aims_as q.side (enemy_king q) m.to (arriving o m.promotion)) (sym step.may.found) ∙ aims in
          Near (and_parts (same_color man.color q.side) (aims_at q.side man.kind m.to (enemy_king q)) there).1 clear
    ]

pub gives_check : (q : Board) (m : Move) (man : Man) → Step q m man → IsOffLines q m.from → in_check (men_after q m) (other_color q.side) ≡ true → Gives q m man
unfolding is_en_passant
gives_check q m man step off check =
    let found = step.may.found in
    elim (makes q m) [
      | Plainly a b plain ↦ elim (cases_Bool (attacks_as (men_moved q m) q.side (enemy_king q) m.to (arriving (man_at q.men m.from) m.promotion))) [
        | inl attacks ↦ (let parts = attack_parts (men_moved q m) q.side (enemy_king q) m.to (arriving (man_at q.men m.from) m.promotion) attacks in near_by q m man step parts.0 parts.1)
        | inr aimless ↦ absurd (both_ways (in_check (men_after q m) (other_color q.side)) (no_check q m man step plain off aimless) check)
      ]
      | Passing t e ↦
          let parts = and_parts (is_man q.side Pawn (man_at q.men m.from)) (is_en_passant q m.from m.to) t in
          Taking (kind_tested q.side Pawn (man_at q.men m.from) man found parts.0) (and_parts (aims_at q.side Pawn m.from m.to) (is_target q.target m.to) parts.1).1
      | OnWing w t e ↦
          let parts = and_parts (is_man q.side King (man_at q.men m.from)) (castles q w m.from m.to) t in
          Castled w (kind_tested q.side King (man_at q.men m.from) man found parts.0) (castling_tests q w m.from m.to parts.1).to_goal
    ]

-- no man off the lines alone stands between the king and a man that aims at it
pub off_lines : (q : Board) (lines : List Bool) (s : ℕ) → s < 64 → HaveScreens q (enemy_king q) lines → has_square lines s ≡ false → IsOffLines q s
off_lines q lines s small on off u low aims alone = false_from_ne_true (lies_between u (enemy_king q) s) (λ lies. both_ways (has_square lines s) off (on u s low small aims lies alone))

special_pawn : (q : Board) (k : Kind) (t : ℕ) → k ≡ Pawn → ((rank_of t == last_rank q.side) || is_target q.target t) ≡ true → is_special_check q k t ≡ true
unfolding is_special_check
special_pawn q Pawn t e h = h
special_pawn q Knight t e h = cc
special_pawn q Bishop t e h = cc
special_pawn q Rook t e h = cc
special_pawn q Queen t e h = cc
special_pawn q King t e h = cc

at_goals : (c : Color) (w : Wing) (t : ℕ) → t ≡ goal_of c w → ((t == goal_of c Queenside) || (t == goal_of c Kingside)) ≡ true
at_goals c Kingside t e = or_right (t == goal_of c Queenside) (t == goal_of c Kingside) (eq-eqb t (goal_of c Kingside) e)
at_goals c Queenside t e = or_left (t == goal_of c Queenside) (t == goal_of c Kingside) (eq-eqb t (goal_of c Queenside) e)

special_king : (q : Board) (k : Kind) (t : ℕ) → k ≡ King → ((t == goal_of q.side Queenside) || (t == goal_of q.side Kingside)) ≡ true → is_special_check q k t ≡ true
unfolding is_special_check
special_king q King t e h = h
special_king q Pawn t e h = cc
special_king q Knight t e h = cc
special_king q Bishop t e h = cc
special_king q Rook t e h = cc
special_king q Queen t e h = cc

-- no square of a set lies between two squares
open_from : (set : List Bool) (u k : ℕ) → ((y : ℕ) → y < 64 → lies_between u k y ≡ true → has_square set y ≡ false) → is_open set u k ≡ true
unfolding is_open between
open_from set u k free =
    all_kept (lies_between u k) (λ x. not (has_square set x)) squares
    ∙ ap not (no_square (λ x. lies_between u k x && not (not (has_square set x))) (λ y small. elim (cases_Bool (lies_between u k y)) [
      | inl lies ↦ ap (λ b. b && not (not (has_square set y))) lies ∙ ap (λ b. not (not b)) (free y small lies)
      | inr off ↦ and_left (lies_between u k y) (not (not (has_square set y))) off
    ]))

-- what is empty after a move had no other man before
no_other : (q : Board) (m : Move) (man : Man) → Step q m man → (y : ℕ) → y < 64 → is_empty (men_moved q m) y ≡ true → has_square (others q m.from) y ≡ false
unfolding set_without
no_other q m man step y small empty =
    let new = arriving (man_at q.men m.from) m.promotion in
    let size = step.valid.size in
    let inside_to : m.to < length q.men = (let low = step.to in omega (arith, size, low)) in
    let standing = λ (u : ℕ). not (is_empty q.men u) in
    let stands : is_empty (men_moved q m) m.to ≡ false = ap is_vacant (moved_to q.men m.from m.to new inside_to) ∙ some_arrives (man_at q.men m.from) man m.promotion step.may.found in
    has-set_of (λ u. not (u == m.from) && has_square (set_of standing) u) y small
    ∙ elim (cases_eq y m.from) [
      | inl same ↦ ap (λ b. not b && has_square (set_of standing) y) (eq-eqb y m.from same)
      | inr off_from ↦ elim (cases_eq y m.to) [
        | inl same ↦ absurd (both_ways (is_empty (men_moved q m) m.to) stands (ap (is_empty (men_moved q m)) (sym same) ∙ empty))
        | inr off_to ↦
            let gone : is_empty q.men y ≡ true = ap is_vacant (sym (moved_other q.men m.from m.to new y off_from off_to)) ∙ empty in
            and_right (not (y == m.from)) (has_square (set_of standing) y) (has-set_of standing y small ∙ ap not gone)
      ]
    ]

-- a man that aims at the king over a clear way aims at it over the other men
near_over : (q : Board) (m : Move) (man : Man) → Step q m man → aims_at q.side man.kind m.to (enemy_king q) ≡ true → is_clear (men_moved q m) m.to (enemy_king q) ≡ true
    → aims_over (other_color q.side) man.kind (enemy_king q) (others q m.from) m.to ≡ true
unfolding aims_over
near_over q m man step aims clear =
    let k = enemy_king q in
    let king = king_stands q.men (other_color q.side) (step.valid.kings (other_color q.side)) in
    let is = man_of (man_at q.men k) (other_color q.side) King king in
    let inside = on_board q.men k is.man is.found in
    let size = step.valid.size in
    let low : k < 64 = omega (arith, size, inside) in
    and_from (aims_at (other_color q.side) man.kind k m.to) (is_open (others q m.from) k m.to) (aims_from_there q.side man.kind m.to k step.to low ∙ aims)
    (open_from (others q m.from) k m.to (λ y small lies.
    no_other q m man step y small (clear_at (men_moved q m) m.to k y clear small (lies_turned k m.to y ∙ lies))))

-- a move that gives check goes where its man may give check
may_check_by : (q : Board) (m : Move) (man : Man) → Step q m man → Gives q m man → may_check q m.from man.kind m.to ≡ true
unfolding may_check
may_check_by q m man step (Near aims clear) = or_left (aims_over (other_color q.side) man.kind (enemy_king q) (others q m.from) m.to) (is_special_check q man.kind m.to) (near_over q m man step aims clear)
may_check_by q m man step (Becoming pawn last) =
    or_right (aims_over (other_color q.side) man.kind (enemy_king q) (others q m.from) m.to) (is_special_check q man.kind m.to) (special_pawn q man.kind m.to pawn (or_left (rank_of m.to == last_rank q.side) (is_target q.target m.to) (eq-eqb (rank_of m.to) (last_rank q.side) last)))
may_check_by q m man step (Taking pawn target) =
    or_right (aims_over (other_color q.side) man.kind (enemy_king q) (others q m.from) m.to) (is_special_check q man.kind m.to) (special_pawn q man.kind m.to pawn (or_right (rank_of m.to == last_rank q.side) (is_target q.target m.to) target))
may_check_by q m man step (Castled w king to) =
    or_right (aims_over (other_color q.side) man.kind (enemy_king q) (others q m.from) m.to) (is_special_check q man.kind m.to) (special_king q man.kind m.to king (at_goals q.side w m.to to))

-- a move of a man on s that mates, where s is off the lines to the king, goes to one of those of its ways on which it may give check
pub checks_there : (q : Board) (w : Color) (man : Man) (s : ℕ) (ways checks targets lines : List Bool) → IsValid q → man_at q.men s ≡ Some man → ways ≡ set_of (is_way q s) → checks ≡ set_of (may_check q s man.kind) → targets ≡ set_common ways checks
    → HaveScreens q (enemy_king q) lines → has_square lines s ≡ false → (m : Move) → Mates q w m → m.from ≡ s → Contains (squares_in targets) m.to
unfolding set_common after
checks_there q w man s ways checks targets lines valid found ways_are checks_are targets_are on off m mates from =
    let listed = is_listed q m mates.0 in
    let mover = mover_of q m mates.0 in
    let step : Step q m mover.0 = record { valid = valid; from = listed.from; to = listed.to; may = mover.1 } in
    let off_from : has_square lines m.from ≡ false = ap (has_square lines) from ∙ off in
    let side : other_color w ≡ other_color q.side = sym mates.1.to_move in
    let check : in_check (men_after q m) (other_color q.side) ≡ true = subst (λ (c : Color). in_check (men_after q m) c ≡ true) side mates.1.check in
    let gives = gives_check q m mover.0 step (off_lines q lines m.from listed.from on off_from) check in
    let there : Some mover.0 ≡ Some man = sym mover.1.found ∙ ap (man_at q.men) from ∙ found in
    let same : mover.0 ≡ man = cc in
    let may : may_check q s man.kind m.to ≡ true = ap (λ (x : Man). may_check q s x.kind m.to) (sym same) ∙ ap (λ u. may_check q u mover.0.kind m.to) (sym from) ∙ may_check_by q m mover.0 step gives in
    let way : has_square ways m.to ≡ true = way_there q ways s ways_are m mates.0 from in
    in_squares targets m.to listed.to
    (ap (λ x. has_square x m.to) targets_are ∙ has-set_of (λ t. has_square ways t && has_square checks t) m.to listed.to
    ∙ and_from (has_square ways m.to) (has_square checks m.to) way (ap (λ x. has_square x m.to) checks_are ∙ has-set_of (may_check q s man.kind) m.to listed.to ∙ may))
