-- The men that aim at a king, one after the other: which of them give check, and which a man shields it from.
use Rattle.std.proofs.Common.{◌≡◌, ◌≢◌, ℕ, ◌<◌, ◌==◌, ◌||◌, ◌&&◌, Bool, true, false, not, List, [], ◌∷◌, length, Option, Some, None, inl, inr, refl, sym, ◌∙◌, ap, arith}
use Rattle.std.specs.List.{list_any}
use Rattle.std.proofs.lemmas.Bool.{and_parts, and_cases, and_right, both_ways, cases_Bool, cases_eq, or_parts, not-true, eq-eqb, ne_eqb, false_from_ne_true, true_from_ne_false}
use Rattle.std.proofs.lemmas.Nat.Bits.{bit_at_ones}
use Rattle.cha_board.specs.declared.men.Color.{Color}
use Rattle.cha_board.specs.declared.men.Kind.{Kind}
use Rattle.cha_board.specs.declared.men.Kind.TheVariants.{Pawn, Knight, Bishop, Rook, Queen, King}
use Rattle.cha_board.specs.declared.men.Man.{Man}
use Rattle.cha_board.specs.Men.{other_color, same_color, is_vacant, is_man}
use Rattle.cha_board.specs.Squares.{squares, aims_at, lies_between}
use Rattle.cha_board.specs.Board.{Board, man_at, is_empty, is_clear, king_of}
use Rattle.cha_board.specs.SquareSets.{set_of, has_square, squares_in, set_of_bits, set_with, set_without, set_common, has_no_square}
use Rattle.cha_board.proofs.SetLaws.{has-set_of, same_set}
use Rattle.cha_board.proofs.Scans.{no_square}
use Rattle.cha_board.proofs.Betweens.{open_is, lies_turned}
use Rattle.cha_board.proofs.SetBits.{shown_at}
use Rattle.cha_board.proofs.Tables.{aims_from_there}
use Rattle.cha_board.proofs.Striking.{clear_turned, one_of_six}
use Rattle.cha_moves.specs.Shields.{aims_as, stops, checks, men_less, Unstopped, AreShields}
use Rattle.cha_moves.proofs.Made.{put, put_other}
use Rattle.cha_moves.proofs.Contained.{Contains-cons_here, Contains-filter_parts, Contains-filter_from, Contains-squares_from, not_in_nothing}
use Rattle.cha_moves.proofs.Goings.{occupied_in}
use Rattle.cha_moves.proofs.Clearing.{clear_at, attack_parts, attack_from}

-- the occupied squares between the king and u
abbrev pub way_from : Board → ℕ → List Bool
way_from q u = set_common (set_of (lies_between (king_of q.men q.side) u)) (occupied_in q.men)

-- What is known once the men on squares that are not left were looked at: what shields from them, and that the men on
-- squares that are left aim at the king.
pub record Faced (q : Board) (left answers screens : List Bool) : Type 0 where
  pub stopped : (u t : ℕ) → u < 64 → t < 64 → has_square left u ≡ false → checks q q.men u ≡ true → has_square answers t ≡ true → stops (king_of q.men q.side) u t ≡ true
  pub unstopped : (t : ℕ) → t < 64 → has_square answers t ≡ false → Unstopped q t
  pub shielded : (s u : ℕ) → s < 64 → u < 64 → has_square left u ≡ false → has_square screens s ≡ false → checks q (men_less q s) u ≡ true → checks q q.men u ≡ true
  pub aiming : (u : ℕ) → u < 64 → has_square left u ≡ true → aims_as (other_color q.side) (king_of q.men q.side) u (man_at q.men u) ≡ true

-- what gives check without a man aims at the king
pub aims_still : (q : Board) (s u : ℕ) → s < length q.men → checks q (men_less q s) u ≡ true → aims_as (other_color q.side) (king_of q.men q.side) u (man_at q.men u) ≡ true
aims_still q s u inside check =
    let e = other_color q.side in
    let k = king_of q.men q.side in
    let aims = (attack_parts (men_less q s) e k u (man_at (men_less q s) u) check).0 in
    elim (cases_eq u s) [
      | inl same ↦ absurd (both_ways (aims_as e k u (man_at (men_less q s) u)) (ap (aims_as e k u) (ap (man_at (men_less q s)) same ∙ put q.men s None inside)) aims)
      | inr other ↦ ap (aims_as e k u) (sym (put_other q.men s None u other)) ∙ aims
    ]

-- before any man is looked at
pub none_faced : (q : Board) (left answers screens : List Bool) → left ≡ set_of (λ u. aims_as (other_color q.side) (king_of q.men q.side) u (man_at q.men u))
    → ((t : ℕ) → t < 64 → has_square answers t ≡ true) → length q.men ≡ 64 → Faced q left answers screens
none_faced q left answers screens all every size =
    let e = other_color q.side in
    let k = king_of q.men q.side in
    let test = λ (u : ℕ). aims_as e k u (man_at q.men u) in
    let at = λ (u : ℕ) (small : u < 64). ap (λ (x : List Bool). has_square x u) all ∙ has-set_of test u small in
    record {
      stopped = λ u t small small' out check answer. absurd (both_ways (test u) (sym (at u small) ∙ out) (attack_parts q.men e k u (man_at q.men u) check).0);
      unstopped = λ t small out. absurd (both_ways (has_square answers t) out (every t small));
      shielded = λ s u small small' out free check. absurd (both_ways (test u) (sym (at u small') ∙ out) (aims_still q s u (omega (arith, size, small)) check));
      aiming = λ u small inside. sym (at u small) ∙ inside;
    }

-- once all were looked at
pub all_faced : (q : Board) (left answers screens : List Bool) → Faced q left answers screens → ((u : ℕ) → u < 64 → has_square left u ≡ false) → AreShields q answers screens
all_faced q left answers screens f none =
    record {
      stopped = λ u t small small' check answer. f.stopped u t small small' (none u small) check answer;
      unstopped = f.unstopped;
      shielded = λ s u small small' free check. f.shielded s u small small' (none u small') free check;
    }

-- the way from u to the king is clear where no square between them is occupied
pub way_is_clear : (q : Board) (u : ℕ) → u < 64 → king_of q.men q.side < 64 → has_no_square (way_from q u) ≡ is_clear q.men u (king_of q.men q.side)
way_is_clear q u small small' = open_is (occupied_in q.men) (king_of q.men q.side) u ∙ clear_turned q.men u (king_of q.men q.side) small small'

-- a square that is no longer left is u, or was not left before
out_before : (left : List Bool) (u v : ℕ) → v < 64 → v ≢ u → has_square (set_without left u) v ≡ false → has_square left v ≡ false
unfolding set_without
out_before left u v small other out =
    let e : (not (v == u) && has_square left v) ≡ false = sym (has-set_of (λ v. not (v == u) && has_square left v) v small) ∙ out in
    ap (λ b. not b && has_square left v) (sym (ne_eqb v u other)) ∙ e

in_before : (left : List Bool) (u v : ℕ) → v < 64 → has_square (set_without left u) v ≡ true → has_square left v ≡ true
unfolding set_without
in_before left u v small inside = (and_parts (not (v == u)) (has_square left v) (sym (has-set_of (λ v. not (v == u) && has_square left v) v small) ∙ inside)).1

-- the man on u gives check: it is answered on its square and between
pub check_faced : (q : Board) (left answers screens now : List Bool) (u : ℕ) → u < 64 → has_square left u ≡ true → is_clear q.men u (king_of q.men q.side) ≡ true
    → ((t : ℕ) → t < 64 → has_square now t ≡ (has_square answers t && stops (king_of q.men q.side) u t)) → Faced q left answers screens → Faced q (set_without left u) now screens
check_faced q left answers screens now u small here clear fewer f =
    let e = other_color q.side in
    let k = king_of q.men q.side in
    let check : checks q q.men u ≡ true = attack_from q.men e k u (man_at q.men u) (f.aiming u small here) clear in
    record {
      stopped = λ v t small' small'' out checks' answer. (
          let both = and_parts (has_square answers t) (stops k u t) (sym (fewer t small'') ∙ answer) in
          elim (cases_eq v u) [
            | inl same ↦ ap (λ x. stops k x t) same ∙ both.1
            | inr other ↦ f.stopped v t small' small'' (out_before left u v small' other out) checks' both.0
          ]);
      unstopped = λ t small' out. elim (and_cases (has_square answers t) (stops k u t) (sym (fewer t small') ∙ out)) [
        | inl before ↦ f.unstopped t small' before
        | inr passed ↦ record { by = u; on_board = small; check = check; missed = passed }
      ];
      shielded = λ s v small' small'' out free checks'. elim (cases_eq v u) [
        | inl same ↦ ap (checks q q.men) same ∙ check
        | inr other ↦ f.shielded s v small' small'' (out_before left u v small'' other out) free checks'
      ];
      aiming = λ v small' inside. f.aiming v small' (in_before left u v small' inside);
    }

-- a man without which u gives check is the only one on the way
only_there : (q : Board) (s u : ℕ) → checks q (men_less q s) u ≡ true → (y : ℕ) → y < 64 → has_square (way_from q u) y ≡ true → y ≡ s
unfolding set_common
only_there q s u check y small on =
    let e = other_color q.side in
    let k = king_of q.men q.side in
    let both = and_parts (has_square (set_of (lies_between k u)) y) (has_square (occupied_in q.men) y) (sym (has-set_of (λ t. has_square (set_of (lies_between k u)) t && has_square (occupied_in q.men) t) y small) ∙ on) in
    let lies : lies_between u k y ≡ true = lies_turned k u y ∙ sym (has-set_of (lies_between k u) y small) ∙ both.0 in
    let stands : is_empty q.men y ≡ false = not-true (is_empty q.men y) (sym (has-set_of (λ t. not (is_empty q.men t)) y small) ∙ both.1) in
    elim (cases_eq y s) [
      | inl same ↦ same
      | inr other ↦ absurd (both_ways (is_empty q.men y) stands
          (ap is_vacant (sym (put_other q.men s None y other)) ∙ clear_at (men_less q s) u k y (attack_parts (men_less q s) e k u (man_at (men_less q s) u) check).1 small lies))
    ]

-- the man on u gives no check: whoever stands alone on the way is screens
pub pin_faced : (q : Board) (left answers screens now lone : List Bool) (u : ℕ) → u < 64 → king_of q.men q.side < 64 → has_no_square (way_from q u) ≡ false
    → ((s : ℕ) → s < 64 → ((y : ℕ) → y < 64 → has_square (way_from q u) y ≡ true → y ≡ s) → has_square lone s ≡ true)
    → ((s : ℕ) → s < 64 → has_square now s ≡ (has_square screens s || has_square lone s)) → Faced q left answers screens → Faced q (set_without left u) answers now
pin_faced q left answers screens now lone u small small' barred alone more f =
    let e = other_color q.side in
    let k = king_of q.men q.side in
    record {
      stopped = λ v t small'' small''' out check answer. elim (cases_eq v u) [
        | inl same ↦ absurd (both_ways (is_clear q.men u k) (sym (way_is_clear q u small small') ∙ barred) (attack_parts q.men e k u (man_at q.men u) (ap (checks q q.men) (sym same) ∙ check)).1)
        | inr other ↦ f.stopped v t small'' small''' (out_before left u v small'' other out) check answer
      ];
      unstopped = f.unstopped;
      shielded = λ s v small'' small''' out free check. (
          let apart = or_parts (has_square screens s) (has_square lone s) (sym (more s small'') ∙ free) in
          elim (cases_eq v u) [
            | inl same ↦ absurd (both_ways (has_square lone s) apart.1 (alone s small'' (only_there q s u (ap (checks q (men_less q s)) (sym same) ∙ check))))
            | inr other ↦ f.shielded s v small'' small''' (out_before left u v small''' other out) apart.0 check
          ]);
      aiming = λ v small'' inside. f.aiming v small'' (in_before left u v small'' inside);
    }

-- the first square of a set is in it, and no square is in a set that has no first
pub first_in : (set : List Bool) (u : ℕ) (rest : List ℕ) → squares_in set ≡ u ∷ rest → has_square set u ≡ true
first_in set u rest e = (Contains-filter_parts (has_square set) squares u (rw e (Contains-cons_here u rest u refl))).1

pub none_left : (set : List Bool) → squares_in set ≡ [] → (u : ℕ) → u < 64 → has_square set u ≡ false
none_left set e u small = false_from_ne_true (has_square set u) (λ h. (
    let inside = Contains-filter_from (has_square set) squares u (Contains-squares_from u small) h in
    not_in_nothing u (rw e at inside)))

-- the men of a side that aim at a square, by kind
pub six_kinds : (c : Color) (k u : ℕ) (o : Option Man)
    → ((((((is_man c Pawn o && aims_at c Pawn u k) || (is_man c Knight o && aims_at c Knight u k)) || (is_man c King o && aims_at c King u k)) || (is_man c Bishop o && aims_at c Bishop u k))
    || (is_man c Rook o && aims_at c Rook u k)) || (is_man c Queen o && aims_at c Queen u k)) ≡ aims_as c k u o
six_kinds c k u None = refl
six_kinds c k u (Some man) = sym (one_of_six man.kind (same_color man.color c) (λ j. aims_at c j u k))

pub aimers_are : (men : List (Option Man)) (c d : Color) (k : Kind) (t : ℕ) → t < 64 → d ≡ other_color c
    → set_common (set_of (λ s. is_man c k (man_at men s))) (set_of (aims_at d k t)) ≡ set_of (λ u. is_man c k (man_at men u) && aims_at c k u t)
unfolding set_common
aimers_are men c d k t small e =
    same_set (λ s. has_square (set_of (λ s. is_man c k (man_at men s))) s && has_square (set_of (aims_at d k t)) s) (λ u. is_man c k (man_at men u) && aims_at c k u t) (λ u small'.
    rw (has-set_of (λ s. is_man c k (man_at men s)) u small', has-set_of (aims_at d k t) u small', e, aims_from_there c k u t small' small) refl)

-- the squares that end one check more
pub answered : (answers line : List Bool) (k u t : ℕ) → line ≡ set_of (lies_between k u) → t < 64 → has_square (set_common answers (set_with line u)) t ≡ (has_square answers t && stops k u t)
unfolding set_common set_with stops
answered answers line k u t e small =
    has-set_of (λ t. has_square answers t && has_square (set_of (λ t. (t == u) || has_square line t)) t) t small
    ∙ ap (λ b. has_square answers t && b) (has-set_of (λ t. (t == u) || has_square line t) t small ∙ ap (λ b. (t == u) || b) (ap (λ (x : List Bool). has_square x t) e ∙ has-set_of (lies_between k u) t small))

-- a set all of whose squares are one has no other
pub one_alone : (set rest : List Bool) (first s : ℕ) (tail : List ℕ) → squares_in set ≡ first ∷ tail → rest ≡ set_without set first → ((y : ℕ) → y < 64 → has_square set y ≡ true → y ≡ s) → first < 64 → has_no_square rest ≡ true
unfolding has_no_square set_without
one_alone set rest first s tail e out alone small =
    ap has_no_square_by out
    ∙ ap not (no_square (has_square (set_of (λ y. not (y == first) && has_square set y))) (λ y small'.
    has-set_of (λ y. not (y == first) && has_square set y) y small' ∙ elim (cases_Bool (has_square set y)) [
      | inl here ↦ ap (λ b. not b && has_square set y) (eq-eqb y first (alone y small' here ∙ sym (alone first small (first_in set first tail e))))
      | inr none ↦ and_right (not (y == first)) (has_square set y) none
    ]))
  where
    has_no_square_by : List Bool → Bool
    has_no_square_by set = not (list_any (has_square set) squares)

-- every square is in the set of all bits
pub every_square : (t : ℕ) → t < 64 → has_square (set_of_bits 18446744073709551615) t ≡ true
every_square t small = shown_at 18446744073709551615 t small ∙ ap (λ x. x == 1) (bit_at_ones 64 t small)

-- the one square of a way, if it has no other
pub lone_there : (q : Board) (u : ℕ) (way lone : List Bool) → way ≡ way_from q u → has_no_square (way_from q u) ≡ false
    → ((s : ℕ) → has_square way s ≡ true → ((y : ℕ) → y < 64 → has_square way y ≡ true → y ≡ s) → has_square lone s ≡ true)
    → (s : ℕ) → s < 64 → ((y : ℕ) → y < 64 → has_square (way_from q u) y ≡ true → y ≡ s) → has_square lone s ≡ true
unfolding has_no_square
lone_there q u way lone e barred alone s small only =
    let only' = λ (y : ℕ) (small' : y < 64) (h : has_square way y ≡ true). only y small' (ap (λ (x : List Bool). has_square x y) (sym e) ∙ h) in
    alone s (true_from_ne_false (has_square way s) (λ out.
    both_ways (list_any (has_square (way_from q u)) squares)
    (no_square (has_square (way_from q u)) (λ y small'. false_from_ne_true (has_square (way_from q u) y) (λ h.
    both_ways (has_square way s) out (ap (λ (x : List Bool). has_square x s) e ∙ ap (has_square (way_from q u)) (sym (only y small' h)) ∙ h))))
    (true_from_ne_false (list_any (has_square (way_from q u)) squares) (λ none. both_ways (has_no_square (way_from q u)) barred (ap not none))))) only'
