-- A rook or a queen that captures the one man that checks, or steps in between, answers the check.
use Rattle.std.proofs.Common.{◌≡◌, ◌≢◌, ℕ, ◌<◌, ◌==◌, Bool, true, false, not, ◌&&◌, List, [], length, Option, Some, None, Contains, refl, sym, subst, ap, ◌∙◌, arith}
use Rattle.std.proofs.lemmas.Bool.{and_parts, and_from, both_ways, eqb-true, false_from_ne_true}
use Rattle.cha_board.specs.declared.men.Color.{Color}
use Rattle.cha_board.specs.declared.men.Color.TheVariants.{White}
use Rattle.cha_board.specs.declared.men.Kind.{Kind}
use Rattle.cha_board.specs.declared.men.Kind.TheVariants.{Pawn, Knight, Bishop, Rook, Queen, King}
use Rattle.cha_board.specs.declared.men.Man.{Man}
use Rattle.cha_board.specs.Men.{other_color, same_color, same_kind, is_man, is_non_king}
use Rattle.cha_board.specs.Squares.{steps_apart, aims_at}
use Rattle.cha_board.specs.Board.{Board, man_at, is_clear, attacked, king_of, in_check, has_one_king, IsValid}
use Rattle.cha_board.proofs.Identity.{man_of, is_man_from, same_color_self, same_color_equal, same_kind_equal, other_other, none_some, one_color}
use Rattle.cha_board.proofs.ManTests.{not_of_other}
use Rattle.cha_moves.specs.Step.{Move}
use Rattle.cha_moves.specs.Moves.{goes, promotes_well, may_enter, is_pseudo_legal, is_pseudo_legal_as, castles, is_en_passant, moved, men_after, is_legal_in}
use Rattle.cha_moves.specs.Ends.{IsMated}
use Rattle.cha_moves.proofs.Kept.{kings_kept, no_king_entered, king_place}
use Rattle.cha_moves.proofs.Listed.{listed}
use Rattle.cha_moves.proofs.Made.{may_gives, length-moved, moved_to, moved_from, moved_other, makes, Plainly, Passing, OnWing}
use Rattle.mob_law.proofs.Attackers.{Attacker, some_attacker}
use Rattle.cha_moves.proofs.Near.{king_aims}
use Rattle.cha_moves.proofs.GoingLegally.{aims_at_self}
use Rattle.mob_law.proofs.Geometry.{near}

-- rooks and queens
unfoldable pub is_slider : Kind → Bool
is_slider Rook = true
is_slider Queen = true
is_slider _ = false

-- how a rook or a queen moves
pub record Slides (q : Board) (i : Kind) (n t : ℕ) : Type 0 where
  pub way : goes q i n t ≡ true
  pub well : promotes_well q.side i t None ≡ true
  pub no_pawn : same_kind i Pawn ≡ false
  pub no_king : same_kind i King ≡ false

pub slides : (q : Board) (i : Kind) (n t : ℕ) → is_slider i ≡ true → aims_at White i n t ≡ true → is_clear q.men n t ≡ true → Slides q i n t
unfolding is_slider goes promotes_well aims_at
slides q Rook n t slider aims clear = record { way = and_from (aims_at q.side Rook n t) (is_clear q.men n t) aims clear; well = refl; no_pawn = refl; no_king = refl }
slides q Queen n t slider aims clear = record { way = and_from (aims_at q.side Queen n t) (is_clear q.men n t) aims clear; well = refl; no_pawn = refl; no_king = refl }
slides q Pawn n t slider aims clear = cc
slides q Knight n t slider aims clear = cc
slides q Bishop n t slider aims clear = cc
slides q King n t slider aims clear = cc

-- what a man of one kind is not
pub not_of_kind : (o : Option Man) (man : Man) (c : Color) (i j : Kind) → o ≡ Some man → man.kind ≡ i → same_kind i j ≡ false → is_man c j o ≡ true → ⊥
not_of_kind o man c i j found kind other there =
    let P : Option Man → Type 0 = λ x. is_man c j x ≡ true in
    let both = and_parts (same_color man.color c) (same_kind man.kind j) (subst P found there) in
    let K : Kind → Type 0 = λ x. same_kind x j ≡ true in
    both_ways (same_kind i j) other (subst K kind both.1)

-- an enemy that is no king may be captured
pub enter_enemy : (w : Color) (o : Option Man) → is_non_king w o ≡ true → may_enter (other_color w) o ≡ true
enter_enemy w None h = cc
enter_enemy w (Some man) h =
    let both = and_parts (same_color man.color w) (not (same_kind man.kind King)) h in
    and_from (not (same_color man.color (other_color w))) (not (same_kind man.kind King)) (ap not (false_from_ne_true (same_color man.color (other_color w)) (λ e. one_color man.color w both.0 e))) both.1

-- a king that is not next to another does not attack it
pub not_by_king : (q : Board) (w : Color) (k wk u : ℕ) (man : Man) → IsValid q → k < 64 → wk < 64 → u < 64 → is_man w King (man_at q.men wk) ≡ true → steps_apart k wk ≢ 1
    → man_at q.men u ≡ Some man → same_color man.color w ≡ true → aims_at w man.kind u k ≡ true → same_kind man.kind King ≡ false
not_by_king q w k wk u man valid small small' small'' king far found own aims =
    false_from_ne_true (same_kind man.kind King) (λ h.
    let kind = same_kind_equal man.kind King h in
    let here = is_man_from (man_at q.men u) man w King found (same_color_equal man.color w own) kind in
    let place : u ≡ wk = sym (king_place q.men w u (valid.kings w) (rw valid.size small'') here) ∙ king_place q.men w wk (valid.kings w) (rw valid.size small') king in
    let K : Kind → Type 0 = λ x. aims_at w x u k ≡ true in
    let step = king_aims w u k (subst K kind aims) in
    let S : ℕ → Type 0 = λ x. (steps_apart k x == 1) ≡ true in
    far (eqb-true (steps_apart k wk) 1 (subst S place (near u k small'' small step).back)))

-- who attacks a square once the loser's man on n has gone to t stood there before, on another square than both
pub record Stood (q : Board) (n t u : ℕ) (man : Man) : Type 0 where
  pub not_from : u ≢ n
  pub not_to : u ≢ t
  pub found : man_at q.men u ≡ Some man

pub stood_before : (q : Board) (w : Color) (k n t u : ℕ) (i : Kind) → IsValid q → n < 64 → t < 64 → n ≢ t → is_man (other_color w) i (man_at q.men n) ≡ true
    → (a : Attacker (moved q.men n t (man_at q.men n)) w k u) → Stood q n t u a.man
stood_before q w k n t u i valid small small' apart stands a =
    let then = moved q.men n t (man_at q.men n) in
    let P : ℕ → Type 0 = λ x. man_at then x ≡ Some a.man in
    let arrived : man_at then t ≡ man_at q.men n = moved_to q.men n t (man_at q.men n) (rw valid.size small') in
    let left : man_at then n ≡ None = moved_from q.men n t (man_at q.men n) (rw valid.size small) apart in
    let not_from : u ≢ n = λ e. none_some (man_at then n) a.man left (subst P e a.found) in
    let not_to : u ≢ t = λ e. not_of_other w i (man_at q.men n) a.man (sym arrived ∙ subst P e a.found) a.own stands in
    record { not_from = not_from; not_to = not_to; found = sym (moved_other q.men n t (man_at q.men n) u not_from not_to) ∙ a.found }

-- The loser's man of kind i on n, a rook or a queen, may go to t, and nobody attacks its king on k then.
pub record Reply (q : Board) (w : Color) (k n t : ℕ) (i : Kind) : Type 0 where
  pub from : n < 64
  pub to : t < 64
  pub stands : is_man (other_color w) i (man_at q.men n) ≡ true
  pub slider : is_slider i ≡ true
  pub aims : aims_at White i n t ≡ true
  pub clear : is_clear q.men n t ≡ true
  pub enter : may_enter (other_color w) (man_at q.men t) ≡ true
  pub safe : (u : ℕ) → u < 64 → Attacker (moved q.men n t (man_at q.men n)) w k u → ⊥

pub aims_apart : (i : Kind) (n t : ℕ) → n < 64 → aims_at White i n t ≡ true → n ≢ t
aims_apart i n t small aims e =
    let A : ℕ → Type 0 = λ x. aims_at White i n x ≡ true in
    both_ways (aims_at White i n n) (aims_at_self White i n) (subst A (sym e) aims)

module _ (q : Board) (w : Color) (valid : IsValid q) (mate : IsMated q (other_color w)) (k : ℕ) (small : k < 64) (king : is_man (other_color w) King (man_at q.men k) ≡ true)
    (n t : ℕ) (i : Kind) (r : Reply q w k n t i) where
  -- the move, and the men once it is made
  abbrev by : Move
  by = record { from = n; to = t; promotion = None }

  abbrev then : List (Option Man)
  then = moved q.men n t (man_at q.men n)

  apart : n ≢ t
  apart = aims_apart i n t r.from r.aims

  may : is_pseudo_legal q by ≡ true
  unfolding is_pseudo_legal_as
  may =
      let m = man_of (man_at q.men n) (other_color w) i r.stands in
      let go = slides q i n t r.slider r.aims r.clear in
      let P : Option Man → Type 0 = λ x. is_pseudo_legal_as q by x ≡ true in
      let own : same_color m.man.color q.side ≡ true = rw (m.color, mate.to_move) (same_color_self (other_color w)) in
      let enters : may_enter q.side (man_at q.men t) ≡ true = rw mate.to_move r.enter in
      let way : goes q m.man.kind n t ≡ true = rw m.kind go.way in
      let well : promotes_well q.side m.man.kind t None ≡ true = rw m.kind go.well in
      subst P (sym m.found) (and_from (same_color m.man.color q.side && may_enter q.side (man_at q.men t) && goes q m.man.kind n t) (promotes_well q.side m.man.kind t None)
      (and_from (same_color m.man.color q.side && may_enter q.side (man_at q.men t)) (goes q m.man.kind n t)
      (and_from (same_color m.man.color q.side) (may_enter q.side (man_at q.men t)) own enters) way) well)

  -- it moves one man
  plain : men_after q by ≡ then
  plain =
      let m = man_of (man_at q.men n) (other_color w) i r.stands in
      let go = slides q i n t r.slider r.aims r.clear in
      elim (makes q by) [
        | Plainly a b e ↦ e
        | Passing x e ↦ absurd (not_of_kind (man_at q.men n) m.man q.side i Pawn m.found m.kind go.no_pawn (and_parts (is_man q.side Pawn (man_at q.men n)) (is_en_passant q n t) x).0)
        | OnWing w x e ↦ absurd (not_of_kind (man_at q.men n) m.man q.side i King m.found m.kind go.no_king (and_parts (is_man q.side King (man_at q.men n)) (castles q w n t) x).0)
      ]

  -- the king is on neither square
  king_not_from : k ≢ n
  king_not_from e = (
      let m = man_of (man_at q.men n) (other_color w) i r.stands in
      let go = slides q i n t r.slider r.aims r.clear in
      let P : ℕ → Type 0 = λ x. is_man (other_color w) King (man_at q.men x) ≡ true in
      not_of_kind (man_at q.men n) m.man (other_color w) i King m.found m.kind go.no_king (subst P e king))

  king_not_to : k ≢ t
  king_not_to e = (
      let P : ℕ → Type 0 = λ x. is_man (other_color w) King (man_at q.men x) ≡ true in
      both_ways (is_man (other_color w) King (man_at q.men t)) (no_king_entered (other_color w) (other_color w) (man_at q.men t) r.enter) (subst P e king))

  loser_place : king_of then (other_color w) ≡ k
  loser_place =
      let mover = may_gives q by may in
      let kings : has_one_king then (other_color w) ≡ true = rw plain at (kings_kept q by mover.0 (record { valid = valid; from = r.from; to = r.to; may = mover.1 }) (other_color w)) in
      let inside : k < length then = rw (length-moved q.men n t (man_at q.men n), valid.size) small in
      let stays = moved_other q.men n t (man_at q.men n) k king_not_from king_not_to in
      king_place then (other_color w) k kings inside (rw stays king)

  -- so the loser has a legal move, which a mate does not leave it
  pub answered : ⊥
  unfolding in_check is_legal_in
  answered =
      let safe : in_check then (other_color w) ≡ false = false_from_ne_true (in_check then (other_color w)) (λ check.
      let seen : attacked then w k ≡ true = rw (other_other, loser_place) at check in
      let from = some_attacker then w k seen in
      r.safe from.0 from.1 from.2) in
      let safe' : in_check (men_after q by) q.side ≡ false = rw (plain, mate.to_move) safe in
      let fine : is_legal_in q by ≡ true = and_from (is_pseudo_legal q by) (not (in_check (men_after q by) q.side)) may (ap not safe') in
      let there = listed q by r.from r.to fine in
      let L : List Move → Type 0 = λ ms. Contains ms by in
      let nowhere : Contains [] by = subst L mate.stuck there in
      omega (arith, nowhere.1)
