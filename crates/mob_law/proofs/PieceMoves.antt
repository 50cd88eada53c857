-- Moves of men other than pawns: the rules have them in reach where they go, and no king steps onto a guarded square.
use Rattle.std.proofs.Common.{◌≡◌, ◌≢◌, ℕ, ◌<◌, true, false, not, ◌&&◌, ◌==◌, length, Option, Some, None, refl, sym, subst, ap, ◌∙◌, arith, inl, inr}
use Rattle.std.proofs.lemmas.Bool.{and_parts, and_from, both_ways, false_from_ne_true, not-true, cases_Bool}
use Rattle.std.proofs.lemmas.Option.{same_Some}
use Rattle.cha_board.specs.declared.men.Color.{Color}
use Rattle.cha_board.specs.declared.men.Kind.{Kind}
use Rattle.cha_board.specs.declared.men.Kind.TheVariants.{Pawn, Knight, Bishop, Rook, Queen, King}
use Rattle.cha_board.specs.declared.men.Man.{Man}
use Rattle.cha_board.specs.declared.castling.Wing.{Wing}
use Rattle.cha_board.specs.Men.{other_color, same_color, same_kind, is_vacant, is_man, is_non_king}
use Rattle.cha_board.specs.Squares.{steps_apart, aims_at}
use Rattle.cha_board.specs.Board.{Board, man_at, is_clear, in_check, king_of, has_one_king}
use Rattle.cha_board.proofs.Sightings.{attacked_from}
use Rattle.cha_moves.specs.Step.{Move}
use Rattle.cha_moves.specs.Moves.{goes, castles, may_enter, arriving, is_en_passant, king_castles, captures_en_passant, men_after}
use Rattle.cha_board.proofs.Identity.{other_other, same_color_equal, same_kind_equal, man_of, is_man_from}
use Rattle.cha_moves.proofs.Made.{Step, length-moved, moved_to, moved_other, men_moved}
use Rattle.cha_moves.proofs.Kept.{stays_man, kings_kept, king_place, king_way}
use Rattle.mob_law.specs.Reach.{is_fixed, is_open, is_guarded}
use Rattle.mob_sets.specs.Mobility.{Sets}
use Rattle.mob_law.specs.Closed.{has_fixed_enemy, IsClosed}
use Rattle.mob_law.proofs.CarriedFacts.{Facts}
use Rattle.cha_board.proofs.ManTests.{other_color_of, not_of_other, same_color_from, kinds_differ}
use Rattle.cha_moves.proofs.Near.{king_aims}
use Rattle.cha_moves.proofs.GoingLegally.{aims_at_self}
use Rattle.mob_law.proofs.Geometry.{near, leap_clear}
use Rattle.mob_law.proofs.FixedGuards.{some_guard}
use Rattle.mob_law.proofs.Attackers.{attacks_by, clear_near}
use Rattle.mob_law.proofs.Standing.{fixed_stands, open_from, open_near, entry_of}
use Rattle.mob_law.proofs.KingSteps.{step_plain}
use Rattle.mob_law.proofs.OneMan.{Lands}

-- what may be entered and is not empty is an enemy other than a king
pub enemy_there : (c : Color) (o : Option Man) → may_enter c o ≡ true → is_vacant o ≡ false → is_non_king (other_color c) o ≡ true
enemy_there c None enter full = cc
enemy_there c (Some man) enter full =
    let both = and_parts (not (same_color man.color c)) (not (same_kind man.kind King)) enter in
    and_from (same_color man.color (other_color c)) (not (same_kind man.kind King)) (other_color_of man.color c (not-true (same_color man.color c) both.0)) both.1

-- At a position where the facts hold:
module _ (p : Board) (s : Sets) (q : Board) (origin : ℕ → ℕ) (facts : Facts p s q origin) where
  -- where no fixed enemy stands, a square that may be entered is not fixed
  pub spared : (c : Color) (t : ℕ) → may_enter c (man_at q.men t) ≡ true → has_fixed_enemy p s c t ≡ false → is_fixed p s t ≡ false
  unfolding has_fixed_enemy
  spared c t enter no_enemy =
      false_from_ne_true (is_fixed p s t) (λ h.
      let same = (facts.fixed t h).0 in
      let full = (fixed_stands p s t h).0 in
      let enemy : is_non_king (other_color c) (man_at p.men t) ≡ true = rw (← same) (enemy_there c (man_at q.men t) enter (rw same full)) in
      both_ways (is_fixed p s t && is_non_king (other_color c) (man_at p.men t)) no_enemy (and_from (is_fixed p s t) (is_non_king (other_color c) (man_at p.men t)) h enemy))

-- the way of a man other than a pawn: it aims at its square, and no fixed man stands between
record Way (p : Board) (s : Sets) (q : Board) (m : Move) (man : Man) : Type 0 where
  other : same_kind man.kind Pawn ≡ false
  aims : aims_at q.side man.kind m.from m.to ≡ true
  open_way : is_open p s m.from m.to ≡ true

-- only a pawn captures en passant
no_pawn_passes : (q : Board) (o : Option Man) (man : Man) (s t : ℕ) → o ≡ Some man → same_kind man.kind Pawn ≡ false → captures_en_passant q o s t ≡ true → ⊥
no_pawn_passes q o man s t found other h =
    let pawn = man_of o q.side Pawn (and_parts (is_man q.side Pawn o) (is_en_passant q s t) h).0 in
    let one = same_Some pawn.man man (sym pawn.found ∙ found) in
    let kind : man.kind ≡ Pawn = ap (λ (x : Man). x.kind) (sym one) ∙ pawn.kind in
    both_ways (same_kind man.kind Pawn) other (rw kind refl)

-- a knight, a bishop, a rook or a queen goes where it aims, over empty squares
sliding : (q : Board) (k : Kind) (s t : ℕ) → same_kind k Pawn ≡ false → same_kind k King ≡ false → goes q k s t ≡ true → (aims_at q.side k s t ≡ true) × (is_clear q.men s t ≡ true)
unfolding goes
sliding q Pawn s t pawn king h = cc
sliding q King s t pawn king h = cc
sliding q Knight s t pawn king h = and_parts (aims_at q.side Knight s t) (is_clear q.men s t) h
sliding q Bishop s t pawn king h = and_parts (aims_at q.side Bishop s t) (is_clear q.men s t) h
sliding q Rook s t pawn king h = and_parts (aims_at q.side Rook s t) (is_clear q.men s t) h
sliding q Queen s t pawn king h = and_parts (aims_at q.side Queen s t) (is_clear q.men s t) h

-- a king that does not castle goes where it aims
stepping : (q : Board) (o : Option Man) (s t : ℕ) → is_man q.side King o ≡ true → ((w : Wing) → king_castles q w o s t ≡ false) → goes q King s t ≡ true → aims_at q.side King s t ≡ true
stepping q o s t king no_castling h = elim (king_way q s t h) [
  | inl y ↦ y
  | inr y ↦ absurd (both_ways (king_castles q y.0 o s t) (no_castling y.0) (and_from (is_man q.side King o) (castles q y.0 s t) king y.1))
]

-- A move at a position where the facts hold:
module _ (p : Board) (s : Sets) (q : Board) (origin : ℕ → ℕ) (m : Move) (man : Man) (closed : IsClosed p s) (facts : Facts p s q origin) (step : Step q m man) where
  -- a king that steps onto a guarded square is attacked there, since the guard is fixed and so stands where it stood
  guarded_checks : man.kind ≡ King → (steps_apart m.from m.to == 1) ≡ true → is_guarded p s (other_color q.side) m.to ≡ true
      → in_check (men_after q m) q.side ≡ true
  unfolding in_check
  guarded_checks kind near_by guarded =
      let size = step.valid.size in
      let color = same_color_equal man.color q.side step.may.own in
      let king : is_man q.side King (man_at q.men m.from) ≡ true = is_man_from (man_at q.men m.from) man q.side King step.may.found color kind in
      let same = step_plain q m king near_by in
      let a = arriving (man_at q.men m.from) m.promotion in
      let other : same_kind man.kind Pawn ≡ false = rw kind refl in
      let arrives : a ≡ Some man = rw step.may.found (stays_man q.side man m.to m.promotion step.may.well other) in
      let from = step.from in
      let to = step.to in
      let in_to : m.to < length q.men = omega arith in
      let long = length-moved q.men m.from m.to a in
      let there : man_at (men_moved q m) m.to ≡ Some man = moved_to q.men m.from m.to a in_to ∙ arrives in
      let kings : has_one_king (men_moved q m) q.side ≡ true = rw same at (kings_kept q m man step q.side) in
      let place : king_of (men_moved q m) q.side ≡ m.to = king_place (men_moved q m) q.side m.to kings (omega (arith, long, in_to)) (is_man_from (man_at (men_moved q m) m.to) man q.side King there color kind) in
      let some = some_guard p s (other_color q.side) m.to guarded in
      let f = some.0 in
      let g = some.2 in
      let own = same_color_from g.man.color (other_color q.side) g.color in
      let stood : man_at q.men f ≡ Some g.man = (facts.fixed f g.fixed).0 ∙ g.found in
      let nf : f ≢ m.from = λ e. not_of_other (other_color q.side) King (man_at q.men f) g.man stood own (rw (e, other_other) king) in
      let nt : f ≢ m.to = λ e. both_ways (aims_at (other_color q.side) g.man.kind f m.to) (rw e (aims_at_self (other_color q.side) g.man.kind m.to)) g.aims in
      let now : man_at (men_moved q m) f ≡ Some g.man = moved_other q.men m.from m.to a f nf nt ∙ stood in
      let clear = clear_near (men_moved q m) f m.to (leap_clear (other_color q.side) g.man.kind f m.to some.1 step.to g.aims g.near) in
      let hit = attacks_by (men_moved q m) (other_color q.side) m.to f g.man now own g.aims clear in
      rw (same, place) (attacked_from (men_moved q m) (other_color q.side) m.to f some.1 hit)

  -- the rules for men other than pawns give what a move along such a way needs
  lands_so : in_check (men_after q m) q.side ≡ false → Way p s q m man → Lands p s q origin m man
  lands_so safe way =
      let from = facts.each m.from man step.may.found in
      let color : from.first.color ≡ q.side = from.color ∙ same_color_equal man.color q.side step.may.own in
      let entry = entry_of p s q origin facts m.from m.to man step.may.found step.from step.to in
      let walks = closed.pieces_move (origin m.from) from.first man.kind m.from m.to entry (kinds_differ man.kind Pawn way.other) (rw color way.aims) way.open_way (λ kind.
      let near_by : (steps_apart m.from m.to == 1) ≡ true = king_aims q.side m.from m.to (rw kind at way.aims) in
      rw color (false_from_ne_true (is_guarded p s (other_color q.side) m.to) (λ guarded. both_ways (in_check (men_after q m) q.side) safe (guarded_checks kind near_by guarded)))) in
      let free = spared p s q origin facts q.side m.to step.may.enter (rw color at walks.spares) in
      record {
        unfixed = free;
        leaves = walks.leaves free;
        reach = λ new arrives. (
            let one : man ≡ new = same_Some man new (sym (stays_man q.side man m.to m.promotion step.may.well way.other) ∙ arrives) in
            (let P : Man → Type 0 = λ x. s.has (origin m.from) x.kind m.to ≡ true in subst P one (walks.goes free)));
        victim = λ passes. absurd (no_pawn_passes q (man_at q.men m.from) man m.from m.to step.may.found way.other passes);
      }

  -- a man other than a pawn that does not castle has such a way
  way_of : same_kind man.kind Pawn ≡ false
      → ((w : Wing) → king_castles q w (man_at q.men m.from) m.from m.to ≡ false) → Way p s q m man
  way_of other no_castling =
      elim (cases_Bool (same_kind man.kind King)) [
        | inl h ↦ (
            let kind = same_kind_equal man.kind King h in
            let color = same_color_equal man.color q.side step.may.own in
            let king : is_man q.side King (man_at q.men m.from) ≡ true = is_man_from (man_at q.men m.from) man q.side King step.may.found color kind in
            let G : Kind → Type 0 = λ k. goes q k m.from m.to ≡ true in
            let aims : aims_at q.side King m.from m.to ≡ true = stepping q (man_at q.men m.from) m.from m.to king no_castling (subst G kind step.may.goes) in
            let A : Kind → Type 0 = λ k. aims_at q.side k m.from m.to ≡ true in
            record {
              other = other;
              aims = subst A (sym kind) aims;
              open_way = open_near p s m.from m.to (near m.from m.to step.from step.to (king_aims q.side m.from m.to aims)).clear;
            })
        | inr h ↦ (
            let both = sliding q man.kind m.from m.to other h step.may.goes in
            record { other = other; aims = both.0; open_way = open_from p s q origin facts m.from m.to both.1 })
      ]

  -- a move of a man other than a pawn, that is no castling and leaves its king unattacked
  pub piece_lands : in_check (men_after q m) q.side ≡ false → same_kind man.kind Pawn ≡ false
      → ((w : Wing) → king_castles q w (man_at q.men m.from) m.from m.to ≡ false) → Lands p s q origin m man
  piece_lands safe other no_castling =
      lands_so safe (way_of other no_castling)
