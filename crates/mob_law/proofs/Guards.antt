-- Which fixed men guard a square on which nothing is fixed, where all rules but those of castling hold.
use Rattle.std.proofs.Common.{◌≡◌, ◌≢◌, ℕ, ◌<◌, Bool, true, false, not, ◌==◌, Some, refl, sym, subst, ap, ◌∙◌, inl, inr}
use Rattle.std.specs.List.{list_all}
use Rattle.std.proofs.lemmas.Bool.{both_ways, false_from_ne_true, not-true}
use Rattle.cha_board.specs.declared.men.Color.{Color}
use Rattle.cha_board.specs.declared.men.Kind.{Kind}
use Rattle.cha_board.specs.declared.men.Kind.TheVariants.{Pawn, Knight, Bishop, Rook, Queen, King}
use Rattle.cha_board.specs.declared.men.Man.{Man}
use Rattle.cha_board.specs.Men.{other_color, is_man}
use Rattle.cha_board.specs.Squares.{squares, steps_apart, aims_at}
use Rattle.cha_board.specs.Board.{Board, man_at, in_check, home_of, IsValid}
use Rattle.cha_board.proofs.Scans.{all_squares_at}
use Rattle.cha_board.proofs.Identity.{other_other, is_man_from}
use Rattle.mob_law.specs.Reach.{is_fixed, is_guarded}
use Rattle.mob_sets.specs.Mobility.{Sets}
use Rattle.mob_law.specs.Closed.{Entry, EnemyReaches}
use Rattle.mob_law.specs.Castling.{IsClosedButForCastling}
use Rattle.cha_board.proofs.ManTests.{either_color}
use Rattle.cha_moves.proofs.Near.{king_aims}
use Rattle.cha_moves.proofs.Kept.{king_place}
use Rattle.mob_law.proofs.Geometry.{near, leap_clear}
use Rattle.mob_law.proofs.FixedGuards.{Guard, some_guard}
use Rattle.mob_law.proofs.Standing.{fixed_stands, open_near}
use Rattle.mob_law.proofs.Mating.{kings_far}

-- a pawn, a king, or another piece
pub data Class (k : Kind) : Type 0 where
  APawn : k ≡ Pawn → Class k
  AKing : k ≡ King → Class k
  APiece : k ≢ Pawn → k ≢ King → Class k

pub class_of : (k : Kind) → Class k
class_of Pawn = APawn refl
class_of Knight = APiece (λ e. cc) (λ e. cc)
class_of Bishop = APiece (λ e. cc) (λ e. cc)
class_of Rook = APiece (λ e. cc) (λ e. cc)
class_of Queen = APiece (λ e. cc) (λ e. cc)
class_of King = AKing refl

-- no pawn of c captures onto t
abbrev pub takes_no_pawn : Color → ℕ → ℕ → Bool
takes_no_pawn c t f = not (aims_at c Pawn f t)

module _ (p : Board) (s : Sets) (valid : IsValid p) (rules : IsClosedButForCastling p s) where
  -- each man is in reach on its own square
  pub own_entry : (f t : ℕ) (man : Man) → man_at p.men f ≡ Some man → f < 64 → t < 64 → Entry p s f man man.kind f t
  own_entry f t man found small small' = record { stood = found; reach = rules.begins f man found; from = small; to = small' }

  -- a guard goes where it guards, and so is not fixed, unless it is a pawn, or a king that the other side keeps off
  pub goes_there : (c : Color) (t f : ℕ) → f < 64 → t < 64 → is_fixed p s t ≡ false → (g : Guard p s c t f) → g.man.kind ≢ Pawn
      → (g.man.kind ≡ King → is_guarded p s (other_color c) t ≡ false) → ⊥
  goes_there c t f small small' free g piece unguarded =
      let none = leap_clear c g.man.kind f t small small' g.aims g.near in
      let A : Color → Type 0 = λ x. aims_at x g.man.kind f t ≡ true in
      let G : Color → Type 0 = λ x. is_guarded p s (other_color x) t ≡ false in
      let goes = rules.pieces_move f g.man g.man.kind f t (own_entry f t g.man g.found small small') piece (subst A (sym g.color) g.aims) (open_near p s f t none)
      (λ king. subst G (sym g.color) (unguarded king)) in
      both_ways (s.loose f) (fixed_stands p s f g.fixed).1 (goes.leaves free refl)

  -- a pawn that guards a square where an enemy may stand captures there, and so is not fixed
  captures_there : (c : Color) (t f : ℕ) → f < 64 → t < 64 → is_fixed p s t ≡ false → (g : Guard p s c t f) → g.man.kind ≡ Pawn → EnemyReaches p s c t → ⊥
  captures_there c t f small small' free g pawn enemy =
      let K : Kind → Type 0 = λ k. Entry p s f g.man k f t in
      let A : Kind → Type 0 = λ k. aims_at c k f t ≡ true in
      let C : Color → Type 0 = λ x. aims_at x Pawn f t ≡ true in
      let E : Color → Type 0 = λ x. EnemyReaches p s x t in
      let entry = subst K pawn (own_entry f t g.man g.found small small') in
      let rule = rules.pawns_capture f g.man f t entry (subst C (sym g.color) (subst A pawn g.aims)) in
      both_ways (s.loose f) (fixed_stands p s f g.fixed).1 ((rule.captures free (subst E (sym g.color) enemy)).leaves refl)

  -- where an enemy may stand, all guards are kings
  pub is_king : (c : Color) (t f : ℕ) → f < 64 → t < 64 → is_fixed p s t ≡ false → EnemyReaches p s c t → (g : Guard p s c t f) → g.man.kind ≡ King
  is_king c t f small small' free enemy g =
      elim (class_of g.man.kind) [
        | APawn e ↦ absurd (captures_there c t f small small' free g e enemy)
        | AKing e ↦ e
        | APiece a b ↦ absurd (goes_there c t f small small' free g a (λ king. absurd (b king)))
      ]

  -- a king on its home guards what is next to it, and no man of its side guards a square that is not, onto which its pawns do
  -- not capture and on which nothing is fixed
  pub own_unguarded : (c : Color) (t : ℕ) → home_of c < 64 → t < 64 → is_fixed p s t ≡ false → is_man c King (man_at p.men (home_of c)) ≡ true
      → list_all (takes_no_pawn c t) squares ≡ true → (steps_apart (home_of c) t == 1) ≡ false → is_guarded p s c t ≡ false
  own_unguarded c t home small free king no_pawn far =
      false_from_ne_true (is_guarded p s c t) (λ h.
      let from = some_guard p s c t h in
      let f = from.0 in
      let g = from.2 in
      let A : Kind → Type 0 = λ k. aims_at c k f t ≡ true in
      elim (class_of g.man.kind) [
        | APawn e ↦ both_ways (aims_at c Pawn f t) (not-true (aims_at c Pawn f t) (all_squares_at (takes_no_pawn c t) f no_pawn from.1)) (subst A e g.aims)
        | AKing e ↦ (
            let here = is_man_from (man_at p.men f) g.man c King g.found g.color e in
            let there = king_place p.men c f (valid.kings c) (rw valid.size from.1) here in
            let at_home = king_place p.men c (home_of c) (valid.kings c) (rw valid.size home) king in
            let one : f ≡ home_of c = sym there ∙ at_home in
            let step : (steps_apart f t == 1) ≡ true = king_aims c f t (subst A e g.aims) in
            both_ways (steps_apart (home_of c) t == 1) far (rw one at step))
        | APiece a b ↦ goes_there c t f from.1 small free g a (λ king. absurd (b king))
      ])

  -- no enemy king stands next to a king
  pub kings_apart : (c : Color) (f : ℕ) → home_of c < 64 → f < 64 → is_man c King (man_at p.men (home_of c)) ≡ true → is_man (other_color c) King (man_at p.men f) ≡ true
      → (steps_apart f (home_of c) == 1) ≡ true → ⊥
  kings_apart c f home small king enemy step =
      let S : Color → Type 0 = λ x. in_check p.men x ≡ false in
      let safe : in_check p.men (other_color p.side) ≡ false = not-true (in_check p.men (other_color p.side)) valid.opponent in
      let own = king_place p.men c (home_of c) (valid.kings c) (rw valid.size home) king in
      let foe = king_place p.men (other_color c) f (valid.kings (other_color c)) (rw valid.size small) enemy in
      elim (either_color c p.side) [
        | inl e ↦ (
            let K : Color → Type 0 = λ x. is_man x King (man_at p.men (home_of c)) ≡ true in
            kings_far p (other_color c) (home_of c) f home small (sym foe) (subst S (ap other_color (sym e)) safe) (subst K (sym (other_other c)) king) (near f (home_of c) small home step).back)
        | inr e ↦ kings_far p c f (home_of c) small home (sym own) (subst S (sym e) safe) enemy step
      ]
