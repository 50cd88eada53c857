-- Each legal move keeps the facts.
use Rattle.std.proofs.Common.{◌≡◌, ℕ, ◌<◌, Option, true, false, not, refl, inl, inr}
use Rattle.std.proofs.lemmas.Bool.{and_parts, and_left, not-true, cases_Bool}
use Rattle.cha_board.specs.declared.men.Kind.TheVariants.{Pawn, King}
use Rattle.cha_board.specs.declared.men.Man.{Man}
use Rattle.cha_board.specs.declared.castling.Wing.{Wing}
use Rattle.cha_board.specs.Men.{same_kind, is_man}
use Rattle.cha_board.specs.Board.{Board, man_at, in_check, IsValid}
use Rattle.cha_moves.specs.Step.{Move}
use Rattle.cha_moves.specs.Moves.{is_pseudo_legal, castles, is_en_passant, king_castles, captures_en_passant, men_after, after, is_legal_in}
use Rattle.cha_board.proofs.Identity.{same_kind_equal, one_kind}
use Rattle.cha_moves.proofs.Made.{may_gives, Step, makes, Plainly, Passing, OnWing}
use Rattle.mob_sets.specs.Mobility.{Sets}
use Rattle.mob_law.specs.Closed.{IsClosed}
use Rattle.mob_law.proofs.CarriedFacts.{Facts, FactsHold}
use Rattle.mob_law.proofs.Carry.{carried}
use Rattle.mob_law.proofs.OneMan.{back, Lands, one_moved, one_carries}
use Rattle.mob_law.proofs.PieceMoves.{piece_lands}
use Rattle.mob_law.proofs.Pawns.{pawn_lands}
use Rattle.mob_law.proofs.Castles.{castling_held}

-- a capture en passant is no castling, since a pawn is no king
no_castling : (q : Board) (o : Option Man) (s t : ℕ) → captures_en_passant q o s t ≡ true → (w : Wing) → king_castles q w o s t ≡ false
no_castling q o s t passes w =
    let pawn = (and_parts (is_man q.side Pawn o) (is_en_passant q s t) passes).0 in
    let no_king = one_kind q.side q.side Pawn King o refl pawn in
    and_left (is_man q.side King o) (castles q w s t) no_king

-- A legal move at a position where the facts hold:
module _ (p : Board) (s : Sets) (q : Board) (origin : ℕ → ℕ) (m : Move) (man : Man) (closed : IsClosed p s) (facts : Facts p s q origin) (step : Step q m man) (safe : in_check (men_after q m) q.side ≡ false) where
  -- a move of one man, of a pawn or of another man, lands as the facts need it
  one_lands : ((w : Wing) → king_castles q w (man_at q.men m.from) m.from m.to ≡ false) → Lands p s q origin m man
  one_lands none =
      elim (cases_Bool (same_kind man.kind Pawn)) [
        | inl h ↦ pawn_lands p s q origin m man closed facts step (same_kind_equal man.kind Pawn h)
        | inr h ↦ piece_lands p s q origin m man closed facts step safe h none
      ]

  -- a move of one man keeps the facts
  one_held : ((w : Wing) → king_castles q w (man_at q.men m.from) m.from m.to ≡ false) → FactsHold p s (after q m)
  one_held none =
      let lands = one_lands none in
      let moved = one_moved p s q m man step none lands.victim in
      ((λ u. origin (back m.from m.to u)), carried p s q origin (after q m) (back m.from m.to) facts (one_carries p s q origin m man closed facts step lands moved))

  -- and so does each kind of move: of one man, en passant, and castling
  held_after : FactsHold p s (after q m)
  held_after =
      elim (makes q m) [
        | Plainly a none e ↦ one_held none
        | Passing passes e ↦ one_held (no_castling q (man_at q.men m.from) m.from m.to passes)
        | OnWing w castled e ↦ castling_held p s q origin m man closed facts step w castled e
      ]

-- so each legal move keeps the facts
pub facts_kept : (p : Board) (s : Sets) (q : Board) (m : Move) → IsClosed p s → IsValid q → m.from < 64 → m.to < 64 → is_legal_in q m ≡ true → FactsHold p s q → FactsHold p s (after q m)
unfolding is_legal_in
facts_kept p s q m closed valid from to legal held =
    let both = and_parts (is_pseudo_legal q m) (not (in_check (men_after q m) q.side)) legal in
    let mover = may_gives q m both.0 in
    held_after p s q held.0 m mover.0 closed held.1 (record { valid = valid; from = from; to = to; may = mover.1 }) (not-true (in_check (men_after q m) q.side) both.1)
