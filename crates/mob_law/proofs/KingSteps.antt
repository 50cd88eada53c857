-- A king's step of one square.
use Rattle.std.proofs.Common.{◌≡◌, true, ◌&&◌, ◌||◌, ◌==◌, Option, Some, None, refl, sym, subst}
use Rattle.std.proofs.lemmas.Bool.{and_parts, and_from, or_left, both_ways}
use Rattle.cha_board.specs.declared.men.Kind.{Kind}
use Rattle.cha_board.specs.declared.men.Kind.TheVariants.{Pawn, King}
use Rattle.cha_board.specs.declared.men.Man.{Man}
use Rattle.cha_board.specs.declared.castling.Wing.TheVariants.{Kingside, Queenside}
use Rattle.cha_board.specs.Men.{same_color, is_man}
use Rattle.cha_board.specs.Squares.{steps_apart, aims_at}
use Rattle.cha_board.specs.Board.{Board, man_at}
use Rattle.cha_moves.specs.Step.{Move}
use Rattle.cha_moves.specs.Moves.{goes, castles, promotes_well, may_enter, is_pseudo_legal_as, is_en_passant, men_after}
use Rattle.cha_board.proofs.Identity.{same_color_self, one_kind}
use Rattle.cha_moves.proofs.Kept.{castling_tests}
use Rattle.cha_moves.proofs.Made.{men_moved, makes, Plainly, Passing, OnWing}
use Rattle.mob_law.proofs.Geometry.{king_aims_from, two_far}

-- a king may step to a square next to it that it may enter
pub king_may : (q : Board) (m : Move) (man : Man) (o : Option Man) → o ≡ Some man → man.color ≡ q.side → man.kind ≡ King → m.promotion ≡ None → may_enter q.side (man_at q.men m.to) ≡ true → (steps_apart m.from m.to == 1) ≡ true
    → is_pseudo_legal_as q m o ≡ true
unfolding is_pseudo_legal_as goes promotes_well
king_may q m man o found color kind plain enter step =
    let P : Option Man → Type 0 = λ x. is_pseudo_legal_as q m x ≡ true in
    let K : Kind → Type 0 = λ k. goes q k m.from m.to ≡ true in
    let way : goes q man.kind m.from m.to ≡ true = subst K (sym kind) (or_left (aims_at q.side King m.from m.to || castles q Kingside m.from m.to) (castles q Queenside m.from m.to) (or_left (aims_at q.side King m.from m.to) (castles q Kingside m.from m.to) (king_aims_from q.side m.from m.to step))) in
    let well : promotes_well q.side man.kind m.to m.promotion ≡ true = rw (kind, plain) refl in
    let own : same_color man.color q.side ≡ true = rw color (same_color_self q.side) in
    subst P (sym found) (and_from (same_color man.color q.side && may_enter q.side (man_at q.men m.to) && goes q man.kind m.from m.to) (promotes_well q.side man.kind m.to m.promotion)
    (and_from (same_color man.color q.side && may_enter q.side (man_at q.men m.to)) (goes q man.kind m.from m.to)
    (and_from (same_color man.color q.side) (may_enter q.side (man_at q.men m.to)) own enter) way) well)

-- a king's step of one square moves one man
pub step_plain : (q : Board) (m : Move) → is_man q.side King (man_at q.men m.from) ≡ true → (steps_apart m.from m.to == 1) ≡ true → men_after q m ≡ men_moved q m
step_plain q m king step =
    elim (makes q m) [
      | Plainly a b e ↦ e
      | Passing t e ↦ (
          let pawn = (and_parts (is_man q.side Pawn (man_at q.men m.from)) (is_en_passant q m.from m.to) t).0 in
          absurd (both_ways (is_man q.side King (man_at q.men m.from)) (one_kind q.side q.side Pawn King (man_at q.men m.from) refl pawn) king))
      | OnWing w t e ↦ (
          let tests = castling_tests q w m.from m.to (and_parts (is_man q.side King (man_at q.men m.from)) (castles q w m.from m.to) t).1 in
          let from = tests.from_home in
          let to = tests.to_goal in
          absurd (both_ways (steps_apart m.from m.to == 1) (rw (from, to) (two_far q.side w)) step))
    ]
