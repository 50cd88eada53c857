use Rattle.std.proofs.Common.{◌≡◌, ◌==◌, refl, sym, ap, ◌∙◌}
use Rattle.cha_board.specs.declared.men.Kind.TheVariants.{Pawn, King}
use Rattle.cha_board.specs.Squares.{rank_of, last_rank}
use Rattle.cha_board.specs.declared.castling.Wing.TheVariants.{Kingside, Queenside}
use Rattle.cha_board.specs.Board.{goal_of}
use Rattle.cha_board.specs.SquareSets.{set_of}
use Rattle.cha_moves.proofs.SpecialChecks.{special_last, special_target, special_castling, special_none, of_kind}
use Rattle.cha_moves.proofs.checks.special_checks.Goals as goal

pub returns-in-None : goal.returns-in-None
returns-in-None c =
    let q = c.args.position.now in
    let last : c.of_rank-last.result ≡ set_of (λ t. rank_of t == last_rank q.side) = c.of_rank-last.ensures ∙ rw (c.promotion_rank.ensures, c.side-side.ensures) refl in
    of_kind q c.args.kind Pawn c.of_rank-last.result c.in-Pawn.is (special_last q c.of_rank-last.result (sym c.target.ensures ∙ c.in-None.is) last)

pub returns-in-Some : goal.returns-in-Some
returns-in-Some c =
    let q = c.args.position.now in
    let last : c.of_rank-last.result ≡ set_of (λ t. rank_of t == last_rank q.side) = c.of_rank-last.ensures ∙ rw (c.promotion_rank.ensures, c.side-side.ensures) refl in
    of_kind q c.args.kind Pawn c.with.result c.in-Pawn.is (special_target q c.of_rank-last.result c.with.result c.in-Some.target (sym c.target.ensures ∙ c.in-Some.is) last c.with.ensures)

pub returns-in-King : goal.returns-in-King
returns-in-King c =
    let q = c.args.position.now in
    let left = c.goal.ensures ∙ ap (λ side. goal_of side Queenside) c.side-side.ensures in
    let right = c.goal-in-King.ensures ∙ ap (λ side. goal_of side Kingside) c.side-side.ensures in
    of_kind q c.args.kind King c.with-in-King.result c.in-King.is
    (special_castling q c.single.result c.with-in-King.result c.goal.result c.goal-in-King.result left right c.single.ensures c.with-in-King.ensures)

pub returns-in_default : goal.returns-in_default
returns-in_default c = c.empty.ensures ∙ special_none c.args.position.now c.args.kind c.in_default.not-Pawn c.in_default.not-King
