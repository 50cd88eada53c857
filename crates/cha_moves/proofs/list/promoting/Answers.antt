use Rattle.std.proofs.Common.{◌==◌, sym, ap, ◌∙◌}
use Rattle.cha_board.specs.declared.men.Kind.TheVariants.{Pawn}
use Rattle.cha_board.specs.Squares.{rank_of}
use Rattle.cha_board.specs.SquareSets.{set_of}
use Rattle.cha_moves.specs.Ways.{is_promoted}
use Rattle.cha_board.proofs.Identity.{same_kind_equal}
use Rattle.cha_moves.proofs.GoingLegally.{none_promoted}
use Rattle.cha_moves.proofs.list.promoting.Goals as goal

pub returns-then-not-is : goal.returns-then-not-is
returns-then-not-is c = c.empty.ensures ∙ none_promoted c.args.side c.args.kind (sym c.is.ensures ∙ c.if-not-is.true)

pub returns : goal.returns
returns c =
    let pawn = same_kind_equal c.args.kind Pawn (sym c.is.ensures ∙ c.if-not-is.false) in
    c.of_rank.ensures ∙ ap (λ r. set_of (λ t. rank_of t == r)) c.promotion_rank.ensures ∙ ap (λ k. set_of (is_promoted c.args.side k)) (sym pawn)
