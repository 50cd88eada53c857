use Rattle.std.proofs.Common.{◌&&◌, ◌∙◌, sym, ap, ℕ}
use Rattle.cha_board.specs.declared.men.Color.{Color}
use Rattle.cha_board.specs.Shifts.{is_ahead}
use Rattle.cha_board.specs.SquareSets.{set_of, has_square, set_common}
use Rattle.mob_check.specs.declared.ground.SideGround.{SideGround}
use Rattle.mob_check.proofs.Freeing.{passed_other, passed_pawn}
use Rattle.mob_check.proofs.frees.passed.Goals as goal

pub returns-then-is : goal.returns-then-is
unfolding set_common
returns-then-is c =
    passed_pawn c.args.ground.now c.args.side c.args.kind c.args.row c.spread.result c.common-onto.result c.ahead.result (sym c.is.ensures ∙ c.if-is.true) c.spread.ensures
    (c.common-onto.ensures ∙ ap (λ (x : SideGround). set_of (λ (s : ℕ). has_square x.target s && has_square c.spread.result s)) c.side.ensures)
    (c.ahead.ensures ∙ ap (λ (x : Color). set_of (is_ahead x c.common-onto.result)) c.other.ensures)

pub returns-else-is : goal.returns-else-is
returns-else-is c = c.empty.ensures ∙ passed_other c.args.ground.now c.args.side c.args.kind c.args.row (sym c.is.ensures ∙ c.if-is.false)
