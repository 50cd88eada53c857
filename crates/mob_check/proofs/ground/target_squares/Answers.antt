use Rattle.std.proofs.Common.{sym, ap, ◌∙◌}
use Rattle.cha_board.specs.Men.{same_color}
use Rattle.mob_check.proofs.Grounds.{no_target, target_of_other, target_of_own}
use Rattle.mob_check.proofs.ground.target_squares.Goals as goal

pub returns-in-None : goal.returns-in-None
returns-in-None c = c.empty.ensures ∙ no_target c.args.position.now c.args.side (sym c.target.ensures ∙ c.in-None.is)

pub returns-then-is : goal.returns-then-is
returns-then-is c =
    c.single.ensures
    ∙ target_of_own c.args.position.now c.args.side c.in-Some.target (sym c.target.ensures ∙ c.in-Some.is) (ap (λ x. same_color c.args.side x) (sym c.side.ensures) ∙ sym c.is.ensures ∙ c.if-is.true)

pub returns-else-is : goal.returns-else-is
returns-else-is c =
    c.empty-else-is.ensures ∙ target_of_other c.args.position.now c.args.side (ap (λ x. same_color c.args.side x) (sym c.side.ensures) ∙ sym c.is.ensures ∙ c.if-is.false)
