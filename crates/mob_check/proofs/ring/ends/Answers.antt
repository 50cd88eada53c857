use Rattle.std.proofs.Common.{sym, ap, ◌∙◌}
use Rattle.cha_board.specs.SquareSets.{set_with}
use Rattle.mob_check.proofs.Enders.{ends_of_pawn, ends_of_piece}
use Rattle.mob_check.proofs.ring.ends.Goals as goal

pub returns-then-is : goal.returns-then-is
returns-then-is c = c.single.ensures ∙ ends_of_pawn c.args.kind c.args.king c.args.from (sym c.is.ensures ∙ c.if-is.true)

pub returns-else-is : goal.returns-else-is
returns-else-is c =
    c.with.ensures ∙ ap (λ set. set_with set c.args.from) c.squares_between.ensures
    ∙ ends_of_piece c.args.kind c.args.king c.args.from (sym c.is.ensures ∙ c.if-is.false)
