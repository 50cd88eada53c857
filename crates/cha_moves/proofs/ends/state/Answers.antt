-- What the two tests say of a position is its standing.
use Rattle.std.proofs.Common.{rules, sym, ap, ◌∙◌}
use Rattle.cha_board.specs.Men.{other_color}
use Rattle.cha_moves.specs.declared.ends.Standing.TheVariants.{Mate, Stalemate, Running}
use Rattle.cha_board.proofs.Identity.{other_other}
use Rattle.cha_moves.proofs.Mated.{standing_is, stalemated}
use Rattle.cha_moves.proofs.ends.state.Goals as goal

pub returns-then-is_mate-clause-value : goal.returns-then-is_mate-clause-value
returns-then-is_mate-clause-value c = standing_is c.args.position.now (Mate c.other-winner.result) (search (c.if-is_mate, rules))

pub returns-then-any_legal-clause-value : goal.returns-then-any_legal-clause-value
returns-then-any_legal-clause-value c = standing_is c.args.position.now Running (search (c.if-any_legal, rules))

pub returns-else-any_legal-clause-value : goal.returns-else-any_legal-clause-value
returns-else-any_legal-clause-value c =
    standing_is c.args.position.now Stalemate
    (stalemated c.args.position.now c.other-winner.result (sym (other_other c.args.position.now.side) ∙ ap other_color (ap other_color (sym c.side.ensures) ∙ sym c.other-winner.ensures)) (sym c.is_mate.ensures.value ∙ c.if-is_mate.false) (search (c.if-any_legal, rules)))
