-- No pawn stands on the board.
use Rattle.std.proofs.Common.{List, Option, ap, ◌∙◌}
use Rattle.cha_board.specs.declared.men.Kind.TheVariants.{Pawn}
use Rattle.cha_board.specs.declared.men.Man.{Man}
use Rattle.cha_board.specs.Men.{is_kind}
use Rattle.cha_board.specs.Board.{man_at}
use Rattle.cha_board.specs.SquareSets.{set_of, has_no_square}
use Rattle.mob_small.proofs.Exactness.{pawnless}
use Rattle.mob_small.proofs.verdict.has_no_pawn.Goals as goal

pub returns : goal.returns
returns c =
    pawnless c.args.position.now.men c.known.ensures.size c.is_empty.result
    (c.is_empty.ensures ∙ ap (λ x. has_no_square x) c.all_of_kind.ensures ∙ ap (λ (men : List (Option Man)). has_no_square (set_of (λ s. is_kind Pawn (man_at men s)))) c.placement.ensures.value)
