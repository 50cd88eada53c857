-- The bishops on squares of a colour.
use Rattle.std.proofs.Common.{◌∙◌}
use Rattle.cha_board.specs.declared.men.Kind.TheVariants.{Bishop}
use Rattle.cha_board.specs.Men.{same_color, is_man}
use Rattle.cha_board.specs.Squares.{color_of_square}
use Rattle.cha_board.specs.Board.{man_at}
use Rattle.cha_moves.proofs.Goings.{common_of}
use Rattle.mob_small.proofs.one_color.bishops_on.Goals as goal

pub returns : goal.returns
returns c =
    c.common.ensures ∙ rw (c.men.ensures, c.of_color.ensures) (common_of (λ u. is_man c.args.of Bishop (man_at c.args.position.now.men u)) (λ u. same_color (color_of_square u) c.args.square))
