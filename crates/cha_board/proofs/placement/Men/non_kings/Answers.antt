use Rattle.std.proofs.Common.{◌∙◌}
use Rattle.cha_board.proofs.Tidiness.{others_of_side}
use Rattle.cha_board.proofs.placement.Men.non_kings.Goals as goal

pub returns : goal.returns
returns c = c.minus.ensures ∙ rw (c.of_side.ensures, c.all_of_kind.ensures) (others_of_side c.args.self.now c.args.color)
