use Rattle.std.proofs.Common.{◌∙◌}
use Rattle.cha_board.proofs.Tidiness.{either_side}
use Rattle.cha_board.proofs.placement.Men.occupied.Goals as goal

pub returns : goal.returns
returns c = c.joined.ensures ∙ rw (c.of_side.ensures, c.of_side-2.ensures) (either_side c.args.self.now)
