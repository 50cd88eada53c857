use Rattle.std.proofs.Common.{◌∙◌}
use Rattle.cha_board.proofs.Tidiness.{kinds_of_side}
use Rattle.cha_board.proofs.placement.Men.of_kind.Goals as goal

pub returns : goal.returns
returns c = c.common.ensures ∙ rw (c.of_side.ensures, c.all_of_kind.ensures) (kinds_of_side c.args.self.now c.args.color c.args.kind)
