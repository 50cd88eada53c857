use Rattle.std.proofs.Common.{◌∙◌}
use Rattle.cha_board.proofs.Striking.{attacked_by_kinds}
use Rattle.cha_board.proofs.placement.Men.attacks.Goals as goal

pub returns : goal.returns
returns c = c.strikes_somehow.ensures ∙ attacked_by_kinds c.args.self.now c.args.by c.args.at
