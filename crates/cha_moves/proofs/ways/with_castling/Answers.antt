use Rattle.std.proofs.Common.{◌∙◌}
use Rattle.cha_moves.proofs.Pushes.{with_castling_is}
use Rattle.cha_moves.proofs.ways.with_castling.Goals as goal

pub returns : goal.returns
returns c = c.with_where.ensures ∙ rw (c.castles.ensures, c.goal-goal.ensures, c.side.ensures) (with_castling_is c.args.position.now c.args.wing c.args.s c.args.set)
