use Rattle.cha_moves.proofs.Listed.{told_listed}
use Rattle.cha_moves.proofs.list.is_legal.Goals as goal

pub returns : goal.returns
returns c = told_listed c.args.position.now c.args.m c.is_allowed.result c.known.ensures.from c.known.ensures.to c.is_allowed.ensures
