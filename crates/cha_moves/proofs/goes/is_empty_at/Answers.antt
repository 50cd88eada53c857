use Rattle.std.proofs.Common.{◌<◌, not, ap, ◌∙◌, arith}
use Rattle.cha_moves.proofs.Goings.{empty_seen}
use Rattle.cha_moves.proofs.goes.is_empty_at.Goals as goal

pub returns : goal.returns
returns c =
    let small : c.args.at < 64 = omega (arith, c.index-at.ensures.value, c.index-at.ensures.bound) in
    ap not c.has.ensures ∙ rw c.occupied.ensures (empty_seen c.args.position.now.men c.args.at small)
