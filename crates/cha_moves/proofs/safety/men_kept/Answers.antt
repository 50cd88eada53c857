use Rattle.cha_moves.proofs.Made.{Step, may_gives}
use Rattle.cha_moves.proofs.Kept.{kings_kept}
use Rattle.cha_moves.proofs.safety.men_kept.Goals as goal

pub returns-clause-kings : goal.returns-clause-kings
returns-clause-kings c =
    let q = c.args.position.now in
    let mover = may_gives q c.args.m c.requires in
    let step : Step q c.args.m mover.0 = record { valid = c.known-2.ensures; from = c.known.ensures.from; to = c.known.ensures.to; may = mover.1 } in
    λ d. rw c.men_made.ensures (kings_kept q c.args.m mover.0 step d)
