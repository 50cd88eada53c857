use Rattle.std.proofs.Common.{◌∙◌}
use Rattle.mob_check.specs.Grounds.{ground_of}
use Rattle.mob_check.proofs.Grounds.{fixed_are}
use Rattle.mob_check.proofs.ground.Ground.of.Goals as goal

pub returns : goal.returns
unfolding ground_of
returns c = λ s loose white black.
    let fixed = c.minus-fixed.ensures ∙ fixed_are c.args.position.now s c.args.loose c.occupied.result loose c.occupied.ensures in
    λ i. record { fixed = fixed i; white = c.side_ground.ensures s fixed white i; black = c.side_ground-2.ensures s fixed black i }
