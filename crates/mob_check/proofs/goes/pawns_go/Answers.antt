use Rattle.cha_board.specs.SquareSets.{set_common, set_minus}
use Rattle.cha_board.proofs.Pulls.{width_of}
use Rattle.mob_check.proofs.Going.{pawns_enter}
use Rattle.mob_check.proofs.goes.pawns_go.Goals as goal

pub returns : goal.returns
unfolding set_common set_minus
returns c =
    pawns_enter c.args.ground.now c.args.side c.args.from c.minus-steps.result c.common-captures.result c.joined.result
    (width_of c.args.from c.bits-number.result c.bits-number.ensures.shown)
    (record {
      first = c.ahead.result;
      first_is = c.ahead.ensures;
      steps_is = c.minus-steps.ensures;
      spread = c.spread.result;
      spread_is = c.spread.ensures;
      prey = c.capturable.result;
      prey_is = c.capturable.ensures;
      captures_is = c.common-captures.ensures;
      set_is = c.joined.ensures;
    })
