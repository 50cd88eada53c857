use Rattle.std.proofs.Common.{ap, arith, ◌∙◌}
use Rattle.pgn_games.specs.Cutting.{open_at, place_after}
use Rattle.pgn_games.proofs.Cuts.{opens_after, led_on, led_end}
use Rattle.pgn_games.proofs.token_turns.led_to.Goals as goal

pub turned-requires : goal.turned-requires
turned-requires c = omega (arith, c.loop-placed.invariant.low, c.loop-placed-test.true, c.requires)

pub loop-placed-preserved : goal.loop-placed-preserved
loop-placed-preserved c = record {
  low = omega (arith, c.loop-placed.invariant.low, opens_after c.loop-placed.stand c.placed-item.result.token, ap (λ p. open_at p) (c.turned_to-stand.ensures ∙ ap place_after c.turned.ensures));
  rest = led_on c.args.tokens.now c.loop-placed.placed-index c.placed-item.result c.args.place c.loop-placed.stand _ _ c.loop-placed-test.true c.placed-item.is c.turned.ensures c.turned_to-stand.ensures c.loop-placed.invariant.rest;
}

pub returns : goal.returns
returns c = led_end c.args.tokens.now c.loop-placed.placed-index c.args.place c.loop-placed.stand (omega (arith, c.loop-placed-test.false)) c.loop-placed.invariant.rest
