use Rattle.std.proofs.Common.{◌+◌, ◌-◌, arith}
use Rattle.random_games.specs.Made.{made}
use Rattle.random_games.proofs.Numbered.{no_game_yet, one_game_more, all_games}
use Rattle.random_games.proofs.texts.games_text.Goals as goal

pub loop-i-init : goal.loop-i-init
loop-i-init c = no_game_yet c.args.seed c.args.count (c.args.count - 0) c.seed_from_u64-generator.result c.new-text.result (omega arith) c.new-text.ensures c.seed_from_u64-generator.ensures

pub loop-i-preserved : goal.loop-i-preserved
loop-i-preserved c =
    one_game_more c.loop-i.text c.put_game.new.text (made c.args.seed c.args.count) (c.loop-i.i + 1) (c.args.count - c.loop-i.i) (c.args.count - (c.loop-i.i + 1)) c.loop-i.generator c.put_game.new.generator
    (omega (arith, c.loop-i-test.true)) c.in_ok-put_game.ensures.text c.in_ok-put_game.ensures.generator c.loop-i.invariant

pub returns : goal.returns
returns c =
    all_games c.loop-i.text (made c.args.seed c.args.count) (c.loop-i.i + 1) (c.args.count - c.loop-i.i) c.loop-i.generator (omega (arith, c.loop-i-test.false)) c.loop-i.invariant
