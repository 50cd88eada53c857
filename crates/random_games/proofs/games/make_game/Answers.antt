use Rattle.std.proofs.Common.{◌≡◌, ◌+◌, ◌-◌, sym, ◌∙◌, arith}
use Rattle.rand_pcg.specs.Pcg.{pcg32}
use Rattle.random_games.specs.Games.{made_game}
use Rattle.random_games.proofs.Plies.{is_opening, begins, stops, is_over, moves_on, said_none, said_some}
use Rattle.random_games.proofs.games.make_game.Goals as goal

pub loop-ply-init : goal.loop-ply-init
loop-ply-init c =
    let e = c.start-last.ensures in
    begins c.start-last.result c.args.generator.now c.new-words.result c.new-words.ensures (is_opening c.start-last.result e.men e.side e.rights e.target)

pub returns-in-None-clause-words : goal.returns-in-None-clause-words
returns-in-None-clause-words c =
    (stops (made_game c.args.generator.now) c.loop-ply.words (100 - c.loop-ply._ply) (99 - c.loop-ply._ply) c.loop-ply.last c.loop-ply.generator (omega (arith, c.loop-ply-test.true)) (sym c.in-None.is ∙ c.in_ok-draw.ensures.chosen) c.loop-ply.invariant).words

pub returns-in-None-clause-last : goal.returns-in-None-clause-last
returns-in-None-clause-last c =
    (stops (made_game c.args.generator.now) c.loop-ply.words (100 - c.loop-ply._ply) (99 - c.loop-ply._ply) c.loop-ply.last c.loop-ply.generator (omega (arith, c.loop-ply-test.true)) (sym c.in-None.is ∙ c.in_ok-draw.ensures.chosen) c.loop-ply.invariant).last

pub returns-in-None-clause-generator : goal.returns-in-None-clause-generator
returns-in-None-clause-generator c =
    said_none c.in_ok-draw.field-0 (c.draw.new.generator ≡ c.loop-ply.generator) (c.draw.new.generator ≡ (pcg32 c.loop-ply.generator).1) c.in_ok-draw.ensures.generator c.in-None.is
    ∙ (stops (made_game c.args.generator.now) c.loop-ply.words (100 - c.loop-ply._ply) (99 - c.loop-ply._ply) c.loop-ply.last c.loop-ply.generator (omega (arith, c.loop-ply-test.true)) (sym c.in-None.is ∙ c.in_ok-draw.ensures.chosen) c.loop-ply.invariant).generator

pub loop-ply-preserved : goal.loop-ply-preserved
loop-ply-preserved c =
    moves_on (made_game c.args.generator.now) c.loop-ply.words c.put_spaced.new.text (100 - c.loop-ply._ply) (100 - (c.loop-ply._ply + 1)) c.loop-ply.last c.after-last.result c.loop-ply.generator c.draw.new.generator c.in-Some.m
    (omega (arith, c.loop-ply-test.true)) (sym c.in-Some.is ∙ c.in_ok-draw.ensures.chosen) c.in_ok-put_spaced-in-Some.ensures c.after-last.ensures
    (said_some c.in_ok-draw.field-0 (c.draw.new.generator ≡ c.loop-ply.generator) (c.draw.new.generator ≡ (pcg32 c.loop-ply.generator).1) c.in-Some.m c.in_ok-draw.ensures.generator c.in-Some.is)
    c.loop-ply.invariant

pub returns-clause-words : goal.returns-clause-words
returns-clause-words c = (is_over (made_game c.args.generator.now) c.loop-ply.words (100 - c.loop-ply._ply) c.loop-ply.last c.loop-ply.generator (omega (arith, c.loop-ply-test.false)) c.loop-ply.invariant).words

pub returns-clause-last : goal.returns-clause-last
returns-clause-last c = (is_over (made_game c.args.generator.now) c.loop-ply.words (100 - c.loop-ply._ply) c.loop-ply.last c.loop-ply.generator (omega (arith, c.loop-ply-test.false)) c.loop-ply.invariant).last

pub returns-clause-generator : goal.returns-clause-generator
returns-clause-generator c = (is_over (made_game c.args.generator.now) c.loop-ply.words (100 - c.loop-ply._ply) c.loop-ply.last c.loop-ply.generator (omega (arith, c.loop-ply-test.false)) c.loop-ply.invariant).generator
