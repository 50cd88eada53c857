use Rattle.std.proofs.Common.{arith}
use Rattle.cha_outcome.proofs.PlayedThrough.{last_of, played_through}
use Rattle.cha_outcome.proofs.items.played_out.Goals as goal

pub returns-in-Ok-clause-asked : goal.returns-in-Ok-clause-asked
returns-in-Ok-clause-asked c = λ limits draws. (
    let count = c.in-Ok.ensures.count in
    let last = last_of c.in-Ok.positions c.items.result.now c.items-in-Ok.result.now c.index-items-items.result c.items.ensures c.items-in-Ok.ensures (omega (arith, count)) c.index-items-items.is in
    played_through _ c.play.result c.args.game.now.start c.args.game.now.words c.play.ensures.value c.in-Ok.is c.known.ensures c.requires.few count last)
