use Rattle.std.proofs.Common.{◌<◌, length, sym, ◌∙◌, arith}
use Rattle.std.proofs.lemmas.Bool.Decides.{nat_tests}
use Rattle.pgn_games.proofs.Speaking.{begins_so}
use Rattle.pgn_games.proofs.tag_pairs.speaks_of.Goals as goal

pub returns-then-reads : goal.returns-then-reads
returns-then-reads c =
    let some : 0 < length c.loop-rest.rest.now = grind (arith, nat_tests, c.is_empty.ensures, c.loop-rest-test.true) in
    begins_so c.args.wanted.now c.loop-rest.rest.now _ c.min-size.result some c.min-size.ensures c.split_at.ensures.front (sym c.reads.ensures ∙ c.if-reads.true) ∙ c.loop-rest.invariant
