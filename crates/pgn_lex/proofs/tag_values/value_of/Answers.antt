use Rattle.std.proofs.Common.{arith, ◌++◌}
use Rattle.pgn_lex.proofs.Keeping.{goes_on, ends}
use Rattle.pgn_lex.proofs.tag_values.value_of.Goals as goal

pub loop-at-preserved : goal.loop-at-preserved
loop-at-preserved c =
    let i = c.loop-at.invariant in
    let s = rw c.in-On.is at c.in_ok-value_step.ensures in
    (i.0 ++ s.0, s.2 i.0 i.1, goes_on c.args.bytes.now i.0 s.0 c.loop-at.at c.loop-at.escaped c.in-On.after c.loop-at-test.true s.1 i.2)

pub returns : goal.returns
returns c = let i = c.loop-at.invariant in ends c.args.bytes.now i.0 c.loop-at.at c.loop-at.escaped (omega arith) i.2
