use Rattle.std.proofs.Common.{◌<◌, length, sym, ◌∙◌}
use Rattle.pgn_games.proofs.Moved.{moved, moved_few, moved_on, moved_last, stays_behind, some_there}
use Rattle.pgn_games.proofs.gathering.gather.Goals as goal

pub loop-behind-preserved : goal.loop-behind-preserved
loop-behind-preserved c =
    let some : 0 < length c.loop-behind.behind.items = some_there _ _ c.is_empty.result c.is_empty.ensures c.loop-behind-test.true c.as_slice.ensures.value in
    let push = c.in_ok-take-in-Stays.ensures.ok in
    record {
      same = moved _ _ _ _ c.remove-token.result c.loop-behind.invariant.scanned some c.index.ensures _ _ c.remove-token.ensures.value push c.remove-token.ensures.items ∙ c.loop-behind.invariant.same;
      few = moved_few _ _ _ _ c.remove-token.result c.loop-behind.invariant.scanned some c.index.ensures _ _ c.remove-token.ensures.value push c.remove-token.ensures.items c.loop-behind.invariant.few;
      scanned = moved_on _ _ _ _ c.remove-token.result c.loop-behind.invariant.scanned some c.index.ensures _ _ c.remove-token.ensures.value push (sym c.turned.ensures ∙ c.in-Stays.is);
    }

pub returns-in-Ends-clause-whole : goal.returns-in-Ends-clause-whole
returns-in-Ends-clause-whole c =
    let some : 0 < length c.loop-behind.behind.items = some_there _ _ c.is_empty.result c.is_empty.ensures c.loop-behind-test.true c.as_slice.ensures.value in
    λ e. moved_last _ _ _ _ c.remove-token-in-Ends.result c.loop-behind.invariant.scanned some c.index.ensures _ _ c.remove-token-in-Ends.ensures.value c.in_ok-take-in-Ends.ensures.ok (sym c.turned.ensures ∙ c.in-Ends.is)

pub returns-in-Begins-clause-whole : goal.returns-in-Begins-clause-whole
returns-in-Begins-clause-whole c =
    let some : 0 < length c.loop-behind.behind.items = some_there _ _ c.is_empty.result c.is_empty.ensures c.loop-behind-test.true c.as_slice.ensures.value in
    λ e. stays_behind _ _ _ _ c.index.result.now c.loop-behind.invariant.scanned some c.index.ensures (sym c.turned.ensures ∙ c.in-Begins.is)
