use Rattle.forced_graph.specs.Regions.{IsUnshown}
use Rattle.cha_list.proofs.WhenTold.{when_none}
use Rattle.forced_graph.proofs.Popping.{opened}
use Rattle.forced_graph.proofs.region.Region.next.Goals as goal

pub returns-in-None-clause-taken : goal.returns-in-None-clause-taken
returns-in-None-clause-taken c =
    let s = c.pop.new.self in
    let shown = when_none c.in_ok-leaf_part.field-0 (IsUnshown s.store.nodes c.in-Some.name s.winner) c.in-None.is c.in_ok-leaf_part.ensures.open in
    opened c.in-Some.name s.root s.winner s.count s.store.nodes s.store.waiting s.parts.items c.known.ensures c.in-Some.ensures.popped shown
