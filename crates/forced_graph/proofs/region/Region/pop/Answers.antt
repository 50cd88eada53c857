use Rattle.forced_graph.proofs.Popping.{pop_some, pop_fewer, pop_none}
use Rattle.forced_graph.proofs.region.Region.pop.Goals as goal

pub returns-clause-popped : goal.returns-clause-popped
returns-clause-popped c =
    let s = c.args.self.now in
    let t = c.pop.new.self in
    pop_some c.pop.result s.root s.winner s.count s.store.nodes t.nodes s.store.waiting t.waiting s.parts.items c.requires c.pop.ensures.name c.pop.ensures.waiting c.pop.ensures.nodes c.pop.ensures.within c.pop.ensures.waited

pub returns-clause-fewer : goal.returns-clause-fewer
returns-clause-fewer c = pop_fewer c.pop.result c.args.self.now.store.waiting c.pop.new.self.waiting c.pop.ensures.name c.pop.ensures.waiting

pub returns-clause-none : goal.returns-clause-none
returns-clause-none c =
    let s = c.args.self.now in
    let t = c.pop.new.self in
    pop_none c.pop.result s.root s.winner s.count s.store.nodes t.nodes s.store.waiting t.waiting s.parts.items c.requires c.pop.ensures.name c.pop.ensures.waiting c.pop.ensures.nodes
