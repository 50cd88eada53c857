use Rattle.forced_graph.proofs.Certifying.{closed_ok, size_ok, expanded_ok}
use Rattle.forced_graph.proofs.region.Region.into_cert.Goals as goal

pub returns : goal.returns
returns c =
    let s = c.args.self in
    record {
      valid = closed_ok c.nodes_of.result s.root s.winner s.count s.store.nodes s.store.waiting s.parts.items c.known.ensures c.requires.0 c.requires.1 c.nodes_of.ensures;
      size = size_ok c.nodes_of.result s.root s.winner s.count s.store.nodes s.store.waiting s.parts.items c.known.ensures c.requires.0 c.nodes_of.ensures;
      expanded = expanded_ok c.nodes_of.result s.root s.winner s.count s.store.nodes s.store.waiting s.parts.items c.requires.0 c.requires.1 c.nodes_of.ensures;
    }
