use Rattle.std.proofs.Common.{◌+◌, length, refl, ap, ◌∙◌, arith}
use Rattle.cha_moves.proofs.LegalApart.{few_legal}
use Rattle.node_store.specs.Nodes.{Node}
use Rattle.node_store.proofs.Pushing.{map_within}
use Rattle.forced_graph.proofs.Trying.{one_more, still_at, all_tried}
use Rattle.forced_graph.proofs.region.Region.expand.Goals as goal

pub overflow_cast-len : goal.overflow_cast-len
overflow_cast-len c =
    let few = few_legal c.position-here.result in
    let same = ap length c.in_ok-moves.ensures in
    let len = c.len.ensures in
    omega arith

pub loop-by-preserved : goal.loop-by-preserved
loop-by-preserved c =
    let ms = c.deref-by-items.result.now in
    let i = c.loop-by.by-index in
    let m = c.by-item.result in
    let here = c.position-here.result in
    let old = c.loop-by.self in
    let new = c.meet.new.self in
    let before = c.loop-by.invariant in
    let met = c.in_ok-meet.ensures.met in
    record {
      expanding = one_more c.args.name old new ms i m here c.after-next.result before.expanding c.meet.ensures.same met before.at c.after-next.ensures (λ mated. let is = c.is_mate.ensures.mated.1 mated in let not = c.if-is_mate.false in cc) c.loop-by-test.true c.by-item.is;
      listed = before.listed;
      at = still_at old new c.args.name m here c.after-next.result met before.at;
      same = (c.meet.ensures.same.0 ∙ before.same.0, c.meet.ensures.same.1 ∙ before.same.1, c.meet.ensures.same.2 ∙ before.same.2);
    }

pub returns-clause-between : goal.returns-clause-between
returns-clause-between c =
    let s = c.loop-by.self in
    let before = c.loop-by.invariant in
    all_tried c.args.name c.deref-by-items.result.now c.loop-by.by-index s.root s.winner s.count (s.count + 1) s.store.nodes s.store.waiting s.parts.items c.position-here.result before.expanding c.loop-by-test.false before.listed before.at refl

pub line_by-requires-clause-within : goal.line_by-requires-clause-within
line_by-requires-clause-within c = map_within (λ (n : Node). n.position) c.loop-by.self.store.nodes c.args.name c.position-here.result c.loop-by.invariant.at
