use Rattle.std.proofs.Common.{◌≡◌, ◌+◌, [], refl, ◌∙◌, arith}
use Rattle.mob_law.proofs.Exploring.{explored_positions}
use Rattle.node_store.specs.Nodes.{Node}
use Rattle.node_store.proofs.Pushing.{map_within}
use Rattle.forced_graph.specs.Regions.{IsBetween, IsExpanding}
use Rattle.forced_graph.proofs.Calling.{more_made, none_called, one_called, asks_spent, asks_closed}
use Rattle.forced_graph.proofs.Members.{explored_asked}
use Rattle.forced_graph.proofs.Certifying.{closed_asked}
use Rattle.cha_list.proofs.WhenTold.{when_some, when_none}
use Rattle.forced_graph.proofs.exploring.explore.Goals as goal

pub loop-region-init : goal.loop-region-init
loop-region-init g c = record {
  ready = c.requires.ready;
  between = c.in_ok-region.ensures.between;
  task = c.in_ok-region.ensures.task;
  few = (let none = c.in_ok-region.ensures.count in omega arith);
  calls = ([], g.met.F.Facts.none_made c.args.facts.now);
  asked = none_called g.F.Facts.made c.args.facts.now c.args.winner c.in_ok-region.region.count (g.met.F.Facts.none_made c.args.facts.now) c.in_ok-region.ensures.count;
}

pub returns-then-region-budget-clause-holds : goal.returns-then-region-budget-clause-holds
returns-then-region-budget-clause-holds g c =
    let s = c.next.new.self in
    let e = when_some c.in_ok-name.field-0 (λ n. IsExpanding n [] s) c.in-Some.name c.in-Some.is c.in_ok-name.ensures.taken in
    (refl, explored_asked s.root c.args.position.now s.winner c.args.winner s.count c.args.budget s.store.nodes e.members e.before e.expanded e.size (c.next.ensures.same.0 ∙ c.loop-region.invariant.task.0) (c.next.ensures.same.1 ∙ c.loop-region.invariant.task.1) c.if-region-budget.true c.requires.some c.requires.unshown)

pub returns-then-region-budget-clause-many : goal.returns-then-region-budget-clause-many
returns-then-region-budget-clause-many g c = explored_positions c.args.position.now c.args.winner c.args.budget (returns-then-region-budget-clause-holds g c).1.0

pub position-here-requires : goal.position-here-requires
position-here-requires g c =
    let s = c.next.new.self in
    let e = when_some c.in_ok-name.field-0 (λ n. IsExpanding n [] s) c.in-Some.name c.in-Some.is c.in_ok-name.ensures.taken in
    map_within (λ (n : Node). n.position) s.store.nodes c.in-Some.name e.here e.is_here

pub line_by-requires-clause-within : goal.line_by-requires-clause-within
line_by-requires-clause-within g c =
    let s = c.next.new.self in
    let e = when_some c.in_ok-name.field-0 (λ n. IsExpanding n [] s) c.in-Some.name c.in-Some.is c.in_ok-name.ensures.taken in
    map_within (λ (n : Node). n.position) s.store.nodes c.in-Some.name e.here e.is_here

pub returns-in_err-line_by-clause-calls : goal.returns-in_err-line_by-clause-calls
returns-in_err-line_by-clause-calls g c = more_made g.F.Facts.made c.args.facts.now c.loop-region.facts c.known_mate.new.facts g.met.F.Facts.both_made c.loop-region.invariant.calls c.known_mate.ensures.calls

pub returns-in-Some-known_mate-clause-calls : goal.returns-in-Some-known_mate-clause-calls
returns-in-Some-known_mate-clause-calls g c = more_made g.F.Facts.made c.args.facts.now c.loop-region.facts c.known_mate.new.facts g.met.F.Facts.both_made c.loop-region.invariant.calls c.known_mate.ensures.calls

pub returns-in_err-moves-clause-calls : goal.returns-in_err-moves-clause-calls
returns-in_err-moves-clause-calls g c = more_made g.F.Facts.made c.args.facts.now c.loop-region.facts c.known_mate.new.facts g.met.F.Facts.both_made c.loop-region.invariant.calls c.known_mate.ensures.calls

pub returns-in-Some-2-clause-calls : goal.returns-in-Some-2-clause-calls
returns-in-Some-2-clause-calls g c = more_made g.F.Facts.made c.args.facts.now c.loop-region.facts c.known_mate.new.facts g.met.F.Facts.both_made c.loop-region.invariant.calls c.known_mate.ensures.calls

pub loop-region-preserved : goal.loop-region-preserved
loop-region-preserved g c =
    let s = c.next.new.self in
    let t = c.expand.new.self in
    let before = c.loop-region.invariant in
    let one = when_none c.in_ok-moves.field-0 (t.count ≡ s.count + 1) c.in_default-2.is c.in_ok-moves.ensures.count in
    let same = c.next.ensures.same.2 in
    let fewer = c.loop-region.invariant.few in
    let other = c.if-region-budget.false in
    record {
      ready = c.known_mate.ensures.stays_ready;
      between = when_none c.in_ok-moves.field-0 (IsBetween t) c.in_default-2.is c.in_ok-moves.ensures.between;
      task = (c.expand.ensures.task.0 ∙ c.next.ensures.same.0 ∙ before.task.0, c.expand.ensures.task.1 ∙ c.next.ensures.same.1 ∙ before.task.1);
      few = omega arith;
      calls = more_made g.F.Facts.made c.args.facts.now c.loop-region.facts c.known_mate.new.facts g.met.F.Facts.both_made before.calls c.known_mate.ensures.calls;
      asked = one_called g.F.Facts.made c.args.facts.now c.loop-region.facts c.known_mate.new.facts _ c.args.winner c.loop-region.region.count t.count c.known_mate.result g.met.F.Facts.both_made before.asked c.known_mate.ensures.asked c.in_default-known_mate.is (omega arith);
    }

pub returns-then-region-budget-clause-asks : goal.returns-then-region-budget-clause-asks
returns-then-region-budget-clause-asks g c =
    let same = c.next.ensures.same.2 in
    let full = c.if-region-budget.true in
    asks_spent g.F.Facts.made c.args.facts.now c.loop-region.facts c.args.position.now c.args.winner c.loop-region.region.count c.args.budget c.loop-region.invariant.asked (omega arith)

pub returns-clause-asks : goal.returns-clause-asks
returns-clause-asks g c =
    let s = c.next.new.self in
    let before = c.loop-region.invariant in
    asks_closed g.F.Facts.made c.args.facts.now c.loop-region.facts c.args.position.now s.root c.args.winner s.winner c.loop-region.region.count s.count c.in_ok-into_cert.field-0 before.asked c.in_ok-into_cert.ensures.expanded
    (c.next.ensures.same.0 ∙ before.task.0) (c.next.ensures.same.1 ∙ before.task.1) c.next.ensures.same.2

pub returns-clause-holds : goal.returns-clause-holds
returns-clause-holds g c =
    let s = c.next.new.self in
    let before = c.loop-region.invariant in
    let few = before.few in
    let same = c.next.ensures.same.2 in
    closed_asked s.root c.args.position.now s.winner c.args.winner s.count c.args.budget c.in_ok-into_cert.field-0 c.in_ok-into_cert.ensures.valid c.in_ok-into_cert.ensures.size c.in_ok-into_cert.ensures.expanded
    (c.next.ensures.same.0 ∙ before.task.0) (c.next.ensures.same.1 ∙ before.task.1) (omega arith)
