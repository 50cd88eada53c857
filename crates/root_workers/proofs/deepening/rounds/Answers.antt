use Rattle.std.proofs.Common.{[], ◌∷◌, Some, sym, ◌∙◌, ap, subst}
use Rattle.cha_fact.specs.declared.key.Key.{Key}
use Rattle.cha_fact.specs.Entries.{probe_entry}
use Rattle.root_workers.proofs.Ending.{decided_none, finds, finds_none, rounds_calls, known_missed, known_found, undecided_found, undecided_missed, undecided_refused}
use Rattle.root_workers.proofs.deepening.rounds.Goals as goal

pub returns-in-Some-NoneWithin-clause-calls : goal.returns-in-Some-NoneWithin-clause-calls
returns-in-Some-NoneWithin-clause-calls g c =
    let entered = subst (λ (k : Key). g.C.Facts.made c.args.crew.now (probe_entry k c.probe.result ∷ []) c.probe.new.self) c.of.ensures c.probe.ensures.entered in
    decided_none g.C.Facts.made g.C.Crew.made_by (g.C.Crew.count c.args.crew.now) c.args.crew.now c.probe.new.self c.args.position.now c.args.winner c.args.limits.now c.probe.result c.in-Found.row c.depth-depth.result entered (g.met.C.Crew.all_grow 0 c.args.crew.now c.probe.new.self _ (g.met.C.Crew.first_made c.args.crew.now c.probe.new.self _ entered)) c.in-Found.is
    (sym c.decided.ensures.value ∙ c.in-Some-NoneWithin.is ∙ ap Some c.in-Some-NoneWithin.field-0-is) c.depth-depth.ensures.value

pub returns-in-Found-clause-finds : goal.returns-in-Found-clause-finds
returns-in-Found-clause-finds g c = finds c.args.position.now c.args.winner c.args.limits.now c.deepen_and_keep.result c.deepen_and_keep.ensures.holds

pub returns-in-Found-clause-none : goal.returns-in-Found-clause-none
returns-in-Found-clause-none g c = finds_none c.args.position.now c.args.winner c.args.limits.now c.deepen_and_keep.result c.deepen_and_keep.ensures.holds

pub returns-in-Found-clause-calls : goal.returns-in-Found-clause-calls
returns-in-Found-clause-calls g c =
    let q = c.args.position.now in
    let s = c.args.winner in
    let entered = subst (λ (k : Key). g.C.Facts.made c.args.crew.now (probe_entry k c.probe.result ∷ []) c.probe.new.self) c.of.ensures c.probe.ensures.entered in
    rounds_calls g.C.Facts.made g.C.Crew.made_by (g.C.Crew.count c.args.crew.now) (g.C.Crew.count c.probe.new.self) c.known_plies-from.result c.args.crew.now c.probe.new.self c.deepen_and_keep.new.crew q s c.args.limits.now c.probe.result c.deepen_and_keep.result g.met.C.Facts.both_made g.met.C.Crew.both_made_by (g.met.C.Crew.some_workers c.args.crew.now c.requires.ready)
    (g.met.C.Crew.same_count 0 c.args.crew.now c.probe.new.self _ (g.met.C.Crew.first_made c.args.crew.now c.probe.new.self _ entered)) entered (g.met.C.Crew.all_grow 0 c.args.crew.now c.probe.new.self _ (g.met.C.Crew.first_made c.args.crew.now c.probe.new.self _ entered))
    (undecided_found c.depth-depth.result c.args.limits.now.depth c.probe.result c.in-Found.row c.in-Found.is (sym c.decided.ensures.value ∙ c.in-None.is) c.depth-depth.ensures.value) (known_found q s c.probe.result c.in-Found.row c.known_plies-from.result c.in-Found.is c.known_plies-from.ensures.value) c.deepen_and_keep.ensures.calls c.deepen_and_keep.ensures.kept c.deepen_and_keep.ensures.holds c.deepen_and_keep.ensures.from

pub returns-in-Miss-clause-finds : goal.returns-in-Miss-clause-finds
returns-in-Miss-clause-finds g c = finds c.args.position.now c.args.winner c.args.limits.now c.deepen_and_keep-in-Miss.result c.deepen_and_keep-in-Miss.ensures.holds

pub returns-in-Miss-clause-none : goal.returns-in-Miss-clause-none
returns-in-Miss-clause-none g c = finds_none c.args.position.now c.args.winner c.args.limits.now c.deepen_and_keep-in-Miss.result c.deepen_and_keep-in-Miss.ensures.holds

pub returns-in-Miss-clause-calls : goal.returns-in-Miss-clause-calls
returns-in-Miss-clause-calls g c =
    let q = c.args.position.now in
    let s = c.args.winner in
    let entered = subst (λ (k : Key). g.C.Facts.made c.args.crew.now (probe_entry k c.probe.result ∷ []) c.probe.new.self) c.of.ensures c.probe.ensures.entered in
    rounds_calls g.C.Facts.made g.C.Crew.made_by (g.C.Crew.count c.args.crew.now) (g.C.Crew.count c.probe.new.self) 0 c.args.crew.now c.probe.new.self c.deepen_and_keep-in-Miss.new.crew q s c.args.limits.now c.probe.result c.deepen_and_keep-in-Miss.result g.met.C.Facts.both_made g.met.C.Crew.both_made_by (g.met.C.Crew.some_workers c.args.crew.now c.requires.ready)
    (g.met.C.Crew.same_count 0 c.args.crew.now c.probe.new.self _ (g.met.C.Crew.first_made c.args.crew.now c.probe.new.self _ entered)) entered (g.met.C.Crew.all_grow 0 c.args.crew.now c.probe.new.self _ (g.met.C.Crew.first_made c.args.crew.now c.probe.new.self _ entered))
    (undecided_missed c.args.limits.now.depth c.probe.result c.in-Miss.is) (known_missed q s c.probe.result) c.deepen_and_keep-in-Miss.ensures.calls c.deepen_and_keep-in-Miss.ensures.kept c.deepen_and_keep-in-Miss.ensures.holds c.deepen_and_keep-in-Miss.ensures.from

pub returns-clause-finds : goal.returns-clause-finds
returns-clause-finds g c = finds c.args.position.now c.args.winner c.args.limits.now c.deepen_and_keep-in-Refused.result c.deepen_and_keep-in-Refused.ensures.holds

pub returns-clause-none : goal.returns-clause-none
returns-clause-none g c = finds_none c.args.position.now c.args.winner c.args.limits.now c.deepen_and_keep-in-Refused.result c.deepen_and_keep-in-Refused.ensures.holds

pub returns-clause-calls : goal.returns-clause-calls
returns-clause-calls g c =
    let q = c.args.position.now in
    let s = c.args.winner in
    let entered = subst (λ (k : Key). g.C.Facts.made c.args.crew.now (probe_entry k c.probe.result ∷ []) c.probe.new.self) c.of.ensures c.probe.ensures.entered in
    rounds_calls g.C.Facts.made g.C.Crew.made_by (g.C.Crew.count c.args.crew.now) (g.C.Crew.count c.probe.new.self) 0 c.args.crew.now c.probe.new.self c.deepen_and_keep-in-Refused.new.crew q s c.args.limits.now c.probe.result c.deepen_and_keep-in-Refused.result g.met.C.Facts.both_made g.met.C.Crew.both_made_by (g.met.C.Crew.some_workers c.args.crew.now c.requires.ready)
    (g.met.C.Crew.same_count 0 c.args.crew.now c.probe.new.self _ (g.met.C.Crew.first_made c.args.crew.now c.probe.new.self _ entered)) entered (g.met.C.Crew.all_grow 0 c.args.crew.now c.probe.new.self _ (g.met.C.Crew.first_made c.args.crew.now c.probe.new.self _ entered))
    (undecided_refused c.args.limits.now.depth c.probe.result c.in-Refused.is) (known_missed q s c.probe.result) c.deepen_and_keep-in-Refused.ensures.calls c.deepen_and_keep-in-Refused.ensures.kept c.deepen_and_keep-in-Refused.ensures.holds c.deepen_and_keep-in-Refused.ensures.from
