use Rattle.root_workers.proofs.Working.{worked}
use Rattle.cha_decide.proofs.Backwards.{made_none, made_both}
use Rattle.cha_decide.proofs.scanning.scan_back.Goals as goal

pub returns-in_err-scan-in-Some-clause-calls : goal.returns-in_err-scan-in-Some-clause-calls
returns-in_err-scan-in-Some-clause-calls g c = made_both g.C.Facts.made g.met.C.Facts.both_made c.args.crew.now c.go_back.new.crew c.narrow.new.crew c.go_back.ensures.calls c.narrow.ensures.calls

pub returns-in_ok-scan-in-Some-clause-calls : goal.returns-in_ok-scan-in-Some-clause-calls
returns-in_ok-scan-in-Some-clause-calls g c = made_both g.C.Facts.made g.met.C.Facts.both_made c.args.crew.now c.go_back.new.crew c.narrow.new.crew c.go_back.ensures.calls c.narrow.ensures.calls

pub returns-in_err-scan-in-Some-clause-worked : goal.returns-in_err-scan-in-Some-clause-worked
returns-in_err-scan-in-Some-clause-worked g c = worked g.C.Facts.made g.C.Crew.made_by g.C.Crew.count g.C.Facts.ready g.C.Crew.knows g.met.C.Crew.first_made g.met.C.Crew.all_grow g.met.C.Crew.same_count g.met.C.Crew.ready_knows c.args.crew.now c.narrow.new.crew (returns-in_err-scan-in-Some-clause-calls g c) c.narrow.ensures.stays_ready

pub returns-in_ok-scan-in-Some-clause-worked : goal.returns-in_ok-scan-in-Some-clause-worked
returns-in_ok-scan-in-Some-clause-worked g c = worked g.C.Facts.made g.C.Crew.made_by g.C.Crew.count g.C.Facts.ready g.C.Crew.knows g.met.C.Crew.first_made g.met.C.Crew.all_grow g.met.C.Crew.same_count g.met.C.Crew.ready_knows c.args.crew.now c.narrow.new.crew (returns-in_ok-scan-in-Some-clause-calls g c) c.narrow.ensures.stays_ready

pub returns-then-not-are_dead-clause-worked : goal.returns-then-not-are_dead-clause-worked
returns-then-not-are_dead-clause-worked g c = worked g.C.Facts.made g.C.Crew.made_by g.C.Crew.count g.C.Facts.ready g.C.Crew.knows g.met.C.Crew.first_made g.met.C.Crew.all_grow g.met.C.Crew.same_count g.met.C.Crew.ready_knows c.args.crew.now c.args.crew.now (made_none g.C.Facts.made c.args.crew.now (g.met.C.Facts.none_made c.args.crew.now)) c.requires.ready

pub returns-in_err-dead-clause-worked : goal.returns-in_err-dead-clause-worked
returns-in_err-dead-clause-worked g c = worked g.C.Facts.made g.C.Crew.made_by g.C.Crew.count g.C.Facts.ready g.C.Crew.knows g.met.C.Crew.first_made g.met.C.Crew.all_grow g.met.C.Crew.same_count g.met.C.Crew.ready_knows c.args.crew.now c.go_back.new.crew c.go_back.ensures.calls c.go_back.ensures.stays_ready

pub returns-in-None-clause-worked : goal.returns-in-None-clause-worked
returns-in-None-clause-worked g c = worked g.C.Facts.made g.C.Crew.made_by g.C.Crew.count g.C.Facts.ready g.C.Crew.knows g.met.C.Crew.first_made g.met.C.Crew.all_grow g.met.C.Crew.same_count g.met.C.Crew.ready_knows c.args.crew.now c.go_back.new.crew c.go_back.ensures.calls c.go_back.ensures.stays_ready
