use Rattle.cha_verdict.proofs.Complete.{complete}
use Rattle.cha_decide.specs.Shown.{IsExpandedUnshown}
use Rattle.cha_decide.proofs.Both.{each_white, each_black, white_first, black_first}
use Rattle.cha_decide.proofs.Asking.{asked_none, asked_white, asked_black}
use Rattle.root_workers.proofs.Working.{worked}
use Rattle.cha_decide.proofs.deciding.decide.Goals as goal

pub returns-in_err-other-clause-calls : goal.returns-in_err-other-clause-calls
returns-in_err-other-clause-calls g c =
    asked_none g.C.Facts.made g.met.C.Facts.both_made c.args.crew.now c.examine.new.crew c.examine_other.new.crew c.args.position.now c.args.first c.other.result c.examine.result c.examine_other.result c.from_residual-in_err-other.result c.examine.ensures.calls c.examine_other.ensures.calls c.from_residual-in_err-other.ensures.0

pub returns-in-White-clause-sound : goal.returns-in-White-clause-sound
returns-in-White-clause-sound g c =
    let white = c.in_ok-examined.ensures.found in
    let black = c.in_ok-other.ensures in
    white_first c.args.position.now c.args.limits.now c.args.first c.other.result c.in_ok-examined.examined c.in_ok-other.other c.in-White.is c.other.ensures white.holds white.examined black.holds black.skipped

pub returns-in-White-clause-complete : goal.returns-in-White-clause-complete
returns-in-White-clause-complete g c = complete c.args.position.now c.args.first c.args.limits.now _ c.known.ensures (returns-in-White-clause-sound g c)

pub returns-in-White-clause-expanded : goal.returns-in-White-clause-expanded
returns-in-White-clause-expanded g c =
    each_white (λ w v. IsExpandedUnshown c.args.position.now w c.args.limits.now v) c.args.first c.other.result c.in_ok-examined.examined c.in_ok-other.other c.in-White.is c.other.ensures c.in_ok-examined.ensures.found.expanded c.in_ok-other.ensures.expanded

pub returns-in-White-clause-calls : goal.returns-in-White-clause-calls
returns-in-White-clause-calls g c =
    asked_white g.C.Facts.made g.met.C.Facts.both_made c.args.crew.now c.examine.new.crew c.examine_other.new.crew c.args.position.now c.args.first c.other.result c.in_ok-examined.examined c.in_ok-other.other c.in-White.is c.other.ensures
    (rw c.in_ok-examined.was at c.examine.ensures.calls) (rw c.in_ok-other.was at c.examine_other.ensures.calls)

pub returns-in-Black-clause-sound : goal.returns-in-Black-clause-sound
returns-in-Black-clause-sound g c =
    let black = c.in_ok-examined.ensures.found in
    let white = c.in_ok-other.ensures in
    black_first c.args.position.now c.args.limits.now c.args.first c.other.result c.in_ok-other.other c.in_ok-examined.examined c.in-Black.is c.other.ensures black.holds black.examined white.holds white.skipped

pub returns-in-Black-clause-complete : goal.returns-in-Black-clause-complete
returns-in-Black-clause-complete g c = complete c.args.position.now c.args.first c.args.limits.now _ c.known.ensures (returns-in-Black-clause-sound g c)

pub returns-in-Black-clause-expanded : goal.returns-in-Black-clause-expanded
returns-in-Black-clause-expanded g c =
    each_black (λ w v. IsExpandedUnshown c.args.position.now w c.args.limits.now v) c.args.first c.other.result c.in_ok-other.other c.in_ok-examined.examined c.in-Black.is c.other.ensures c.in_ok-examined.ensures.found.expanded c.in_ok-other.ensures.expanded

pub returns-in-Black-clause-calls : goal.returns-in-Black-clause-calls
returns-in-Black-clause-calls g c =
    asked_black g.C.Facts.made g.met.C.Facts.both_made c.args.crew.now c.examine.new.crew c.examine_other.new.crew c.args.position.now c.args.first c.other.result c.in_ok-other.other c.in_ok-examined.examined c.in-Black.is c.other.ensures
    (rw c.in_ok-examined.was at c.examine.ensures.calls) (rw c.in_ok-other.was at c.examine_other.ensures.calls)

pub returns-in_err-examined-clause-worked : goal.returns-in_err-examined-clause-worked
returns-in_err-examined-clause-worked g c = worked g.C.Facts.made g.C.Crew.made_by g.C.Crew.count g.C.Facts.ready g.C.Crew.knows g.met.C.Crew.first_made g.met.C.Crew.all_grow g.met.C.Crew.same_count g.met.C.Crew.ready_knows c.args.crew.now c.examine.new.crew (c.examine.ensures.calls.entries, c.examine.ensures.calls.entered) c.examine.ensures.stays_ready

pub returns-in_err-other-clause-worked : goal.returns-in_err-other-clause-worked
returns-in_err-other-clause-worked g c = (let asked = returns-in_err-other-clause-calls g c in worked g.C.Facts.made g.C.Crew.made_by g.C.Crew.count g.C.Facts.ready g.C.Crew.knows g.met.C.Crew.first_made g.met.C.Crew.all_grow g.met.C.Crew.same_count g.met.C.Crew.ready_knows c.args.crew.now c.examine_other.new.crew (asked.entries, asked.entered) c.examine_other.ensures.stays_ready)

pub returns-in-White-clause-worked : goal.returns-in-White-clause-worked
returns-in-White-clause-worked g c = (let asked = returns-in-White-clause-calls g c in worked g.C.Facts.made g.C.Crew.made_by g.C.Crew.count g.C.Facts.ready g.C.Crew.knows g.met.C.Crew.first_made g.met.C.Crew.all_grow g.met.C.Crew.same_count g.met.C.Crew.ready_knows c.args.crew.now c.examine_other.new.crew (asked.entries, asked.entered) c.examine_other.ensures.stays_ready)

pub returns-in-Black-clause-worked : goal.returns-in-Black-clause-worked
returns-in-Black-clause-worked g c = (let asked = returns-in-Black-clause-calls g c in worked g.C.Facts.made g.C.Crew.made_by g.C.Crew.count g.C.Facts.ready g.C.Crew.knows g.met.C.Crew.first_made g.met.C.Crew.all_grow g.met.C.Crew.same_count g.met.C.Crew.ready_knows c.args.crew.now c.examine_other.new.crew (asked.entries, asked.entered) c.examine_other.ensures.stays_ready)
