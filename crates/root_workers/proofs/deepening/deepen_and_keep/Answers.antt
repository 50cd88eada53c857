use Rattle.std.proofs.Common.{Ok, refl, ap, ◌∙◌}
use Rattle.helpmate.proofs.Saying.{no_answer}
use Rattle.root_workers.specs.RoundAnswers.{claim_of}
use Rattle.root_workers.proofs.Ending.{kept_nothing, kept_end, keep_count, deepened_kept, deepened_refused}
use Rattle.root_workers.proofs.Going.{the_end}
use Rattle.root_workers.proofs.deepening.deepen_and_keep.Goals as goal

pub returns-in_err-end-clause-kept : goal.returns-in_err-end-clause-kept
returns-in_err-end-clause-kept g c =
    kept_nothing g.C.Facts.made g.C.Crew.made_by c.args.crew.now c.deepen.new.crew c.args.position.now c.args.winner c.args.from c.args.limits.now.depth (g.C.Crew.count c.args.crew.now) c.deepen.result c.from_residual.result g.met.C.Crew.made_first c.deepen.ensures.calls (g.met.C.Crew.some_workers c.args.crew.now c.requires.ready) (λ done is. no_answer c.from_residual.result done c.from_residual.ensures.0 is)

pub returns-clause-count : goal.returns-clause-count
returns-clause-count g c = keep_count g.C.Facts.made g.C.Crew.made_by g.C.Crew.count c.deepen.new.crew c.keep.new.crew (claim_of c.args.position.now c.args.winner c.in_ok-end.end) g.met.C.Crew.first_made g.met.C.Crew.same_count c.in_ok-keep.ensures.kept ∙ c.deepen.ensures.count

pub returns-clause-calls : goal.returns-clause-calls
returns-clause-calls g c =
    deepened_kept g.C.Facts.made g.C.Crew.made_by g.C.Crew.count c.args.crew.now c.deepen.new.crew c.keep.new.crew c.args.position.now c.args.winner c.args.from (g.C.Crew.count c.args.crew.now) c.deepen.result _ (claim_of c.args.position.now c.args.winner c.in_ok-end.end) g.met.C.Crew.both_made_by g.met.C.Crew.first_made g.met.C.Crew.all_grow c.deepen.ensures.calls c.in_ok-keep.ensures.kept c.deepen.ensures.count (λ done is. c.in_ok-end.was ∙ is)

pub returns-clause-kept : goal.returns-clause-kept
returns-clause-kept g c =
    kept_end g.C.Facts.made g.C.Crew.made_by c.args.crew.now c.deepen.new.crew c.keep.new.crew c.args.position.now c.args.winner c.args.limits.now.depth (g.C.Crew.count c.args.crew.now) (Ok c.in_ok-end.end) c.in_ok-end.end g.met.C.Facts.both_made g.met.C.Crew.made_first c.deepen.ensures.grow (g.met.C.Crew.some_workers c.args.crew.now c.requires.ready) c.in_ok-keep.ensures.kept (λ end is. the_end c.in_ok-end.end end (Ok c.in_ok-end.end) refl is)

pub returns-in_err-keep-clause-count : goal.returns-in_err-keep-clause-count
returns-in_err-keep-clause-count g c = ap g.C.Crew.count c.in_err-keep.ensures.unchanged ∙ c.deepen.ensures.count

pub returns-in_err-keep-clause-calls : goal.returns-in_err-keep-clause-calls
returns-in_err-keep-clause-calls g c =
    deepened_refused g.C.Crew.made_by c.args.crew.now c.deepen.new.crew c.keep.new.crew c.args.position.now c.args.winner c.args.from (g.C.Crew.count c.args.crew.now) c.deepen.result c.from_residual-in_err-keep.result c.deepen.ensures.calls c.in_err-keep.ensures.unchanged (λ done is. no_answer c.from_residual-in_err-keep.result done c.from_residual-in_err-keep.ensures.0 is)

pub returns-in_err-keep-clause-kept : goal.returns-in_err-keep-clause-kept
returns-in_err-keep-clause-kept g c =
    kept_nothing g.C.Facts.made g.C.Crew.made_by c.args.crew.now c.keep.new.crew c.args.position.now c.args.winner c.args.from c.args.limits.now.depth (g.C.Crew.count c.args.crew.now) c.from_residual-in_err-keep.result c.from_residual-in_err-keep.result g.met.C.Crew.made_first
    (deepened_refused g.C.Crew.made_by c.args.crew.now c.deepen.new.crew c.keep.new.crew c.args.position.now c.args.winner c.args.from (g.C.Crew.count c.args.crew.now) c.deepen.result c.from_residual-in_err-keep.result c.deepen.ensures.calls c.in_err-keep.ensures.unchanged (λ done is. no_answer c.from_residual-in_err-keep.result done c.from_residual-in_err-keep.ensures.0 is))
    (g.met.C.Crew.some_workers c.args.crew.now c.requires.ready) (λ done is. no_answer c.from_residual-in_err-keep.result done c.from_residual-in_err-keep.ensures.0 is)
