use Rattle.std.proofs.Common.{◌+◌, Ok, inr, refl, ◌∙◌, ap, arith}
use Rattle.helpmate.proofs.Saying.{no_answer, none_answered}
use Rattle.root_workers.specs.declared.answers.RoundsEnd.TheVariants.{NoneWithin}
use Rattle.root_workers.proofs.Going.{no_calls, last_round, ends_rounds, round_more, grown_none, grown_up, grown_more, depth_is, mate_is_none, spent_lines}
use Rattle.root_workers.proofs.deepening.deepen.Goals as goal

pub returns-in_err-moves-clause-calls : goal.returns-in_err-moves-clause-calls
returns-in_err-moves-clause-calls g c =
    last_round g.C.Crew.made_by c.args.crew.now c.args.crew.now c.args.position.now c.args.winner c.args.from c.args.from (g.C.Crew.count c.args.crew.now) c.from_residual.result (no_calls g.C.Crew.made_by c.args.crew.now c.args.position.now c.args.winner c.args.from (g.C.Crew.count c.args.crew.now) g.met.C.Crew.none_made_by) (λ d is. absurd (no_answer c.from_residual.result (NoneWithin d) c.from_residual.ensures.0 is))

pub loop-depth-init : goal.loop-depth-init
loop-depth-init g c = record {
  ready = c.requires.ready;
  count = refl;
  listed = c.in_ok-moves.ensures;
  none = c.requires.none;
  least = omega arith;
  most = (let more = c.requires.more in omega arith);
  calls = no_calls g.C.Crew.made_by c.args.crew.now c.args.position.now c.args.winner c.args.from (g.C.Crew.count c.args.crew.now) g.met.C.Crew.none_made_by;
  grown = grown_none g.C.Crew.made_by c.args.crew.now c.args.from (g.C.Crew.count c.args.crew.now) g.met.C.Crew.none_made_by;
}

pub returns-in_err-round-clause-calls : goal.returns-in_err-round-clause-calls
returns-in_err-round-clause-calls g c =
    ends_rounds g.C.Crew.made_by c.args.crew.now c.loop-depth.crew c.one_round.new.crew c.args.position.now c.args.winner c.args.from c.loop-depth.depth (g.C.Crew.count c.args.crew.now) (g.C.Crew.count c.loop-depth.crew) _ c.from_residual-in_err-round.result g.met.C.Crew.both_made_by c.loop-depth.invariant.calls c.one_round.ensures.grow c.loop-depth.invariant.count (λ d is. absurd (no_answer c.from_residual-in_err-round.result (NoneWithin d) c.from_residual-in_err-round.ensures.0 is))

pub returns-in-Mate-clause-calls : goal.returns-in-Mate-clause-calls
returns-in-Mate-clause-calls g c =
    ends_rounds g.C.Crew.made_by c.args.crew.now c.loop-depth.crew c.one_round.new.crew c.args.position.now c.args.winner c.args.from c.loop-depth.depth (g.C.Crew.count c.args.crew.now) (g.C.Crew.count c.loop-depth.crew) _ _ g.met.C.Crew.both_made_by c.loop-depth.invariant.calls c.one_round.ensures.grow c.loop-depth.invariant.count (λ d is. mate_is_none _ d c.loop-depth.depth is)

pub returns-in-Spent-clause-holds : goal.returns-in-Spent-clause-holds
returns-in-Spent-clause-holds g c =
    let s = spent_lines _ c.loop-depth.depth c.args.limits.now.budget (c.in_ok-round.ensures.spent (ap Ok c.in-Spent.is)) refl c.allowance_of.ensures.value in
    (c.loop-depth.invariant.none, s.1, c.loop-depth.invariant.most, inr s.0)

pub returns-in-Spent-clause-calls : goal.returns-in-Spent-clause-calls
returns-in-Spent-clause-calls g c =
    ends_rounds g.C.Crew.made_by c.args.crew.now c.loop-depth.crew c.one_round.new.crew c.args.position.now c.args.winner c.args.from c.loop-depth.depth (g.C.Crew.count c.args.crew.now) (g.C.Crew.count c.loop-depth.crew) _ _ g.met.C.Crew.both_made_by c.loop-depth.invariant.calls c.one_round.ensures.grow c.loop-depth.invariant.count (λ d is. depth_is c.loop-depth.depth d is)

pub loop-depth-preserved : goal.loop-depth-preserved
loop-depth-preserved g c =
    let before = c.loop-depth.invariant in
    let most = before.most in
    let least = before.least in
    let more = c.loop-depth-test.true in
    record {
      ready = c.one_round.ensures.stays_ready;
      count = c.one_round.ensures.count ∙ before.count;
      listed = before.listed;
      none = none_answered c.args.position.now c.args.position.now c.args.winner (c.loop-depth.depth + 1) 40 c.in_ok-round.round c.in_ok-round.ensures.holds c.in-NoneWithin.is refl;
      least = omega arith;
      most = omega arith;
      calls = round_more g.C.Crew.made_by c.args.crew.now c.loop-depth.crew c.one_round.new.crew c.args.position.now c.args.winner c.args.from c.loop-depth.depth (g.C.Crew.count c.args.crew.now) (g.C.Crew.count c.loop-depth.crew) _ g.met.C.Crew.both_made_by before.calls (c.in_ok-round.ensures.searched (ap Ok c.in-NoneWithin.is)) before.count refl refl refl;
      grown = grown_more g.C.Crew.made_by c.args.crew.now c.loop-depth.crew c.one_round.new.crew c.loop-depth.depth (c.loop-depth.depth + 1) (c.loop-depth.depth + 1) (g.C.Crew.count c.args.crew.now) (g.C.Crew.count c.loop-depth.crew) g.met.C.Crew.both_made_by before.grown c.one_round.ensures.grow before.count (omega arith) (omega arith);
    }

pub returns-clause-calls : goal.returns-clause-calls
returns-clause-calls g c =
    last_round g.C.Crew.made_by c.args.crew.now c.loop-depth.crew c.args.position.now c.args.winner c.args.from c.loop-depth.depth (g.C.Crew.count c.args.crew.now) _ c.loop-depth.invariant.calls (λ d is. depth_is c.loop-depth.depth d is)

pub returns-in_err-round-clause-grow : goal.returns-in_err-round-clause-grow
returns-in_err-round-clause-grow g c =
    let before = c.loop-depth.invariant in
    let most = before.most in
    let more = c.loop-depth-test.true in
    grown_more g.C.Crew.made_by c.args.crew.now c.loop-depth.crew c.one_round.new.crew c.loop-depth.depth (c.loop-depth.depth + 1) c.args.limits.now.depth (g.C.Crew.count c.args.crew.now) (g.C.Crew.count c.loop-depth.crew) g.met.C.Crew.both_made_by before.grown c.one_round.ensures.grow before.count (omega arith) (omega arith)

pub returns-in-Mate-clause-grow : goal.returns-in-Mate-clause-grow
returns-in-Mate-clause-grow g c =
    let before = c.loop-depth.invariant in
    let most = before.most in
    let more = c.loop-depth-test.true in
    grown_more g.C.Crew.made_by c.args.crew.now c.loop-depth.crew c.one_round.new.crew c.loop-depth.depth (c.loop-depth.depth + 1) c.args.limits.now.depth (g.C.Crew.count c.args.crew.now) (g.C.Crew.count c.loop-depth.crew) g.met.C.Crew.both_made_by before.grown c.one_round.ensures.grow before.count (omega arith) (omega arith)

pub returns-in-Spent-clause-grow : goal.returns-in-Spent-clause-grow
returns-in-Spent-clause-grow g c =
    let before = c.loop-depth.invariant in
    let most = before.most in
    let more = c.loop-depth-test.true in
    grown_more g.C.Crew.made_by c.args.crew.now c.loop-depth.crew c.one_round.new.crew c.loop-depth.depth (c.loop-depth.depth + 1) c.args.limits.now.depth (g.C.Crew.count c.args.crew.now) (g.C.Crew.count c.loop-depth.crew) g.met.C.Crew.both_made_by before.grown c.one_round.ensures.grow before.count (omega arith) (omega arith)

pub returns-in_err-moves-clause-grow : goal.returns-in_err-moves-clause-grow
returns-in_err-moves-clause-grow g c = grown_none g.C.Crew.made_by c.args.crew.now c.args.limits.now.depth (g.C.Crew.count c.args.crew.now) g.met.C.Crew.none_made_by

pub returns-clause-grow : goal.returns-clause-grow
returns-clause-grow g c = grown_up g.C.Crew.made_by c.args.crew.now c.loop-depth.crew c.loop-depth.depth c.args.limits.now.depth (g.C.Crew.count c.args.crew.now) c.loop-depth.invariant.grown c.loop-depth.invariant.most
