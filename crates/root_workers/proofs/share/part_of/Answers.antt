use Rattle.std.proofs.Common.{◌<◌, ◌≤◌, List, length, refl, sym, subst, arith}
use Rattle.cha_moves.specs.Step.{Move}
use Rattle.cha_moves.proofs.LegalApart.{few_legal}
use Rattle.root_workers.specs.Shares.{IsRootMate}
use Rattle.root_workers.proofs.Sharing.{begun_first, begun_more, share_mate, share_spent, share_refused, share_done, spent_here, shares_none, shares_more, calls_end, calls_done, root_mate, none_behind, none_left}
use Rattle.root_workers.proofs.share.part_of.Goals as goal

pub loop-index-init : goal.loop-index-init
loop-index-init g c = record {
  ready = c.requires.ready;
  short = subst (λ (ms : List Move). length ms ≤ 20480) (sym c.requires.listed) (few_legal c.args.task.now.position);
  begun = begun_first c.args.task.now c.args.moves.now c.args.number c.args.count c.new-work.result c.requires.number c.new-work.ensures.nothing.0 (c.new-work.ensures.nothing.1, c.new-work.ensures.nothing.2, c.new-work.ensures.nothing.3);
  bounded = c.requires.bounded;
  tried = shares_none g.F.Facts.made c.args.facts.now c.args.task.now c.args.moves.now c.args.number c.args.count (g.met.F.Facts.none_made c.args.facts.now) c.requires.number;
}

pub returns-in-Mate-clause-share : goal.returns-in-Mate-clause-share
returns-in-Mate-clause-share g c =
    let M : List Move → Type 0 = λ line. IsRootMate c.args.task.now c.args.moves.now (record { root_move = c.loop-index.index; line = line }) in
    share_mate c.args.task.now c.args.moves.now c.args.number c.args.count c.loop-index.index _ c.loop-index.left c.loop-index.work _ c.loop-index.invariant.begun refl refl refl
    (subst M (sym c.in-Mate.line-is) (root_mate c.args.task.now c.args.moves.now c.loop-index.index c.index-moves-index.result c.in-Ok.done.round c.in-Mate.line c.in-Ok.ensures.holds c.in-Mate.is c.loop-index-test.true c.index-moves-index.is c.requires.listed))

pub returns-in-Mate-clause-calls : goal.returns-in-Mate-clause-calls
returns-in-Mate-clause-calls g c =
    calls_end g.F.Facts.made c.args.facts.now c.loop-index.facts c.search_root.new.facts c.args.task.now c.args.moves.now c.args.number c.args.count c.loop-index.index c.index-moves-index.result c.search_root.result _ g.met.F.Facts.both_made c.loop-index.invariant.tried c.search_root.ensures.calls (λ whole. cc)

pub returns-in-Spent-clause-share : goal.returns-in-Spent-clause-share
returns-in-Spent-clause-share g c =
    share_spent c.args.task.now c.args.moves.now c.args.number c.args.count c.loop-index.index _ c.loop-index.work _ c.loop-index.invariant.begun refl refl refl
    (spent_here c.args.task.now c.args.moves.now c.args.number c.args.count c.loop-index.index c.in-Ok.done.positions c.index-moves-index.result c.loop-index.left c.loop-index.work c.loop-index.invariant.begun (c.in-Ok.ensures.spent c.in-Spent.is) c.in-Ok.ensures.positions c.loop-index-test.true c.index-moves-index.is c.requires.listed)

pub returns-in-Spent-clause-calls : goal.returns-in-Spent-clause-calls
returns-in-Spent-clause-calls g c =
    calls_end g.F.Facts.made c.args.facts.now c.loop-index.facts c.search_root.new.facts c.args.task.now c.args.moves.now c.args.number c.args.count c.loop-index.index c.index-moves-index.result c.search_root.result _ g.met.F.Facts.both_made c.loop-index.invariant.tried c.search_root.ensures.calls (λ whole. let e = whole.1 in cc)

pub returns-in-Err-clause-share : goal.returns-in-Err-clause-share
returns-in-Err-clause-share g c =
    share_refused c.args.task.now c.args.moves.now c.args.number c.args.count c.loop-index.index _ c.loop-index.work _ c.loop-index.invariant.begun refl refl refl refl

pub returns-in-Err-clause-calls : goal.returns-in-Err-clause-calls
returns-in-Err-clause-calls g c =
    calls_end g.F.Facts.made c.args.facts.now c.loop-index.facts c.search_root.new.facts c.args.task.now c.args.moves.now c.args.number c.args.count c.loop-index.index c.index-moves-index.result c.search_root.result _ g.met.F.Facts.both_made c.loop-index.invariant.tried c.search_root.ensures.calls (λ whole. let e = whole.2 in cc)

pub returns-in_default-clause-share : goal.returns-in_default-clause-share
returns-in_default-clause-share g c =
    share_refused c.args.task.now c.args.moves.now c.args.number c.args.count c.loop-index.index _ c.loop-index.work _ c.loop-index.invariant.begun c.in_default.ensures.items refl refl refl

pub returns-in_default-clause-calls : goal.returns-in_default-clause-calls
returns-in_default-clause-calls g c =
    calls_end g.F.Facts.made c.args.facts.now c.loop-index.facts c.search_root.new.facts c.args.task.now c.args.moves.now c.args.number c.args.count c.loop-index.index c.index-moves-index.result c.search_root.result _ g.met.F.Facts.both_made c.loop-index.invariant.tried c.search_root.ensures.calls (λ whole. let e = whole.2 in cc)

pub loop-index-preserved : goal.loop-index-preserved
loop-index-preserved g c =
    let some : 0 < c.args.count = (let less = c.requires.number in omega arith) in
    let i = c.loop-index.index in
    let m = c.index-moves-index.result in
    let u = c.in-Ok.done.positions in
    let before = c.loop-index.invariant in
    record {
      ready = c.in-Ok.ensures.stays_ready;
      short = before.short;
      begun = begun_more c.args.task.now c.args.moves.now c.args.number c.args.count i u m c.loop-index.left c.left_of-left.result c.loop-index.work _ before.begun some c.left_of-left.ensures c.in-Ok.ensures.allowed c.in-Ok.ensures.positions c.loop-index-test.true c.index-moves-index.is c.requires.listed (none_behind c.args.task.now m c.in-Ok.done.round c.in-Ok.ensures.holds c.in-NoneWithin.is)
          c.in-Ok-push.ensures.items before.begun.clean;
      bounded = λ none. before.bounded (none_left c.loop-index.left c.left_of-left.result u c.left_of-left.ensures none);
      tried = shares_more g.F.Facts.made c.args.facts.now c.loop-index.facts c.search_root.new.facts c.args.task.now c.args.moves.now c.args.number c.args.count i m c.search_root.result c.in-Ok.done g.met.F.Facts.both_made before.tried c.search_root.ensures.calls c.in-Ok.is c.in-NoneWithin.is some before.begun.own c.index-moves-index.is;
    }

pub returns-clause-calls : goal.returns-clause-calls
returns-clause-calls g c =
    calls_done g.F.Facts.made c.args.facts.now c.loop-index.facts c.help.new.facts c.args.task.now c.args.moves.now c.args.number c.args.count c.loop-index.index c.loop-index.work g.met.F.Facts.both_made c.loop-index.invariant.tried (let end = c.loop-index-test.false in omega arith) c.help.ensures.calls

pub returns-clause-share : goal.returns-clause-share
returns-clause-share g c =
    share_done c.args.task.now c.args.moves.now c.args.number c.args.count c.loop-index.index _ c.loop-index.work c.loop-index.invariant.begun (let end = c.loop-index-test.false in omega arith)
