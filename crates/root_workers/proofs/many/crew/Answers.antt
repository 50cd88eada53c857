use Rattle.std.proofs.Common.{ℕ, ◌+◌, List, length, sym, ◌∙◌, ap, subst, arith}
use Rattle.std.proofs.lemmas.List.{length-append}
use Rattle.root_workers.specs.declared.work.Worker.{Worker}
use Rattle.root_workers.proofs.Crewing.{AreWorkers, no_workers, one_more_worker, all_workers, one_split, splits_none, splits_more, none_fresh, one_more_fresh}
use Rattle.root_workers.specs.Splits.{AreFresh}
use Rattle.root_workers.proofs.many.crew.Goals as goal

pub loop-number-init : goal.loop-number-init
loop-number-init c = record {
  of = c.requires.of;
  first = c.requires.first;
  splits = omega arith;
  workers = no_workers c.args.table.now c.in_ok-crew.crew.items c.in_ok-crew.ensures.items;
  count = ap length c.in_ok-crew.ensures.items;
  room = omega (arith, c.in_ok-crew.ensures.exact);
  only = splits_none c.args.pass.now;
  fresh = none_fresh c.args.pass.now c.in_ok-crew.crew.items c.in_ok-crew.ensures.items;
}

pub split-own-requires-clause-of : goal.split-own-requires-clause-of
split-own-requires-clause-of c = c.loop-number.invariant.of

pub split-own-requires-clause-first : goal.split-own-requires-clause-first
split-own-requires-clause-first c = c.loop-number.invariant.first

pub split-own-requires-clause-few : goal.split-own-requires-clause-few
split-own-requires-clause-few c =
    let splits = c.loop-number.invariant.splits in
    let less = c.loop-number-test.true in
    let many = c.requires.many in
    let few = c.requires.few in
    omega arith

pub loop-number-preserved : goal.loop-number-preserved
loop-number-preserved c =
    let before = c.loop-number.invariant in
    let one = one_split c.loop-number.pass c.split-own.new.pass c.split-own.result c.split-own.ensures.split in
    let splits = before.splits in
    let count = before.count in
    let W : List Worker → Type 0 = λ ws. AreWorkers c.args.table.now ws in
    let N : List Worker → Type 0 = λ ws. AreFresh c.args.pass.now ws in
    let room = before.room in
    let grown = c.push.ensures.capacity in
    record {
      of = c.split-own.ensures.of.0;
      first = c.split-own.ensures.first;
      splits = omega arith;
      workers = subst W (sym c.in-Ok.ensures.items) (one_more_worker c.args.table.now c.loop-number.crew.items _ before.workers (sym count) c.split-own.ensures.of.1);
      count = ap length c.in-Ok.ensures.items ∙ length-append c.loop-number.crew.items _ ∙ ap (λ (n : ℕ). n + 1) count;
      room = omega arith;
      only = splits_more c.args.pass.now c.loop-number.pass c.split-own.new.pass c.split-own.result before.only c.split-own.ensures.split;
      fresh = subst N (sym c.in-Ok.ensures.items) (one_more_fresh c.args.pass.now c.loop-number.pass c.split-own.new.pass c.loop-number.crew.items _ before.fresh before.only c.split-own.ensures.split);
    }

pub returns-clause-of : goal.returns-clause-of
returns-clause-of c = c.loop-number.invariant.of

pub returns-clause-first : goal.returns-clause-first
returns-clause-first c = c.loop-number.invariant.first

pub returns-clause-splits : goal.returns-clause-splits
returns-clause-splits c =
    let splits = c.loop-number.invariant.splits in
    let over = c.loop-number-test.false in
    let most = c.loop-number.auto.number-end in
    omega arith

pub returns-clause-crew : goal.returns-clause-crew
returns-clause-crew c =
    let over = c.loop-number-test.false in
    let most = c.loop-number.auto.number-end in
    all_workers c.args.table.now c.loop-number.crew.items c.loop-number.number c.loop-number.invariant.workers c.loop-number.invariant.count (let some = c.requires.some in omega arith) (let many = c.requires.many in omega arith)

pub returns-clause-count : goal.returns-clause-count
returns-clause-count c =
    let count = c.loop-number.invariant.count in
    let over = c.loop-number-test.false in
    let most = c.loop-number.auto.number-end in
    omega arith
