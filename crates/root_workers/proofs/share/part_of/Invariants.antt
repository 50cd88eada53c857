use Rattle.std.proofs.Common.{length, ◌-◌, ◌≤◌, IsNone}
use Rattle.root_workers.proofs.Sharing.{IsBegun, SharesTried}
use Rattle.root_workers.proofs.share.part_of.Given as goal

abbrev pub invariant-loop-index : goal.invariant-loop-index
invariant-loop-index g l = record {
  ready : g.F.Facts.ready l.facts;
  short : length l.moves ≤ 20480;
  begun : IsBegun l.task l.moves l.number l.count l.index l.left l.work;
  bounded : IsNone l.left → l.task.depth ≤ 3;
  tried : SharesTried g.F.Facts.made l.fn.facts l.facts l.task l.moves l.number l.count l.index;
}

abbrev pub decreases-loop-index : goal.decreases-loop-index
decreases-loop-index g l = length l.moves - l.index
