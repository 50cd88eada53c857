use Rattle.std.proofs.Common.{◌≡◌, ℕ, ◌<◌, false}
use Rattle.mob_check.specs.MatesInReach.{mates_from}
use Rattle.mob_check.proofs.mates_in_reach.mate_with_one.Given as goal

abbrev pub invariant-loop-index : goal.invariant-loop-index
invariant-loop-index l = (x : ℕ) → x < l.index → (mates_from l.scene l.seen l.men l.king) x ≡ false
