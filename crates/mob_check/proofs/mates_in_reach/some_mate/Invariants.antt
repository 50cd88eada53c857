use Rattle.std.proofs.Common.{◌≡◌, ℕ, ◌<◌, false}
use Rattle.mob_check.specs.MatesInReach.{may_mate_on}
use Rattle.mob_check.proofs.mates_in_reach.some_mate.Given as goal

abbrev pub invariant-loop-index : goal.invariant-loop-index
invariant-loop-index l = (x : ℕ) → x < l.index → (may_mate_on l.position l.rows l.scene) x ≡ false
