use Rattle.std.proofs.Common.{◌≡◌, ℕ, ◌<◌, false}
use Rattle.mob_check.specs.MatesInReach.{shuts_from}
use Rattle.mob_check.proofs.mates_in_reach.some_shut.Given as goal

abbrev pub invariant-loop-index : goal.invariant-loop-index
invariant-loop-index l = (x : ℕ) → x < l.index → (shuts_from l.scene l.ring l.king) x ≡ false
