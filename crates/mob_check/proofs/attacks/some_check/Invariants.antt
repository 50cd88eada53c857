use Rattle.std.proofs.Common.{◌≡◌, ℕ, ◌<◌, false}
use Rattle.mob_check.specs.MatesInReach.{checks_from}
use Rattle.mob_check.proofs.attacks.some_check.Given as goal

abbrev pub invariant-loop-index : goal.invariant-loop-index
invariant-loop-index l = (x : ℕ) → x < l.index → (checks_from l.scene l.king) x ≡ false
