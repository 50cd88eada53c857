use Rattle.std.proofs.Common.{◌≡◌, ℕ, ◌<◌, true}
use Rattle.mob_check.specs.Closing.{holds_at}
use Rattle.mob_check.proofs.closing.men_hold.Given as goal

abbrev pub invariant-loop-index : goal.invariant-loop-index
invariant-loop-index l = (x : ℕ) → x < l.index → holds_at l.position l.ground l.sets x ≡ true
