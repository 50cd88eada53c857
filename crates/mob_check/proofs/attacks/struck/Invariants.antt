use Rattle.std.proofs.Common.{ℕ}
use Rattle.mob_check.proofs.Gathering.{Gathers}
use Rattle.mob_check.specs.MatesInReach.{strikes_from}
use Rattle.mob_check.proofs.attacks.struck.Given as goal

abbrev pub invariant-loop-index : goal.invariant-loop-index
invariant-loop-index l = Gathers (λ (u n : ℕ). strikes_from l.scene l.seen l.king n u) l.squares l.index
