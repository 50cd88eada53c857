use Rattle.std.proofs.Common.{◌≡◌, length}
use Rattle.side_by_side.specs.Progresses.{AllGoOn}
use Rattle.side_by_side.proofs.parts.advance_all.Given as goal

-- the work on each went on
abbrev pub invariant-loop-progress : goal.invariant-loop-progress
invariant-loop-progress l = (length l.progress-items ≡ length l.fn.items.items) × AllGoOn l.fn.question l.fn.items.items l.progress-items
