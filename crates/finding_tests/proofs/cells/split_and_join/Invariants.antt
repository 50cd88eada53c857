use Rattle.std.proofs.Common.{◌≡◌}
use Rattle.turn_cell.specs.Passes.{IsOf, IsFirst, splits}
use Rattle.finding_tests.proofs.cells.split_and_join.Given as goal

abbrev pub invariant-loop-number : goal.invariant-loop-number
invariant-loop-number g l = IsOf l.cell l.first × IsFirst l.first × (splits l.first ≡ l.number)
