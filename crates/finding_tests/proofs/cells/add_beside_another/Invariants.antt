use Rattle.std.proofs.Common.{◌≡◌}
use Rattle.turn_cell.specs.Passes.{IsOf, number}
use Rattle.finding_tests.proofs.cells.add_beside_another.Given as goal

abbrev pub invariant-loop : goal.invariant-loop
invariant-loop g l = IsOf l.cell l.pass × (number l.pass ≡ number l.fn.pass)
