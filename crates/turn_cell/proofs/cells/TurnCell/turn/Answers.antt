use Rattle.turn_cell.specs.Passes.{known_in}
use Rattle.turn_cell.proofs.Knowing.{turn_knows}
use Rattle.turn_cell.proofs.cells.TurnCell.turn.Goals as goal

pub invariant_of-pass-clause-knows : goal.invariant_of-pass-clause-knows
invariant_of-pass-clause-knows g c =
    turn_knows g.V.Object.step c.args.self.now.table.shared.key c.take_turn.new.seat.me.0.origin (known_in c.args.pass.now.seat.me.0) (known_in c.take_turn.new.seat.me.0) c.args.call c.take_turn.result c.take_turn.ensures.lives c.take_turn.ensures.turned
