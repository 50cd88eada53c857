use Rattle.std.proofs.Common.{subst}
use Rattle.turn_cell.specs.Passes.{known_in, Joined}
use Rattle.turn_cell.proofs.Knowing.{join_knows}
use Rattle.turn_cell.proofs.cells.TurnCell.join.Goals as goal

pub invariant_of-pass-clause-knows : goal.invariant_of-pass-clause-knows
invariant_of-pass-clause-knows g c =
    let key = c.args.self.now.table.shared.key in
    let old = known_in c.args.pass.now.seat.me.0 in
    let new = known_in c.take_back.new.seat.me.0 in
    join_knows g.V.Object.step key c.take_back.new.seat.me.0.origin old (known_in c.args.other.seat.me.0) new c.take_back.ensures.lives (c.args.pass.now.knows key c.requires.of.0.1).0 (c.args.other.knows key c.requires.of.1.1).0
    (subst (λ s. Joined old (known_in s.me.0) new) c.into_seat.ensures c.take_back.ensures.joined)
