use Rattle.std.proofs.Common.{◌∙◌, ap, refl, None, ◌∷◌}
use Rattle.turn_cell.proofs.Serving.{turn_told}
use Rattle.atomic_table.specs.Table.{rest}
use Rattle.turn_cell.specs.declared.views.Held.{Held}
use Rattle.turn_cell.proofs.taking.take_turn.Goals as goal

pub serve-requires-clause-out : goal.serve-requires-clause-out
serve-requires-clause-out g c =
    let none : Held g.row.V.Denot g.row.V-Call.Denot g.row.V-Reply.Denot = record { value = None; said = None } in
    let e = c.exchange-taken.ensures.3 in
    let was = c.wait_turn.ensures.turn.7 in
    (none, ap (λ m. m.1) e ∙ ap (λ r. (0, none) ∷ r) (ap (λ m. rest m.1) was), refl)

pub returns-clause-turned : goal.returns-clause-turned
returns-clause-turned g c =
    let h = c.wait_turn.ensures.turn in
    turn_told g.V.Object.step c.args.shared.now.key.value c.args.seat.now.me.0 c.args.call c.serve.result h.0 h.3 h.4
    c.exchange-taken.new.seat.me.0 c.serve.new.seat.me.0
    (ap (λ m. m.0) c.exchange-taken.ensures.3 ∙ ap (λ m. m.0) h.7) (ap (λ m. m.0) c.serve.ensures.entry) c.serve.ensures.legal
