use Rattle.std.proofs.Common.{◌≡◌, ◌∙◌, sym, ap, arith, Some, [], ◌∷◌, is_some, true}
use Rattle.atomic_table.specs.Table.{rest, step as step_of}
use mathlib.Core.Option.{none}
use Rattle.turn_cell.proofs.Serving.{serves_goes, legal_more}
use Rattle.turn_cell.specs.Rule.{lives}
use Rattle.turn_cell.specs.declared.views.Held.{Held}
use Rattle.turn_cell.specs.declared.views.Said.{Said}
use Rattle.turn_cell.proofs.taking.serve.Goals as goal

pub exchange-old-requires : goal.exchange-old-requires
exchange-old-requires g c =
    let h = c.requires.out.1 in
    (c.requires.table.0, (c.requires.out.0, h ∙ ap (λ r. (0, c.requires.out.0) ∷ r) (sym (ap rest h))))

pub swap-found-requires : goal.swap-found-requires
swap-found-requires g c =
    let e = c.exchange-old.ensures in
    let said : Said g.row.V-Call.Denot g.row.V-Reply.Denot = record { call = c.of-asked.result; reply = c.of-answered.result } in
    let held : Held g.row.V.Denot g.row.V-Call.Denot g.row.V-Reply.Denot = record { value = Some c.apply-reply.new.self; said = Some said } in
    let whole : c.exchange-old.new.seat.me ≡ (c.args.seat.now.me.0, (0, held) ∷ []) = e.3 ∙ ap (λ r. (c.args.seat.now.me.0, (0, held) ∷ r)) (ap rest c.requires.out.1) in
    let live : lives c.args.seat.now.me.0 ≡ true = ap (λ o. is_some o) c.requires.lives in (
      e.0 ∙ c.requires.table.0,
      omega (arith, c.requires.table.1),
      λ s k len at lt.
          serves_goes g.V.Object.step _ s k c.exchange-old.new.seat.id _ (step_of 0 0 0 0 none) c.exchange-old.new.seat.me c.args.seat.now.me.0 c.of-asked.result c.of-answered.result c.apply-reply.new.self whole at c.requires.turn live (legal_more g.V.Object.step _ _ _ _ _ _ _ c.requires.value (rw (c.of-asked.ensures, c.of-answered.ensures) c.apply-reply.ensures)),
    )

pub returns-clause-legal : goal.returns-clause-legal
returns-clause-legal g c = (c.apply-reply.new.self, legal_more g.V.Object.step _ _ _ _ _ _ _ c.requires.value c.apply-reply.ensures)
