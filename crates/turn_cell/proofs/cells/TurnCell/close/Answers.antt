use Rattle.std.proofs.Common.{◌≡◌, ◌∙◌, sym, ap, subst, arith, is_some}
use Rattle.std.proofs.lemmas.Option.{same_Some}
use Rattle.turn_cell.specs.Histories.{IsLegalHistory}
use Rattle.turn_cell.proofs.OnePassLeft.{closed_held}
use Rattle.turn_cell.proofs.cells.TurnCell.close.Goals as goal

pub value_of-requires : goal.value_of-requires
value_of-requires g c =
    let pass = c.args.pass in
    let counts = pass.counts in
    let fewer = pass.fewer in
    let no = c.if-pass.false in
    let alone : pass.seat.me.0.splits ≡ pass.seat.me.0.joins = omega (arith, counts, fewer, no) in
    let h = closed_held g.V.Object.step c.args.self.table.shared.key.value c.into_table.result.shared.key.value (ap (λ t. t.shared.key.value) c.into_table.ensures) pass.seat.id c.into_seat.result.id (ap (λ s. s.id) c.into_seat.ensures) pass.seat.me.0 c.into_seat.result.me.0 (ap (λ s. s.me.0) c.into_seat.ensures)
    (ap (λ o. is_some o) c.requires.of.1) c.requires.first pass.idle.0 alone _ _ c.close_with-closed.ensures.values.2 c.take-held.result c.take-held.ensures.value in
    (h.0, h.1)

pub returns-clause-value : goal.returns-clause-value
returns-clause-value g c =
    let pass = c.args.pass in
    let counts = pass.counts in
    let fewer = pass.fewer in
    let no = c.if-pass.false in
    let alone : pass.seat.me.0.splits ≡ pass.seat.me.0.joins = omega (arith, counts, fewer, no) in
    let h = closed_held g.V.Object.step c.args.self.table.shared.key.value c.into_table.result.shared.key.value (ap (λ t. t.shared.key.value) c.into_table.ensures) pass.seat.id c.into_seat.result.id (ap (λ s. s.id) c.into_seat.ensures) pass.seat.me.0 c.into_seat.result.me.0 (ap (λ s. s.me.0) c.into_seat.ensures)
    (ap (λ o. is_some o) c.requires.of.1) c.requires.first pass.idle.0 alone _ _ c.close_with-closed.ensures.values.2 c.take-held.result c.take-held.ensures.value in
    subst (λ u. IsLegalHistory g.V.Object.step c.args.self.table.shared.key.value pass.seat.me.0.seen u) (same_Some _ _ (sym h.1 ∙ c.value_of.ensures)) h.2
