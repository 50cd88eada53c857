use Rattle.std.proofs.Common.{◌≡◌, ◌∙◌, ◌∷◌, ◌++◌, [], ap, sym, subst, refl, Some, None}
use Rattle.atomic_table.specs.Table.{opening}
use Rattle.turn_cell.specs.Rule.{TakesTurns}
use Rattle.turn_cell.specs.Views.{first_view}
use Rattle.turn_cell.specs.declared.views.View.{View}
use Rattle.turn_cell.specs.declared.views.Held.{Held}
use Rattle.turn_cell.proofs.Opened.{opened}
use Rattle.turn_cell.proofs.opening.open.Goals as goal

pub new-requires : goal.new-requires
new-requires g c =
    let held : Held g.row.V.Denot g.row.V-Call.Denot g.row.V-Reply.Denot = record { value = Some c.args.value; said = None } in
    let start : View g.row.V.Denot g.row.V-Call.Denot g.row.V-Reply.Denot = first_view c.of-key.result in
    let items : c.push.new.self.items ≡ held ∷ [] = c.in-Ok.ensures.items ∙ ap (λ xs. xs ++ held ∷ []) c.new-slots.ensures.items in
    subst (λ xs. TakesTurns g.V.Object.step c.of-key.result.value (opening (0 ∷ []) xs start)) (sym items) (opened g.V.Object.step c.of-key.result held c.args.value refl (sym c.of-key.ensures))
