use Rattle.std.proofs.Common.{sym, ap, ◌∙◌}
use Rattle.cha_board.specs.SquareSets.{set_of}
use Rattle.cha_board.proofs.SetLaws.{length-set_of, has-set_of, same_set, same_squares}
use Rattle.mob_sets.specs.Rows.{Row, has_entry}
use Rattle.mob_sets.proofs.RowsShow.{shown_there, shown_nowhere}
use Rattle.mob_sets.proofs.tidy_rows.row_of.Goals as goal

pub returns-in-Ok : goal.returns-in-Ok
returns-in-Ok c =
    let rows = c.args.rows.now in
    let shown = has_entry rows c.args.origin c.args.kind in
    let d = c.index-rows-index.result in
    let there = rw c.place.ensures.value at c.in-Ok.ensures.there in
    let row = c.row.view_is ∙ c.index-rows-index.is in
    ap (λ (r : Row). r.squares) row
    ∙ same_squares _ (set_of shown) (c.requires.full c.in-Ok.index d there.inside).width (length-set_of shown) (λ s small.
    sym (shown_there rows c.in-Ok.index c.args.origin c.args.kind s d c.requires there) ∙ sym (has-set_of shown s small))

pub returns-in-Err : goal.returns-in-Err
returns-in-Err c =
    c.empty.ensures ∙ same_set _ (has_entry c.args.rows.now c.args.origin c.args.kind) (λ s small.
    sym (shown_nowhere c.args.rows.now c.in-Err.field-0 c.args.origin c.args.kind s c.requires (rw c.place.ensures.value at c.in-Err.ensures.missing)))
