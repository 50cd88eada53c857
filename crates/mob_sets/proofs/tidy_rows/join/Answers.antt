use Rattle.std.proofs.Common.{◌≡◌, ◌==◌, ℕ, List, Bool, length, ap, sym, ◌∙◌}
use Rattle.std.specs.Int.{bit_at}
use Rattle.cha_board.proofs.SetLaws.{length-set_of}
use Rattle.mob_sets.proofs.Joining.{joined_entries, joined_tidy, placed_entries, placed_tidy, none_entries, some_squares, no_row}
use Rattle.mob_sets.proofs.tidy_rows.join.Goals as goal

pub returns-then-is_empty-clause-ok : goal.returns-then-is_empty-clause-ok
returns-then-is_empty-clause-ok c =
    let long : length c.args.more ≡ 64 = ap (λ (x : List Bool). length x) c.bits-number.ensures.shown ∙ length-set_of (λ (s : ℕ). bit_at c.bits-number.result s == 1) in
    none_entries c.args.rows.now.items c.args.origin c.args.kind c.args.more (sym c.is_empty.ensures ∙ c.if-is_empty.true) long

pub returns-in-Ok-clause-ok : goal.returns-in-Ok-clause-ok
returns-in-Ok-clause-ok c =
    let long : length c.args.more ≡ 64 = ap (λ (x : List Bool). length x) c.bits-number.ensures.shown ∙ length-set_of (λ (s : ℕ). bit_at c.bits-number.result s == 1) in
    let there = rw (c.place.ensures.value, c.as_slice.ensures.value) at c.in-Ok.ensures.there in
    rw (c.fill.ensures no_row) (joined_entries c.args.rows.now.items c.in-Ok.index c.args.origin c.args.kind c.args.more no_row c.requires there long)

pub returns-in-Ok-clause-tidy : goal.returns-in-Ok-clause-tidy
returns-in-Ok-clause-tidy c =
    let long : length c.args.more ≡ 64 = ap (λ (x : List Bool). length x) c.bits-number.ensures.shown ∙ length-set_of (λ (s : ℕ). bit_at c.bits-number.result s == 1) in
    let there = rw (c.place.ensures.value, c.as_slice.ensures.value) at c.in-Ok.ensures.there in
    rw (c.fill.ensures no_row) (joined_tidy c.args.rows.now.items c.in-Ok.index c.args.more no_row c.requires there.inside long)

pub returns-in-Ok-insert-clause-ok : goal.returns-in-Ok-insert-clause-ok
returns-in-Ok-insert-clause-ok c =
    rw c.in-Ok-insert.ensures.items (placed_entries c.args.rows.now.items c.in-Err.index c.args.origin c.args.kind c.args.more)

pub returns-in-Ok-insert-clause-tidy : goal.returns-in-Ok-insert-clause-tidy
returns-in-Ok-insert-clause-tidy c =
    let long : length c.args.more ≡ 64 = ap (λ (x : List Bool). length x) c.bits-number.ensures.shown ∙ length-set_of (λ (s : ℕ). bit_at c.bits-number.result s == 1) in
    let missing = rw (c.place.ensures.value, c.as_slice.ensures.value) at c.in-Err.ensures.missing in
    rw c.in-Ok-insert.ensures.items (placed_tidy c.args.rows.now.items c.in-Err.index c.args.origin c.args.kind c.args.more c.requires missing long (some_squares c.args.more (sym c.is_empty.ensures ∙ c.if-is_empty.false)))
