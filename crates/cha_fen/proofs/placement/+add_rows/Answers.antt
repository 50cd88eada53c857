use Rattle.std.proofs.Common.{◌≡◌, ◌+◌, ◌-◌, ◌<◌, length, take, drop, refl, sym, ap, ◌∙◌, arith}
use Rattle.cha_fen.specs.Placement.{rows}
use Rattle.cha_fen.proofs.Splitting.{some_row, last_row, row_cut}
use Rattle.cha_fen.proofs.Addings.{wrong_count, one_row, rows_none, rows_both}
use Rattle.cha_fen.proofs.placement.+add_rows.Goals as goal

pub returns-then-count-eq0-clause-added : goal.returns-then-count-eq0-clause-added
returns-then-count-eq0-clause-added t c =
    let some = some_row c.args.bytes.now in
    wrong_count (rows c.args.bytes.now) c.args.count (λ e. omega (arith, some, c.if-count-eq0.true, e))

pub returns-then-count-eq1-clause-added : goal.returns-then-count-eq1-clause-added
returns-then-count-eq1-clause-added t c =
    let single = last_row c.args.bytes.now (sym c.run_of-end.ensures.value ∙ c.if-end-bytes.true) in
    rw (one_row c.args.bytes.now (rows c.args.bytes.now) c.args.count c.if-count-eq1.true single) c.add_row.ensures.added

pub returns-then-end-bytes-clause-added : goal.returns-then-end-bytes-clause-added
returns-then-end-bytes-clause-added t c =
    let single = ap length (last_row c.args.bytes.now (sym c.run_of-end.ensures.value ∙ c.if-end-bytes.true)) in
    wrong_count (rows c.args.bytes.now) c.args.count (λ e. c.if-count-eq1.false (sym e ∙ single))

pub returns-then-not-add_rows-clause-added : goal.returns-then-not-add_rows-clause-added
returns-then-not-add_rows-clause-added t c =
    let n = c.run_of-end.result in
    let bytes = c.args.bytes.now in
    let rest = take (length bytes - (n + 1)) (drop (n + 1) bytes) in
    let inside : n < length bytes = omega (arith, c.run_of-end.ensures.bound, c.if-end-bytes.false) in
    let less : c.args.count ≡ (c.args.count - 1) + 1 = omega (arith, c.if-count-eq0.false) in
    rows_none c.args.count (c.args.count - 1) (take n bytes) (rows rest) (rows bytes) less (row_cut bytes rest n c.run_of-end.ensures.value inside refl) c.if-not-add_rows.ensures.added

pub returns-clause-added : goal.returns-clause-added
returns-clause-added t c =
    let n = c.run_of-end.result in
    let bytes = c.args.bytes.now in
    let rest = take (length bytes - (n + 1)) (drop (n + 1) bytes) in
    let inside : n < length bytes = omega (arith, c.run_of-end.ensures.bound, c.if-end-bytes.false) in
    let less : c.args.count ≡ (c.args.count - 1) + 1 = omega (arith, c.if-count-eq0.false) in
    rows_both c.args.count (c.args.count - 1) (take n bytes) (rows rest) (rows bytes) c.args.men.now.items _ c.add_row-2.new.men.items c.add_row-2.result less
    (row_cut bytes rest n c.run_of-end.ensures.value inside refl) c.if-not-add_rows.ensures.added c.add_row-2.ensures.added
