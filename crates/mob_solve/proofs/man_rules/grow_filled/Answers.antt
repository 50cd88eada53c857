use Rattle.std.proofs.Common.{◌≡◌, ◌<◌, ◌∙◌, ℕ, List, Bool, true, sym, ap, arith}
use Rattle.cha_board.specs.SquareSets.{has_square}
use Rattle.mob_solve.specs.Reaching.{sets_in}
use Rattle.mob_solve.proofs.Reaches.{has_before, loose_before}
use Rattle.mob_check.proofs.RowRules.{ends_inside}
use Rattle.mob_solve.proofs.RowRules.{row_inside, row_rules}
use Rattle.mob_solve.proofs.man_rules.grow_filled.Goals as goal

pub returns-then-promoted-clause-inside : goal.returns-then-promoted-clause-inside
returns-then-promoted-clause-inside c = λ r rules within.
    let g = c.args.ground.now in
    let o = c.args.origin in
    let side = c.args.side in
    let k = c.args.kind in
    let row = c.filled-row.result in
    let holds = row_inside g o side k row c.row.result r rules c.filled-row.ensures
    (λ (u : ℕ) (h : has_square c.row.result u ≡ true). within.has o k u (sym (ap (λ (x : List Bool). has_square x u) c.row.ensures) ∙ h)) in
    let one = c.join-come.ensures.inside r holds within in
    let two = c.promote-promoted.ensures.inside r (ends_inside g o side k row r rules holds) one in
    c.free-loosened.ensures.inside r (λ x small h. rules.free row holds x small h) two

pub returns-else-promoted-clause-inside : goal.returns-else-promoted-clause-inside
returns-else-promoted-clause-inside c = λ r rules within.
    let g = c.args.ground.now in
    let o = c.args.origin in
    let side = c.args.side in
    let k = c.args.kind in
    let row = c.filled-row.result in
    let holds = row_inside g o side k row c.row.result r rules c.filled-row.ensures
    (λ (u : ℕ) (h : has_square c.row.result u ≡ true). within.has o k u (sym (ap (λ (x : List Bool). has_square x u) c.row.ensures) ∙ h)) in
    let one = c.join-come.ensures.inside r holds within in
    let two = c.promote-promoted.ensures.inside r (ends_inside g o side k row r rules holds) one in
    c.free-loosened.ensures.inside r (λ x small h. rules.free row holds x small h) two

pub returns-else-promoted-clause-rules : goal.returns-else-promoted-clause-rules
returns-else-promoted-clause-rules c = λ last.
    let none = c.if-promoted.false in
    let old = c.args.reach.now in
    let o = c.args.origin in
    let small : o < 64 = omega arith in
    let one = c.join-come.ensures.change.still none.0 in
    let two = c.promote-promoted.ensures.change.still none.1 ∙ one in
    row_rules c.args.ground.now o c.args.side c.args.kind c.filled-row.result c.row.result (sets_in old) small
    (λ (u : ℕ). ap (λ (x : List Bool). has_square x u) (sym c.row.ensures)) c.filled-row.ensures
    (λ u inside h. c.join-come.ensures.there none.0 u inside h)
    (λ j promotion t inside ends. has_before old c.join-come.new.self o j t one (c.promote-promoted.ensures.rules none.1 j promotion t inside ends))
    (λ x inside h. loose_before old c.promote-promoted.new.reach x two (c.free-loosened.ensures.rules last x inside h))
