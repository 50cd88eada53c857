use Rattle.std.proofs.Common.{◌∙◌}
use Rattle.cha_board.specs.declared.men.Kind.{Kind}
use Rattle.cha_board.specs.declared.men.Kind.TheVariants.{Knight, Bishop, Rook, Queen, King}
use Rattle.mob_solve.specs.Reaching.{sets_in}
use Rattle.mob_check.specs.Rules.{AreRules}
use Rattle.mob_check.proofs.RowRules.{each_piece}
use Rattle.mob_solve.proofs.RowRules.{rules_before}
use Rattle.mob_solve.proofs.man_rules.grow_pieces.Goals as goal

pub returns-then-queen-clause-inside : goal.returns-then-queen-clause-inside
returns-then-queen-clause-inside c = λ r rules within.
    let one = c.grow_row-knight.ensures.inside r (rules Knight) within in
    let two = c.grow_row-bishop.ensures.inside r (rules Bishop) one in
    let three = c.grow_row-rook.ensures.inside r (rules Rook) two in
    let four = c.grow_row-queen.ensures.inside r (rules Queen) three in
    c.grow_row-king.ensures.inside r (rules King) four

pub returns-else-queen-clause-inside : goal.returns-else-queen-clause-inside
returns-else-queen-clause-inside c = λ r rules within.
    let one = c.grow_row-knight.ensures.inside r (rules Knight) within in
    let two = c.grow_row-bishop.ensures.inside r (rules Bishop) one in
    let three = c.grow_row-rook.ensures.inside r (rules Rook) two in
    let four = c.grow_row-queen.ensures.inside r (rules Queen) three in
    c.grow_row-king.ensures.inside r (rules King) four

pub returns-else-queen-clause-rules : goal.returns-else-queen-clause-rules
returns-else-queen-clause-rules c = λ last k other.
    let none = c.if-queen.false in
    let old = c.args.reach.now in
    let g = c.args.ground.now in
    let o = c.args.origin in
    let side = c.args.side in
    let one = c.grow_row-knight.ensures.change.still none.0 in
    let two = c.grow_row-bishop.ensures.change.still none.1 ∙ one in
    let three = c.grow_row-rook.ensures.change.still none.2 ∙ two in
    let four = c.grow_row-queen.ensures.change.still none.3 ∙ three in
    let P : Kind → Type 0 = λ (j : Kind). AreRules g (sets_in old) o side j in
    each_piece P
    (c.grow_row-knight.ensures.rules none.0)
    (rules_before old c.grow_row-knight.new.reach g o side Bishop one (c.grow_row-bishop.ensures.rules none.1))
    (rules_before old c.grow_row-bishop.new.reach g o side Rook two (c.grow_row-rook.ensures.rules none.2))
    (rules_before old c.grow_row-rook.new.reach g o side Queen three (c.grow_row-queen.ensures.rules none.3))
    (rules_before old c.grow_row-queen.new.reach g o side King four (c.grow_row-king.ensures.rules last)) k other
