use Rattle.std.proofs.Common.{List, Bool, sym, ap, ◌∙◌}
use Rattle.cha_board.specs.SquareSets.{has_square}
use Rattle.mob_check.proofs.StruckSets.{struck_where, struck_nowhere}
use Rattle.mob_check.proofs.attacks.struck_as.Goals as goal

pub returns-then-has : goal.returns-then-has
returns-then-has c =
    let reach = ap (λ (x : List Bool). has_square x c.args.from) (sym c.reach_as.ensures) ∙ sym c.has.ensures ∙ c.if-has.true in
    c.struck_from.ensures ∙ struck_where c.args.scene.now c.args.seen c.args.king c.args.from c.args.kind reach

pub returns-else-has : goal.returns-else-has
returns-else-has c =
    let reach = ap (λ (x : List Bool). has_square x c.args.from) (sym c.reach_as.ensures) ∙ sym c.has.ensures ∙ c.if-has.false in
    c.empty.ensures ∙ struck_nowhere c.args.scene.now c.args.seen c.args.king c.args.from c.args.kind reach
