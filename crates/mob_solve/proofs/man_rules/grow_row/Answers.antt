use Rattle.std.proofs.Common.{◌<◌, ◌∙◌, ℕ, Bool, List, sym, ap, arith}
use Rattle.cha_board.specs.SquareSets.{has_square}
use Rattle.mob_solve.specs.Reaching.{sets_in}
use Rattle.mob_solve.proofs.Empty.{nothing_asked}
use Rattle.mob_solve.proofs.man_rules.grow_row.Goals as goal

pub returns-then-is_empty-clause-rules : goal.returns-then-is_empty-clause-rules
returns-then-is_empty-clause-rules c = λ still.
    let o = c.args.origin in
    let small : o < 64 = omega arith in
    nothing_asked c.args.ground.now o c.args.side c.args.kind c.row.result (sym c.is_empty.ensures ∙ c.if-is_empty.true) (sets_in c.args.reach.now) small
    (λ (u : ℕ). ap (λ (x : List Bool). has_square x u) (sym c.row.ensures))
