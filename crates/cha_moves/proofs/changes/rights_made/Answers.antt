use Rattle.std.proofs.Common.{ap, sym, ◌∙◌}
use Rattle.cha_board.specs.SquareSets.{set_of, set_common, has_no_square}
use Rattle.cha_moves.specs.Moves.{touches}
use Rattle.cha_moves.proofs.Touched.{rights_stay}
use Rattle.cha_moves.proofs.changes.rights_made.Goals as goal

pub returns-then-is_empty : goal.returns-then-is_empty
returns-then-is_empty c =
    rights_stay c.args.rights c.args.m
    (ap (λ set. has_no_square (set_common (set_of (touches c.args.m)) set)) (sym c.homes.ensures)
    ∙ ap (λ set. has_no_square (set_common set c.homes.result)) (sym c.touched-touched.ensures)
    ∙ ap has_no_square (sym c.common.ensures) ∙ sym c.is_empty.ensures ∙ c.if-is_empty.true)
