use Rattle.std.proofs.Common.{ap, sym, ◌∙◌}
use Rattle.cha_board.specs.declared.men.Color.{Color}
use Rattle.cha_board.specs.SquareSets.{set_of}
use Rattle.cha_board.specs.Shifts.{is_ahead}
use Rattle.cha_board.proofs.sets.SquareSet.ahead.Goals as goal

pub returns-in-White : goal.returns-in-White
returns-in-White c = c.north.ensures ∙ ap (λ (x : Color). set_of (is_ahead x c.args.self)) (sym c.in-White.is)

pub returns-in-Black : goal.returns-in-Black
returns-in-Black c = c.south.ensures ∙ ap (λ (x : Color). set_of (is_ahead x c.args.self)) (sym c.in-Black.is)
