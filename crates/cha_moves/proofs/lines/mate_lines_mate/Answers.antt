-- Mate lines are the mating lines of their length.
use Rattle.cha_moves.proofs.MateLines.{mate_lines_are}
use Rattle.cha_moves.proofs.lines.mate_lines_mate.Goals as goal

pub returns : goal.returns
returns c = mate_lines_are
