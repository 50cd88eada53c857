use Rattle.std.proofs.Common.{rules}
use Rattle.cha_board.proofs.SetBits.{same_numbers}
use Rattle.cha_board.proofs.sets.SquareSetPartialEq.eq.Goals as goal

pub returns : goal.returns
returns c = search (rules, same_numbers)
