use Rattle.std.proofs.Common.{◌≡◌, ◌++◌, length}
use Rattle.pgn_results.specs.Replacing.{with_value}
use Rattle.pgn_results.proofs.quotes.put_with_value.Given as goal

-- what was written, and what is left to be, make up the whole
abbrev pub invariant-loop-rest : goal.invariant-loop-rest
invariant-loop-rest l = l.text ++ with_value l.mark l.rest ≡ l.fn.text ++ with_value l.mark l.bytes

abbrev pub decreases-loop-rest : goal.decreases-loop-rest
decreases-loop-rest l = length l.rest
