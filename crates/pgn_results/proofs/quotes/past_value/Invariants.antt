use Rattle.std.proofs.Common.{◌≡◌, false, length}
use Rattle.pgn_results.specs.Replacing.{past_value}
use Rattle.pgn_results.proofs.quotes.past_value.Given as goal

-- the value ends where what is left of it does
abbrev pub invariant-loop-byte : goal.invariant-loop-byte
invariant-loop-byte l = past_value l.escaped l.rest ≡ past_value false l.bytes

abbrev pub decreases-loop-byte : goal.decreases-loop-byte
decreases-loop-byte l = length l.rest
