use Rattle.std.proofs.Common.{length, drop, ◌+◌, ◌-◌, ◌≡◌, ◌++◌, ◌≤◌}
use Rattle.pgn_lex.specs.Tokens.{tokens, tokens_after}
use Rattle.pgn_lex.proofs.reading.tokens_of.Given as goal

-- what is found, and what the rest gives, are the tokens
abbrev pub invariant-loop-at : goal.invariant-loop-at
invariant-loop-at l = record {
  inside : l.at ≤ length l.bytes;
  low : l.line ≤ l.at + 1;
  tokens : l.out.items ++ tokens_after 0 l.at l.line l.first (drop l.at l.bytes) ≡ tokens l.bytes;
}

abbrev pub decreases-loop-at : goal.decreases-loop-at
decreases-loop-at l = length l.bytes - l.at
