use Rattle.std.proofs.Common.{◌≡◌, ◌+◌, ◌≤◌, drop}
use Rattle.std.specs.List.{fold}
use Rattle.pgn_lex.specs.Tokens.{line_after}
use Rattle.pgn_lex.proofs.lines.behind.Given as goal

-- the bytes that are left lead on to the line behind all of them
abbrev pub invariant-loop-byte : goal.invariant-loop-byte
invariant-loop-byte l = record {
  low : l.now ≤ l.line + l.byte-index;
  rest : fold line_after l.now (drop l.byte-index l.bytes) ≡ fold line_after l.line l.bytes;
}
