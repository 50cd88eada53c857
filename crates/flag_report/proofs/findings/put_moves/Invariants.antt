use Rattle.std.proofs.Common.{◌≡◌, ◌++◌, drop}
use Rattle.flag_report.specs.Findings.{moves_text}
use Rattle.flag_report.proofs.findings.put_moves.Given as goal

-- what is written, and what is left to write, are the texts of all moves
abbrev pub invariant-loop-m : goal.invariant-loop-m
invariant-loop-m l = l.text ++ moves_text (drop l.m-index l.moves) ≡ l.initial.text ++ moves_text l.moves
