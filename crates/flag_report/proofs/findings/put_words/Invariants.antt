use Rattle.std.proofs.Common.{◌≡◌, ◌++◌, drop}
use Rattle.cha_outcome.specs.LegalMoves.{AreLegal}
use Rattle.flag_report.specs.Findings.{words_text}
use Rattle.flag_report.proofs.findings.put_words.Given as goal

-- what is written, and what is left to write, are the words of all moves, and the moves left are legal
abbrev pub invariant-loop-m : goal.invariant-loop-m
invariant-loop-m l = (l.text ++ words_text l.now (drop l.m-index l.moves) ≡ l.initial.text ++ words_text l.position l.moves) × AreLegal l.now (drop l.m-index l.moves)
