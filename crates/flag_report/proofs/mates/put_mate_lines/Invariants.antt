use Rattle.std.proofs.Common.{◌≡◌, ◌++◌, drop}
use Rattle.report_words.specs.LegalLines.{AllLegal}
use Rattle.flag_report.specs.Mates.{mate_lines_text}
use Rattle.flag_report.proofs.mates.put_mate_lines.Given as goal

-- what is written, and what is left to write, are the texts of all lines
abbrev pub invariant-loop-moves : goal.invariant-loop-moves
invariant-loop-moves l = (l.text ++ mate_lines_text l.notation l.position (drop l.moves-index l.lines) ≡ l.initial.text ++ mate_lines_text l.notation l.position l.lines) × AllLegal l.position (drop l.moves-index l.lines)
