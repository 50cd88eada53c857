use Rattle.std.proofs.Common.{drop}
use Rattle.report_words.specs.LegalLines.{AllLegal}
use Rattle.json_report.specs.Outcomes.{line_items}
use Rattle.json_report.specs.Spelled.{ItemsLead}
use Rattle.json_report.proofs.mates.put_lines.Given as goal

-- what is written, and what is left to write, are all items, and the moves left are legal
abbrev pub invariant-loop-moves : goal.invariant-loop-moves
invariant-loop-moves l =
    (ItemsLead l.initial.json (line_items l.position l.lines) l.json (line_items l.position (drop l.moves-index l.lines))) × AllLegal l.position (drop l.moves-index l.lines)
