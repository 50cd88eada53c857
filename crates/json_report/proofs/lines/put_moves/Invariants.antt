use Rattle.std.proofs.Common.{drop, map}
use Rattle.cha_moves.specs.Texts.{move_bytes}
use Rattle.json_report.specs.Lines.{texts}
use Rattle.json_report.specs.Spelled.{ItemsLead}
use Rattle.json_report.proofs.lines.put_moves.Given as goal

-- what is written, and what is left to write, are all items
abbrev pub invariant-loop-m : goal.invariant-loop-m
invariant-loop-m l =
    ItemsLead l.initial.json (texts (map move_bytes l.moves)) l.json (texts (map move_bytes (drop l.m-index l.moves)))
