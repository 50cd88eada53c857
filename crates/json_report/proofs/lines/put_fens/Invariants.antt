use Rattle.std.proofs.Common.{drop}
use Rattle.cha_outcome.specs.LegalMoves.{AreLegal}
use Rattle.json_report.specs.Lines.{texts, fens_of}
use Rattle.json_report.specs.Spelled.{ItemsLead}
use Rattle.json_report.proofs.lines.put_fens.Given as goal

-- what is written, and what is left to write, are all items, and the moves left are legal
abbrev pub invariant-loop-m : goal.invariant-loop-m
invariant-loop-m l =
    (ItemsLead l.initial.json (texts (fens_of l.position l.moves)) l.json (texts (fens_of l.now (drop l.m-index l.moves)))) × AreLegal l.now (drop l.m-index l.moves)
