use Rattle.std.proofs.Common.{◌≡◌, ◌+◌, drop}
use Rattle.cha_outcome.specs.LegalMoves.{AreLegal}
use Rattle.json_report.specs.Plies.{ply_items}
use Rattle.json_report.specs.Spelled.{ItemsLead}
use Rattle.json_report.proofs.plies.put_each.Given as goal

-- what is written, and what is left to write, are all items, and the moves left are legal
abbrev pub invariant-loop-m : goal.invariant-loop-m
invariant-loop-m l =
    (ItemsLead l.initial.json (ply_items 1 l.position l.moves) l.json (ply_items (l.number + 1) l.now (drop l.m-index l.moves))) × AreLegal l.now (drop l.m-index l.moves) × (l.number ≡ l.m-index)
