use Rattle.std.proofs.Common.{◌≡◌, ◌++◌, ◌+◌, drop}
use Rattle.cha_outcome.specs.LegalMoves.{AreLegal}
use Rattle.flag_report.specs.Plies.{ply_texts}
use Rattle.flag_report.proofs.plies.put_plies.Given as goal

-- what is written, and what is left to write, are the lines on all moves, and the moves left are legal
abbrev pub invariant-loop-m : goal.invariant-loop-m
invariant-loop-m l =
    (l.text ++ ply_texts (l.number + 1) l.now (drop l.m-index l.moves) ≡ l.initial.text ++ ply_texts 1 l.position l.moves) × AreLegal l.now (drop l.m-index l.moves) × (l.number ≡ l.m-index)
