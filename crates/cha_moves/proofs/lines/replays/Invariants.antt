use Rattle.std.proofs.Common.{◌↔◌, drop}
use Rattle.cha_moves.specs.Ends.{IsMatingLine}
use Rattle.cha_moves.proofs.lines.replays.Given as goal

abbrev pub invariant-loop-m : goal.invariant-loop-m
invariant-loop-m l = IsMatingLine l.position l.winner l.moves ↔ IsMatingLine l.now l.winner (drop l.m-index l.moves)
