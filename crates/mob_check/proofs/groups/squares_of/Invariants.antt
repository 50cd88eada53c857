use Rattle.std.proofs.Common.{◌≡◌, take}
use Rattle.mob_check.specs.Reaches.{reach_of}
use Rattle.mob_check.proofs.groups.squares_of.Given as goal

abbrev pub invariant-loop-row : goal.invariant-loop-row
invariant-loop-row l = l.squares ≡ reach_of l.position (take l.row-index l.rows) l.group
