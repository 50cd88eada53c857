use Rattle.std.proofs.Common.{◌≡◌, take}
use Rattle.mob_check.specs.Reaches.{origins_of}
use Rattle.mob_check.proofs.groups.origins_on.Given as goal

abbrev pub invariant-loop-row : goal.invariant-loop-row
invariant-loop-row l = l.origins ≡ origins_of l.position (take l.row-index l.rows) l.side l.on
