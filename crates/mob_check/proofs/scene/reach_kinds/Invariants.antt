use Rattle.std.proofs.Common.{◌≡◌, take}
use Rattle.mob_check.specs.Scenes.{reach_by_kind}
use Rattle.mob_check.proofs.scene.reach_kinds.Given as goal

abbrev pub invariant-loop-row : goal.invariant-loop-row
invariant-loop-row l = l.reach ≡ reach_by_kind l.position (take l.row-index l.rows) l.side
