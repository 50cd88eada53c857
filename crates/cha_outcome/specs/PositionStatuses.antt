-- The status of a position (this project).
use Rattle.std.specs.Prelude.{Bool, true, false, ◌||◌, if◌then◌else◌}
use Rattle.cha_moves.specs.declared.ends.Standing.{Standing}
use Rattle.cha_moves.specs.declared.ends.Standing.TheVariants.{Mate, Stalemate, Running}
use Rattle.cha_verdict.specs.declared.verdicts.Verdict.{Verdict}
use Rattle.cha_verdict.specs.Verdicts.{is_winnable, are_dead}
use Rattle.cha_outcome.specs.declared.status.PositionStatus.{PositionStatus}
use Rattle.cha_outcome.specs.declared.status.PositionStatus.TheVariants.{Checkmate, Stalemate as Stalemated, Dead, Live, Unclear}

-- the status of a position: the first that fits of checkmate, stalemate, dead, live and unclear
unfoldable pub status_of : Standing → Verdict → Verdict → PositionStatus
status_of (Mate winner) white black = Checkmate
status_of Stalemate white black = Stalemated
status_of Running white black = if are_dead white black then Dead else (if is_winnable white || is_winnable black then Live else Unclear)

-- neither mate nor stalemate, and neither side can mate
unfoldable pub is_dead : PositionStatus → Bool
is_dead Dead = true
is_dead _ = false
