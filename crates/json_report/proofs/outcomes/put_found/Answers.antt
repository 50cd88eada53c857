use Rattle.json_report.specs.Outcomes.{found_members}
use Rattle.json_report.proofs.Stepping.{◌then◌, next}
use Rattle.json_report.proofs.outcomes.put_found.Goals as goal

pub returns-in_ok-put_findings-in-JudgedPosition : goal.returns-in_ok-put_findings-in-JudgedPosition
unfolding found_members
returns-in_ok-put_findings-in-JudgedPosition c = rw c.in-JudgedPosition.is (c.in_ok-put_findings-in-JudgedPosition.ensures _)

pub returns-in_ok-put_results-in-JudgedGame : goal.returns-in_ok-put_results-in-JudgedGame
unfolding found_members
returns-in_ok-put_results-in-JudgedGame c = rw c.in-JudgedGame.is (c.in_ok-put_findings-in-JudgedGame.ensures _ then c.in_ok-put_results-in-JudgedGame.ensures)

pub returns-in_ok-put_mates-in-ListedMates : goal.returns-in_ok-put_mates-in-ListedMates
unfolding found_members
returns-in_ok-put_mates-in-ListedMates c = rw c.in-ListedMates.is (next _ _ _ _ _ c.in_ok-put_fen-in-ListedMates.ensures then c.in_ok-put_mates-in-ListedMates.ensures)

pub returns-in_ok-put_refused-in-RefusedLine : goal.returns-in_ok-put_refused-in-RefusedLine
unfolding found_members
returns-in_ok-put_refused-in-RefusedLine c = rw c.in-RefusedLine.is (next _ _ _ _ _ c.in_ok-put_refused-in-RefusedLine.ensures)

pub returns-in_ok-put_unreadable-in-UnreadableGame : goal.returns-in_ok-put_unreadable-in-UnreadableGame
unfolding found_members
returns-in_ok-put_unreadable-in-UnreadableGame c = rw c.in-UnreadableGame.is (next _ _ _ _ _ c.in_ok-put_unreadable-in-UnreadableGame.ensures)

pub returns-in_ok-put_replay-in-Replayed : goal.returns-in_ok-put_replay-in-Replayed
unfolding found_members
returns-in_ok-put_replay-in-Replayed c = rw c.in-Replayed.is c.in_ok-put_replay-in-Replayed.ensures
