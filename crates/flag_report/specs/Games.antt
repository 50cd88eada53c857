-- The texts of the result of a game (this project).
use Rattle.std.specs.Prelude.{ℕ, List, ◌++◌, codes}
use Rattle.pgn_games.specs.declared.marks.ResultMark.{ResultMark}
use Rattle.cha_outcome.specs.declared.rulings.Cause.{Cause}
use Rattle.cha_outcome.specs.declared.rulings.Cause.TheVariants.{Mate511, Stalemate521, Dead522, Flag69, FlagOfMover69, Recorded, RecordedUndecided}
use Rattle.cha_outcome.specs.declared.rulings.Judgment.{Judgment}
use Rattle.pgn_games.specs.Cutting.{mark_text}
use Rattle.flag_report.specs.Findings.{line}

-- why a game has its result: an article of the Laws of Chess, or that it was recorded so
unfoldable pub cause_text : Cause → List ℕ
cause_text Mate511 = codes "by 5.1.1"
cause_text Stalemate521 = codes "by 5.2.1"
cause_text Dead522 = codes "by 5.2.2"
cause_text Flag69 = codes "by 6.9"
cause_text FlagOfMover69 = codes "by 6.9, flag of the player to move"
cause_text Recorded = codes "as recorded"
cause_text RecordedUndecided = codes "as recorded, winner undecided"

-- the line with the recorded result, the result of the game, and why
unfoldable pub result_line : ResultMark → Judgment → List ℕ
result_line recorded ruling =
    line (codes "result: " ++ mark_text recorded ++ codes " -> " ++ mark_text ruling.mark ++ codes " " ++ cause_text ruling.cause)
