-- The report of a judge without certificates, with moves in coordinates (this project).
use Rattle.std.specs.Prelude.{◌≡◌, ℕ, ◌+◌, List, [], ◌∷◌, ◌++◌, length, map, Option, Some, None, codes, decimal, ⊤}
use Rattle.cha_board.specs.Board.{Board}
use Rattle.cha_limits.specs.Bounds.{Bounds}
use Rattle.cha_verdict.specs.declared.verdicts.Verdict.{Verdict}
use Rattle.cha_verdict.specs.declared.verdicts.Verdict.TheVariants.{Winnable, Unwinnable, Undecided, Skipped}
use Rattle.cha_verdict.specs.declared.decisions.Decision.{Decision}
use Rattle.cha_verdict.specs.declared.scans.Scan.{Scan}
use Rattle.cha_outcome.specs.declared.items.Item.{Item}
use Rattle.cha_outcome.specs.declared.outcomes.Outcome.{Outcome}
use Rattle.cha_outcome.specs.declared.outcomes.Outcome.TheVariants.{JudgedPosition, JudgedGame, ListedMates, RefusedLine, UnreadableGame, Replayed}
use Rattle.cha_outcome.specs.declared.questions.FlaggedDraws.{FlaggedDraws}
use Rattle.cha_outcome.specs.declared.status.PositionStatus.{PositionStatus}
use Rattle.cha_outcome.specs.Outcomes.{item_of}
use Rattle.cha_outcome.specs.Totals.{totals_of}
use Rattle.report_words.specs.Counts.{count_text}
use Rattle.report_words.specs.Reasons.{fen_fault_text}
use Rattle.report_words.specs.Words.{status_text}
use Rattle.flag_report.specs.declared.styles.Subject.{Subject}
use Rattle.flag_report.specs.Styles.{label}
use Rattle.flag_report.specs.Findings.{line, moves_text, undecided_text, fen_line}
use Rattle.flag_report.specs.Games.{result_line}
use Rattle.flag_report.specs.Plies.{unreadable_line}
use Rattle.flag_report.specs.Scans.{edge_text}
use Rattle.flag_report.specs.Totals.{summary_text}
use Rattle.true_blocks.specs.Means.{IsMeant}

-- the words of a verdict
unfoldable pub verdict_words : Verdict → List ℕ
verdict_words (Winnable []) = codes "winnable in 0"
verdict_words (Winnable (m ∷ ms)) = codes "winnable in " ++ decimal (length (m ∷ ms)) ++ codes ":" ++ moves_text (m ∷ ms)
verdict_words (Unwinnable cert) = codes "unwinnable"
verdict_words (Undecided positions depth) = undecided_text positions depth
verdict_words Skipped = codes "skipped"

-- the four lines on a position
unfoldable pub position_lines : Board → Decision → PositionStatus → List ℕ
position_lines q d status =
    fen_line q ++ line (codes "white: " ++ verdict_words d.white) ++ line (codes "black: " ++ verdict_words d.black) ++ line (codes "status: " ++ status_text status)

-- the line on where a game was dead
unfoldable pub dead_line : Option Scan → List ℕ
dead_line None = []
dead_line (Some scan) = line (count_text (codes "dead from: ply ") scan.ply ++ edge_text scan.edge scan.ply)

-- the lines on an outcome behind the first
unfoldable pub plain_body : Outcome → List ℕ
plain_body (JudgedPosition number q d status) = position_lines q d status
plain_body (JudgedGame game d scan status judgment) = position_lines game.last d status ++ dead_line scan ++ result_line game.recorded judgment
plain_body (RefusedLine number fault) = line (codes "refused: " ++ fen_fault_text fault)
plain_body (UnreadableGame span why) = unreadable_line why
plain_body (ListedMates number q depth found) = []
plain_body (Replayed game) = []

-- the block of an outcome under a number, and the blocks of outcomes, numbered from here on
abbrev pub plain_block : ℕ → Outcome → List ℕ
plain_block number o = line (count_text (label o) number) ++ plain_body o

unfoldable pub plain_blocks : ℕ → List Outcome → List ℕ
plain_blocks number [] = []
plain_blocks number (o ∷ os) = plain_block number o ++ plain_blocks (number + 1) os

-- what each outcome says is true
abbrev pub AllMeant : Bounds → FlaggedDraws → List Outcome → Type 0
AllMeant limits draws [] = ⊤
AllMeant limits draws (o ∷ os) = IsMeant limits draws o × AllMeant limits draws os

-- A report is true of items: each has a block, in order, numbered from 1, that says what is true of it, and then comes the summary.
abbrev pub IsTrueReport : Bounds → FlaggedDraws → Subject → List Item → List ℕ → Type 0
IsTrueReport limits draws subject items out =
    (os : List Outcome) × (map item_of os ≡ items) × AllMeant limits draws os × (out ≡ plain_blocks 1 os ++ summary_text subject (totals_of os))
