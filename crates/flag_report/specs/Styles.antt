-- What is printed in each style (this project).
use Rattle.std.specs.Prelude.{ℕ, ◌+◌, Bool, List, [], ◌∷◌, ◌++◌, Option, codes}
use Rattle.cha_outcome.specs.declared.outcomes.Outcome.{Outcome}
use Rattle.cha_outcome.specs.declared.outcomes.Outcome.TheVariants.{JudgedPosition, JudgedGame, ListedMates, RefusedLine, UnreadableGame, Replayed}
use Rattle.cha_outcome.specs.declared.totals.Totals.{Totals}
use Rattle.report_words.specs.declared.columns.Column.{Column}
use Rattle.report_words.specs.Reasons.{fen_fault_text}
use Rattle.report_words.specs.Counts.{count_text}
use Rattle.json_report.specs.Outcomes.{outcome_line}
use Rattle.json_report.specs.Summaries.{summary_json, json_line}
use Rattle.report_style.specs.declared.styles.Style.{Style}
use Rattle.report_style.specs.declared.styles.Style.TheVariants.{Blocks, Json, SummaryAlone}
use Rattle.report_style.specs.declared.styles.BlockForm.{BlockForm}
use Rattle.flag_report.specs.declared.styles.Subject.{Subject}
use Rattle.flag_report.specs.Totals.{columns_of, closed_of, counts_line}
use Rattle.flag_report.specs.Findings.{line, fen_line, findings_text}
use Rattle.flag_report.specs.Scans.{scan_part}
use Rattle.flag_report.specs.Games.{result_line}
use Rattle.flag_report.specs.Mates.{mates_text}
use Rattle.flag_report.specs.Plies.{unreadable_line, replay_text}

-- the word in front of the number: a line is a position, and all else a game
unfoldable pub label : Outcome → List ℕ
label (JudgedPosition number q d status) = codes "position "
label (JudgedGame game d scan status judgment) = codes "game "
label (ListedMates number q depth found) = codes "position "
label (RefusedLine number fault) = codes "position "
label (UnreadableGame span why) = codes "game "
label (Replayed game) = codes "game "

-- the lines behind the first
unfoldable pub body : BlockForm → Outcome → List ℕ
body form (JudgedPosition number q d status) = findings_text form q d status
body form (JudgedGame game d scan status judgment) = findings_text form game.last d status ++ scan_part scan form.certs ++ result_line game.recorded judgment
body form (ListedMates number q depth found) = fen_line q ++ mates_text form.notation q depth found
body form (RefusedLine number fault) = line (codes "refused: " ++ fen_fault_text fault)
body form (UnreadableGame span why) = unreadable_line why
body form (Replayed game) = replay_text game

-- the block of an outcome under a number
abbrev pub block_text : BlockForm → ℕ → Outcome → List ℕ
block_text form number o = line (count_text (label o) number) ++ body form o

-- what is printed of an outcome under a number
unfoldable pub block : Style → ℕ → Outcome → List ℕ
block (Blocks form) number o = block_text form number o
block (Json extras) number o = outcome_line extras number o
block SummaryAlone number o = []

-- what is printed of outcomes, numbered from here on
unfoldable pub blocks : Style → ℕ → List Outcome → List ℕ
blocks style number [] = []
blocks style number (o ∷ os) = block style number o ++ blocks style (number + 1) os

-- what is printed at the end of a report that counts this; whether a text of games is closed is printed in JSON alone
abbrev pub last_line : Style → List Column → Option Bool → Totals → List ℕ
last_line (Blocks form) columns closed s = counts_line columns s
last_line (Json extras) columns closed s = json_line (summary_json columns closed s)
last_line SummaryAlone columns closed s = counts_line columns s

-- the same, by what the report is about
abbrev pub summary : Style → Subject → Bool → Totals → List ℕ
summary style subject closed s = last_line style (columns_of subject) (closed_of subject closed) s
