-- The texts that are printed for the shortest mates (this project).
use Rattle.std.specs.Prelude.{ℕ, Bool, if◌then◌else◌, List, [], ◌∷◌, ◌++◌, length, codes, decimal}
use Rattle.cha_board.specs.Board.{Board}
use Rattle.cha_moves.specs.Step.{Move}
use Rattle.helpmate_list.specs.declared.answers.Shortest.{Shortest}
use Rattle.helpmate_list.specs.declared.answers.Shortest.TheVariants.{NoneWithin, Found}
use Rattle.report_words.specs.Counts.{count_text}
use Rattle.report_style.specs.declared.styles.Notation.{Notation}
use Rattle.flag_report.specs.Findings.{line, notated}

-- a line of moves, where it has some
unfoldable pub mate_line_text : Notation → Board → List Move → List ℕ
mate_line_text notation q [] = []
mate_line_text notation q (m ∷ ms) = line (codes "line:" ++ notated notation q (m ∷ ms))

unfoldable pub mate_lines_text : Notation → Board → List (List Move) → List ℕ
mate_lines_text notation q [] = []
mate_lines_text notation q (ms ∷ lines) = mate_line_text notation q ms ++ mate_lines_text notation q lines

-- how many lines there are, or that there are more than are listed
unfoldable pub lines_count_text : ℕ → Bool → List ℕ
lines_count_text count more = if more then codes "over 200" else decimal count

-- the lines on the shortest mates in a position within so many plies: that there are none, or in how many plies they are and each of them
unfoldable pub mates_text : Notation → Board → ℕ → Shortest → List ℕ
mates_text notation q depth NoneWithin = line (count_text (codes "no mate within ") depth ++ codes " plies")
mates_text notation q depth (Found plies lines more) = line (count_text (codes "plies: ") plies ++ codes ", lines: " ++ lines_count_text (length lines) more) ++ mate_lines_text notation q lines
