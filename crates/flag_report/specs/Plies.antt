-- The texts that are printed for the moves of a game (this project).
use Rattle.std.specs.Prelude.{ℕ, ◌+◌, List, [], ◌∷◌, ◌++◌, Option, Some, None, codes}
use Rattle.cha_board.specs.Board.{Board}
use Rattle.cha_fen.specs.Written.{fen_text}
use Rattle.cha_moves.specs.Step.{Move}
use Rattle.cha_moves.specs.Moves.{after}
use Rattle.cha_outcome.specs.declared.items.ReplayedGame.{ReplayedGame}
use Rattle.cha_outcome.specs.declared.unreadable.Unreadable.{Unreadable}
use Rattle.report_words.specs.Counts.{count_text}
use Rattle.report_words.specs.Reasons.{reason_text}
use Rattle.flag_report.specs.Findings.{line, moves_text, words_text, fen_line}

-- a move in a position, under its number: in both notations, and the position after it
unfoldable pub ply_text : ℕ → Board → Move → List ℕ
ply_text number q m = line (count_text (codes "ply ") number ++ codes ":" ++ moves_text (m ∷ []) ++ words_text q (m ∷ []) ++ codes " " ++ fen_text (after q m))

-- moves that are made one after the other, numbered from here on
unfoldable pub ply_texts : ℕ → Board → List Move → List ℕ
ply_texts number q [] = []
ply_texts number q (m ∷ ms) = ply_text number q m ++ ply_texts (number + 1) (after q m) ms

-- the position from which they are made, if it is known, and they
unfoldable pub moves_part : Option Board → List Move → List ℕ
moves_part None ms = []
moves_part (Some q) ms = fen_line q ++ ply_texts 1 q ms

-- why a game cannot be read, if it cannot
unfoldable pub unreadable_line : Unreadable → List ℕ
unreadable_line why = line (codes "unreadable: " ++ reason_text why)

unfoldable pub why_part : Option Unreadable → List ℕ
why_part None = []
why_part (Some why) = unreadable_line why

-- the lines on the moves of a game
abbrev pub replay_text : ReplayedGame → List ℕ
replay_text game = moves_part game.start game.moves ++ why_part game.why
