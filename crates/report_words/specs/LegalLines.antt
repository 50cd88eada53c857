-- Outcomes whose moves are legal, each in its turn (this project).
use Rattle.std.specs.Prelude.{List, [], ◌∷◌, ⊤}
use Rattle.cha_board.specs.Board.{Board}
use Rattle.cha_moves.specs.Step.{Move}
use Rattle.cha_outcome.specs.declared.outcomes.Outcome.{Outcome}
use Rattle.cha_outcome.specs.declared.outcomes.Outcome.TheVariants.{JudgedPosition, JudgedGame, ListedMates, RefusedLine, UnreadableGame, Replayed}
use Rattle.cha_outcome.specs.LegalMoves.{AreLegal, AreLegalFrom}
use Rattle.cha_verdict.specs.declared.decisions.Decision.{Decision}
use Rattle.cha_verdict.specs.declared.verdicts.Verdict.{Verdict}
use Rattle.cha_verdict.specs.declared.verdicts.Verdict.TheVariants.{Winnable, Unwinnable, Undecided, Skipped}
use Rattle.helpmate_list.specs.declared.answers.Shortest.{Shortest}
use Rattle.helpmate_list.specs.declared.answers.Shortest.TheVariants.{NoneWithin, Found}

-- the moves of each line are legal in their turn
abbrev pub AllLegal : Board → List (List Move) → Type 0
AllLegal q [] = ⊤
AllLegal q (ms ∷ lines) = AreLegal q ms × AllLegal q lines

-- so are those of a verdict on a side in a position
abbrev pub IsOfLegalMoves : Board → Verdict → Type 0
IsOfLegalMoves q (Winnable moves) = AreLegal q moves
IsOfLegalMoves q (Unwinnable cert) = ⊤
IsOfLegalMoves q (Undecided positions depth) = ⊤
IsOfLegalMoves q Skipped = ⊤

-- so are those of the verdicts on both sides
abbrev pub AreOfLegalMoves : Board → Decision → Type 0
AreOfLegalMoves q d = IsOfLegalMoves q d.white × IsOfLegalMoves q d.black

-- so are those of the shortest mates
abbrev pub HaveLegalLines : Board → Shortest → Type 0
HaveLegalLines q NoneWithin = ⊤
HaveLegalLines q (Found plies lines more) = AllLegal q lines

-- so are those of an outcome
abbrev pub HasLegalLines : Outcome → Type 0
HasLegalLines (JudgedPosition line q d status) = AreOfLegalMoves q d
HasLegalLines (JudgedGame game d scan status judgment) = AreOfLegalMoves game.last d
HasLegalLines (ListedMates line q depth found) = HaveLegalLines q found
HasLegalLines (RefusedLine line fault) = ⊤
HasLegalLines (UnreadableGame span why) = ⊤
HasLegalLines (Replayed game) = AreLegalFrom game.start game.moves
