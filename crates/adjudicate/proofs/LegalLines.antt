-- The moves of sound outcomes are legal.
use Rattle.std.proofs.Common.{ℕ, zero, suc, ◌+◌, List, [], ◌∷◌, take, refl, sym, subst, arith}
use Rattle.std.specs.List.{Contains}
use Rattle.cha_board.specs.declared.men.Color.{Color}
use Rattle.cha_board.specs.declared.men.Color.TheVariants.{White, Black}
use Rattle.cha_board.specs.Board.{Board}
use Rattle.cha_limits.specs.Bounds.{Bounds}
use Rattle.cha_moves.specs.Step.{Move}
use Rattle.cha_moves.specs.Moves.{after}
use Rattle.cha_moves.specs.Ends.{IsMatingLine}
use Rattle.cha_verdict.specs.declared.verdicts.Verdict.{Verdict}
use Rattle.cha_verdict.specs.declared.verdicts.Verdict.TheVariants.{Winnable, Unwinnable, Undecided, Skipped}
use Rattle.cha_verdict.specs.Sound.{IsTrueOf}
use Rattle.cha_moves.specs.MateLines.{mate_lines}
use Rattle.cha_moves.proofs.MateLines.{mate_lines_are}
use Rattle.helpmate_list.specs.declared.answers.Shortest.{Shortest}
use Rattle.helpmate_list.specs.Shortest.{found_or, shortest_from, shortest}
use Rattle.cha_outcome.specs.declared.questions.FlaggedDraws.{FlaggedDraws}
use Rattle.cha_outcome.specs.declared.questions.Question.{Question}
use Rattle.cha_outcome.specs.declared.questions.Question.TheVariants.{Verdicts, Mates, Plies}
use Rattle.cha_outcome.specs.declared.outcomes.Outcome.{Outcome}
use Rattle.cha_outcome.specs.declared.outcomes.Outcome.TheVariants.{JudgedPosition, JudgedGame, ListedMates, RefusedLine, UnreadableGame, Replayed}
use Rattle.cha_outcome.specs.Outcomes.{HasSoundVerdicts, HasShortestMates, TellsMoves, IsSoundOutcome}
use Rattle.cha_outcome.specs.LegalMoves.{AreLegal}
use Rattle.report_words.specs.LegalLines.{AllLegal, IsOfLegalMoves, HaveLegalLines, HasLegalLines}

-- a mating line is of legal moves
pub mating_is_legal : (q : Board) (winner : Color) (ms : List Move) → IsMatingLine q winner ms → AreLegal q ms
mating_is_legal q winner [] h = tt
mating_is_legal q winner (m ∷ ms) h = (h.0, mating_is_legal (after q m) winner ms h.1)

-- so are the moves of a true verdict
pub true_is_legal : (q : Board) (winner : Color) (limits : Bounds) (v : Verdict) → IsTrueOf q winner limits v → IsOfLegalMoves q v
true_is_legal q winner limits (Winnable moves) h = mating_is_legal q winner moves h
true_is_legal q winner limits (Unwinnable cert) h = tt
true_is_legal q winner limits (Undecided positions depth) h = tt
true_is_legal q winner limits Skipped h = tt

-- so are the lines of a list, where each of them mates
all_mating : (q : Board) (winner : Color) (ls : List (List Move)) → ((ms : List Move) → Contains ls ms → IsMatingLine q winner ms) → AllLegal q ls
all_mating q winner [] h = tt
all_mating q winner (l ∷ ls) h = (mating_is_legal q winner l (h l (0, omega arith, refl)), all_mating q winner ls (λ ms c. h ms (suc c.0, omega (arith, c.1), c.2)))

legal_front : (q : Board) (n : ℕ) (ls : List (List Move)) → AllLegal q ls → AllLegal q (take n ls)
legal_front q zero ls h = tt
legal_front q (suc n) [] h = tt
legal_front q (suc n) (l ∷ ls) h = (h.0, legal_front q n ls h.1)

-- so are the shortest mates
found_legal : (q : Board) (n : ℕ) (ls : List (List Move)) (longer : Shortest) → AllLegal q ls → HaveLegalLines q longer → HaveLegalLines q (found_or n ls longer)
unfolding found_or
found_legal q n [] longer h g = g
found_legal q n (l ∷ ls) longer h g = legal_front q 200 (l ∷ ls) h

shortest_legal : (k n : ℕ) (q : Board) (winner : Color) → HaveLegalLines q (shortest_from k n q winner)
unfolding shortest_from
shortest_legal zero n q winner = tt
shortest_legal (suc k) n q winner =
    found_legal q n (mate_lines n q winner) (shortest_from k (n + 1) q winner) (all_mating q winner (mate_lines n q winner) (λ ms c. let mates = (mate_lines_are n q winner ms).0 c in mates.0)) (shortest_legal k (n + 1) q winner)

-- so are those of each sound outcome
verdicts_legal : (limits : Bounds) (draws : FlaggedDraws) (o : Outcome) → HasSoundVerdicts limits draws o → HasLegalLines o
unfolding HasSoundVerdicts
verdicts_legal limits draws (JudgedPosition line q d status) h = (true_is_legal q White limits d.white (h.0.sound.true_of White), true_is_legal q Black limits d.black (h.0.sound.true_of Black))
verdicts_legal limits draws (JudgedGame game d scan status judgment) h = (true_is_legal game.last White limits d.white (h.0.sound.true_of White), true_is_legal game.last Black limits d.black (h.0.sound.true_of Black))
verdicts_legal limits draws (ListedMates line q depth found) h = absurd h
verdicts_legal limits draws (RefusedLine line fault) h = tt
verdicts_legal limits draws (UnreadableGame span why) h = tt
verdicts_legal limits draws (Replayed game) h = absurd h

mates_legal : (side : Color) (depth : ℕ) (o : Outcome) → HasShortestMates side depth o → HasLegalLines o
unfolding HasShortestMates shortest
mates_legal side depth (JudgedPosition line q d status) h = absurd h
mates_legal side depth (JudgedGame game d scan status judgment) h = absurd h
mates_legal side depth (ListedMates line q within found) h = subst (HaveLegalLines q) (sym h.1) (shortest_legal (depth + 1) 0 q side)
mates_legal side depth (RefusedLine line fault) h = tt
mates_legal side depth (UnreadableGame span why) h = tt
mates_legal side depth (Replayed game) h = absurd h

told_legal : (o : Outcome) → TellsMoves o → HasLegalLines o
unfolding TellsMoves
told_legal (JudgedPosition line q d status) h = absurd h
told_legal (JudgedGame game d scan status judgment) h = absurd h
told_legal (ListedMates line q depth found) h = absurd h
told_legal (RefusedLine line fault) h = absurd h
told_legal (UnreadableGame span why) h = absurd h
told_legal (Replayed game) h = h

pub sound_is_legal : (question : Question) (o : Outcome) → IsSoundOutcome question o → HasLegalLines o
sound_is_legal (Verdicts limits draws) o h = verdicts_legal limits draws o h
sound_is_legal (Mates side depth) o h = mates_legal side depth o h
sound_is_legal Plies o h = told_legal o h
