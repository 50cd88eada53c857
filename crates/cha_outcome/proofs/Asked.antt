-- What can be asked about lines.
use Rattle.std.proofs.Common.{ℕ, ◌≢◌, refl}
use Rattle.cha_board.specs.Board.{Board}
use Rattle.cha_fen.specs.declared.faults.FenFault.{FenFault}
use Rattle.cha_outcome.specs.declared.items.Item.TheVariants.{Position, RefusedLine}
use Rattle.cha_outcome.specs.declared.questions.Question.{Question}
use Rattle.cha_outcome.specs.declared.questions.Question.TheVariants.{Verdicts, Mates, Plies}
use Rattle.cha_outcome.specs.Outcomes.{CanBeAsked}

pub position_asked : (line : ℕ) (q : Board) (question : Question) → question ≢ Plies → CanBeAsked question (Position line q)
position_asked line q (Verdicts limits draws) other = tt
position_asked line q (Mates side depth) other = tt
position_asked line q Plies other = other refl

pub refusal_asked : (line : ℕ) (fault : FenFault) (question : Question) → question ≢ Plies → CanBeAsked question (RefusedLine line fault)
refusal_asked line fault (Verdicts limits draws) other = tt
refusal_asked line fault (Mates side depth) other = tt
refusal_asked line fault Plies other = other refl
