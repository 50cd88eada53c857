-- What is said of a position and of a game, in chess alone: of sets and of certificates nothing (this project).
use Rattle.std.specs.Prelude.{◌≡◌, ℕ, ◌<◌, true, false, List, length, Option, Some, None, Contains, ⊤}
use Rattle.cha_list.specs.Distinct.{AreDistinct}
use Rattle.cha_board.specs.declared.men.Color.{Color}
use Rattle.cha_board.specs.Men.{other_color}
use Rattle.cha_board.specs.Board.{Board}
use Rattle.cha_limits.specs.Bounds.{Bounds}
use Rattle.cha_moves.specs.Step.{Move}
use Rattle.cha_moves.specs.Ends.{IsMatingLine, IsUnwinnable, HasNoMateWithin}
use Rattle.cha_moves.specs.Lines.{LeadTo}
use Rattle.cha_moves.specs.Standings.{standing_of}
use Rattle.mob_law.specs.Explored.{AreMateless}
use Rattle.cha_verdict.specs.declared.verdicts.Verdict.{Verdict}
use Rattle.cha_verdict.specs.declared.verdicts.Verdict.TheVariants.{Winnable, Unwinnable, Undecided, Skipped}
use Rattle.cha_verdict.specs.declared.decisions.Decision.{Decision}
use Rattle.cha_verdict.specs.declared.scans.Scan.{Scan}
use Rattle.cha_verdict.specs.Verdicts.{is_winnable, is_skipped, are_dead}
use Rattle.cha_verdict.specs.Sound.{verdict_on}
use Rattle.cha_verdict.specs.Scans.{ShowsDead}
use Rattle.cha_outcome.specs.declared.outcomes.Outcome.{Outcome}
use Rattle.cha_outcome.specs.declared.outcomes.Outcome.TheVariants.{JudgedPosition, JudgedGame, ListedMates, RefusedLine, UnreadableGame, Replayed}
use Rattle.cha_outcome.specs.declared.questions.FlaggedDraws.{FlaggedDraws}
use Rattle.cha_outcome.specs.PlayedOut.{IsPlayedOut}
use Rattle.cha_outcome.specs.PositionStatuses.{status_of}
use Rattle.cha_outcome.specs.Rulings.{judgment_of}

-- legal moves lead to so many distinct positions, of which none is a mate by a side, nor is one after a further move
pub record AreTried (q : Board) (winner : Color) (count : ℕ) : Type 0 where
  pub members : List Board
  pub size : length members ≡ count
  pub distinct : AreDistinct members
  pub reached : (r : Board) → Contains members r → (ms : List Move) × LeadTo q ms r
  pub mateless : AreMateless members winner

-- What a verdict on a side says: some legal moves end in a mate by it; no series of legal moves does; or, with the budget spent, none of
-- so many positions is such a mate and none comes within so many plies. Where the side was skipped it says nothing.
abbrev pub Says : Board → Color → Bounds → Verdict → Type 0
Says q winner limits (Winnable moves) = IsMatingLine q winner moves
Says q winner limits (Unwinnable cert) = IsUnwinnable q winner
Says q winner limits (Undecided positions depth) = (positions ≡ limits.budget) × AreTried q winner positions × HasNoMateWithin q winner depth
Says q winner limits Skipped = ⊤

-- what both verdicts say: a side is skipped only where the other one can mate
pub record Means (q : Board) (limits : Bounds) (d : Decision) : Type 0 where
  pub says : (winner : Color) → Says q winner limits (verdict_on d winner)
  pub skips : (winner : Color) → is_skipped (verdict_on d winner) ≡ true → is_winnable (verdict_on d (other_color winner)) ≡ true

-- what is said of where a game was dead: if its last position is dead, one of its positions from which on each is
abbrev pub MeansDead : List Board → Decision → Option Scan → Type 0
MeansDead qs d None = are_dead d.white d.black ≡ false
MeansDead qs d (Some scan) = (scan.ply < length qs) × ShowsDead qs scan

-- What an outcome says: of a position both verdicts, and the status by them; of a game, which was played to its final position by legal
-- moves, these of that position, where it was dead, and the result by all that. A line that is no position and a game that cannot be read
-- have no verdicts.
unfoldable pub IsMeant : Bounds → FlaggedDraws → Outcome → Type 0
IsMeant limits draws (JudgedPosition number q d status) = Means q limits d × (status ≡ status_of (standing_of q) d.white d.black)
IsMeant limits draws (JudgedGame game d scan status judgment) =
    Means game.last limits d × MeansDead game.positions d scan × (status ≡ status_of (standing_of game.last) d.white d.black)
    × (judgment ≡ judgment_of draws game d scan) × IsPlayedOut game
IsMeant limits draws (RefusedLine number fault) = ⊤
IsMeant limits draws (UnreadableGame span why) = ⊤
IsMeant limits draws (ListedMates number q depth found) = ⊥
IsMeant limits draws (Replayed game) = ⊥
