-- What is found about an item (this project).
use Rattle.std.specs.Prelude.{◌≡◌, ℕ, Bool, true, false, ◌||◌, if◌then◌else◌, List, [], ◌∷◌, Option, Some, None, is_some, IfSome, ⊤}
use Rattle.cha_board.specs.declared.men.Color.{Color}
use Rattle.cha_board.specs.declared.men.Color.TheVariants.{White}
use Rattle.cha_board.specs.Board.{Board, IsValid}
use Rattle.cha_moves.specs.Standings.{standing_of}
use Rattle.pgn_games.specs.declared.marks.ResultMark.{ResultMark}
use Rattle.cha_limits.specs.Bounds.{Bounds}
use Rattle.cha_verdict.specs.declared.decisions.Decision.{Decision}
use Rattle.cha_verdict.specs.declared.scans.Scan.{Scan}
use Rattle.cha_verdict.specs.Verdicts.{is_undecided, IsPrintable}
use Rattle.cha_verdict.specs.Sound.{IsSound, IsComplete, verdict_on}
use Rattle.cha_verdict.specs.Scans.{HasScan, ShowsDead, IsPrintableScan}
use Rattle.helpmate_list.specs.declared.answers.Shortest.{Shortest}
use Rattle.helpmate_list.specs.declared.answers.Shortest.TheVariants.{NoneWithin, Found}
use Rattle.helpmate_list.specs.Shortest.{shortest}
use Rattle.cha_outcome.specs.declared.items.Item.{Item}
use Rattle.cha_outcome.specs.declared.items.Item.TheVariants.{Position, RefusedLine as Refused, Played, UnreadableGame as Unread, Replayed as Told}
use Rattle.cha_outcome.specs.declared.questions.FlaggedDraws.{FlaggedDraws}
use Rattle.cha_outcome.specs.declared.questions.Question.{Question}
use Rattle.cha_outcome.specs.declared.questions.Question.TheVariants.{Verdicts, Mates, Plies}
use Rattle.cha_outcome.specs.declared.outcomes.Outcome.{Outcome}
use Rattle.cha_outcome.specs.declared.outcomes.Outcome.TheVariants.{JudgedPosition, JudgedGame, ListedMates, RefusedLine, UnreadableGame, Replayed}
use Rattle.cha_outcome.specs.LegalMoves.{AreLegalFrom}
use Rattle.cha_outcome.specs.PlayedOut.{IsPlayedOut}
use Rattle.cha_outcome.specs.PositionStatuses.{status_of, is_dead}
use Rattle.cha_outcome.specs.Rulings.{first_of, is_changed, judgment_of}

-- the item that an outcome is of
unfoldable pub item_of : Outcome → Item
item_of (JudgedPosition number q d status) = Position number q
item_of (JudgedGame game d scan status judgment) = Played game
item_of (ListedMates number q depth found) = Position number q
item_of (RefusedLine number fault) = Refused number fault
item_of (UnreadableGame span why) = Unread span why
item_of (Replayed game) = Told game

-- Verdicts on a valid position are true of it, with this side examined first, and miss nothing that they have to find.
pub record IsDecided (q : Board) (first : Color) (limits : Bounds) (d : Decision) : Type 0 where
  pub valid : IsValid q
  pub sound : IsSound q first limits d
  pub complete : (winner : Color) → IsComplete q winner limits (verdict_on d winner)

-- The verdicts are true of the position and miss nothing, and the status and the result are by them. A game was played to its final
-- position. Where that is shown dead the game has a sound scan, and each position from its ply on is dead and, unless its edge is unclear,
-- none before it; no other game has one. A line that is refused and a game that cannot be read have no verdicts.
unfoldable pub HasSoundVerdicts : Bounds → FlaggedDraws → Outcome → Type 0
HasSoundVerdicts limits draws (JudgedPosition number q d status) = IsDecided q White limits d × (status ≡ status_of (standing_of q) d.white d.black)
HasSoundVerdicts limits draws (JudgedGame game d scan status judgment) =
    IsDecided game.last (first_of draws game) limits d × HasScan game.positions (first_of draws game) limits d scan
    × (status ≡ status_of (standing_of game.last) d.white d.black) × (judgment ≡ judgment_of draws game d scan)
    × IsPlayedOut game × IfSome scan (ShowsDead game.positions)
HasSoundVerdicts limits draws (ListedMates number q depth found) = ⊥
HasSoundVerdicts limits draws (RefusedLine number fault) = ⊤
HasSoundVerdicts limits draws (UnreadableGame span why) = ⊤
HasSoundVerdicts limits draws (Replayed game) = ⊥

-- what was found are the shortest mates of the position within that many plies
unfoldable pub HasShortestMates : Color → ℕ → Outcome → Type 0
HasShortestMates side depth (JudgedPosition number q d status) = ⊥
HasShortestMates side depth (JudgedGame game d scan status judgment) = ⊥
HasShortestMates side depth (ListedMates number q within found) = (within ≡ depth) × (found ≡ shortest q side depth)
HasShortestMates side depth (RefusedLine number fault) = ⊤
HasShortestMates side depth (UnreadableGame span why) = ⊤
HasShortestMates side depth (Replayed game) = ⊥

-- the moves of a game are told, and each is legal in its turn
unfoldable pub TellsMoves : Outcome → Type 0
TellsMoves (JudgedPosition number q d status) = ⊥
TellsMoves (JudgedGame game d scan status judgment) = ⊥
TellsMoves (ListedMates number q depth found) = ⊥
TellsMoves (RefusedLine number fault) = ⊥
TellsMoves (UnreadableGame span why) = ⊥
TellsMoves (Replayed game) = AreLegalFrom game.start game.moves

-- an outcome answers a question
abbrev pub IsSoundOutcome : Question → Outcome → Type 0
IsSoundOutcome (Verdicts limits draws) o = HasSoundVerdicts limits draws o
IsSoundOutcome (Mates side depth) o = HasShortestMates side depth o
IsSoundOutcome Plies o = TellsMoves o

-- it does, about this item
abbrev pub Answers : Question → Item → Outcome → Type 0
Answers question item o = (item_of o ≡ item) × IsSoundOutcome question o

-- a question can be asked about an item: a game is judged that was played to its final position, mates are looked for in positions and not
-- in games, and moves are told of games alone, which are not judged
abbrev pub CanBeAsked : Question → Item → Type 0
CanBeAsked (Verdicts limits draws) (Position number q) = ⊤
CanBeAsked (Verdicts limits draws) (Refused number fault) = ⊤
CanBeAsked (Verdicts limits draws) (Played game) = IsPlayedOut game
CanBeAsked (Verdicts limits draws) (Unread span why) = ⊤
CanBeAsked (Verdicts limits draws) (Told game) = ⊥
CanBeAsked (Mates side depth) (Position number q) = ⊤
CanBeAsked (Mates side depth) (Refused number fault) = ⊤
CanBeAsked (Mates side depth) (Played game) = ⊥
CanBeAsked (Mates side depth) (Unread span why) = ⊤
CanBeAsked (Mates side depth) (Told game) = ⊥
CanBeAsked Plies (Position number q) = ⊥
CanBeAsked Plies (Refused number fault) = ⊥
CanBeAsked Plies (Played game) = ⊥
CanBeAsked Plies (Unread span why) = ⊥
CanBeAsked Plies (Told game) = AreLegalFrom game.start game.moves

-- each outcome answers the question
abbrev pub AllSound : Question → List Outcome → Type 0
AllSound question [] = ⊤
AllSound question (o ∷ os) = IsSoundOutcome question o × AllSound question os

-- the certificates of an outcome can be printed
abbrev pub ArePrintable : Decision → Type 0
ArePrintable d = IsPrintable d.white × IsPrintable d.black

abbrev pub IsPrintableIfScanned : Option Scan → Type 0
IsPrintableIfScanned None = ⊤
IsPrintableIfScanned (Some scan) = IsPrintableScan scan.earlier

abbrev pub IsPrintableOutcome : Outcome → Type 0
IsPrintableOutcome (JudgedPosition number q d status) = ArePrintable d
IsPrintableOutcome (JudgedGame game d scan status judgment) = ArePrintable d × IsPrintableIfScanned scan
IsPrintableOutcome (ListedMates number q depth found) = ⊤
IsPrintableOutcome (RefusedLine number fault) = ⊤
IsPrintableOutcome (UnreadableGame span why) = ⊤
IsPrintableOutcome (Replayed game) = ⊤

-- a line that is refused, or a game that cannot be read
unfoldable pub is_refused : Outcome → Bool
is_refused (RefusedLine number fault) = true
is_refused (UnreadableGame span why) = true
is_refused (Replayed game) = is_some game.why
is_refused _ = false

-- a position that is dead
unfoldable pub is_dead_position : Outcome → Bool
is_dead_position (JudgedPosition number q d status) = is_dead status
is_dead_position _ = false

-- a game that has another result than the recorded one
unfoldable pub is_changed_game : Outcome → Bool
is_changed_game (JudgedGame game d scan status judgment) = is_changed game.recorded judgment.mark
is_changed_game _ = false

-- the result that a game gets in place of the recorded one
unfoldable pub new_result : Outcome → Option ResultMark
new_result (JudgedGame game d scan status judgment) = if is_changed game.recorded judgment.mark then Some judgment.mark else None
new_result _ = None

-- a side of which nothing was shown
abbrev pub has_open_side : Decision → Bool
has_open_side d = is_undecided d.white || is_undecided d.black

unfoldable pub is_open : Outcome → Bool
is_open (JudgedPosition number q d status) = has_open_side d
is_open (JudgedGame game d scan status judgment) = has_open_side d
is_open _ = false

-- there is a mate
abbrev pub is_found : Shortest → Bool
is_found NoneWithin = false
is_found (Found plies lines more) = true

-- a position that has one
unfoldable pub has_mates : Outcome → Bool
has_mates (ListedMates number q depth found) = is_found found
has_mates _ = false
