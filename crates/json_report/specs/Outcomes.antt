-- The value that a line on an outcome is (this project).
use Rattle.std.specs.Prelude.{ℕ, ◌-◌, List, [], ◌∷◌, ◌++◌, Option, Some, None, codes}
use Rattle.cha_board.specs.declared.men.Color.{Color}
use Rattle.cha_board.specs.declared.men.Color.TheVariants.{White, Black}
use Rattle.cha_board.specs.Board.{Board}
use Rattle.cha_fen.specs.Written.{fen_text}
use Rattle.cha_moves.specs.Step.{Move}
use Rattle.cha_outcome.specs.declared.items.PlayedGame.{PlayedGame}
use Rattle.cha_outcome.specs.declared.outcomes.Outcome.{Outcome}
use Rattle.cha_outcome.specs.declared.outcomes.Outcome.TheVariants.{JudgedPosition, JudgedGame, ListedMates, RefusedLine, UnreadableGame, Replayed}
use Rattle.cha_outcome.specs.declared.rulings.Cause.{Cause}
use Rattle.cha_outcome.specs.declared.rulings.Cause.TheVariants.{Mate511, Stalemate521, Dead522, Flag69, FlagOfMover69, Recorded, RecordedUndecided}
use Rattle.cha_outcome.specs.declared.rulings.Judgment.{Judgment}
use Rattle.cha_outcome.specs.declared.status.PositionStatus.{PositionStatus}
use Rattle.cha_outcome.specs.Rulings.{fallen_flag, is_changed}
use Rattle.cha_verdict.specs.declared.decisions.Decision.{Decision}
use Rattle.cha_verdict.specs.declared.scans.Edge.{Edge}
use Rattle.cha_verdict.specs.declared.scans.Edge.TheVariants.{Start, Live, Unclear}
use Rattle.cha_verdict.specs.declared.scans.Scan.{Scan}
use Rattle.helpmate_list.specs.declared.answers.Shortest.{Shortest}
use Rattle.helpmate_list.specs.declared.answers.Shortest.TheVariants.{NoneWithin, Found}
use Rattle.pgn_games.specs.declared.played.Span.{Span}
use Rattle.report_words.specs.Reasons.{fen_fault_text, reason_text}
use Rattle.pgn_games.specs.Cutting.{mark_text}
use Rattle.report_words.specs.Words.{status_text}
use Rattle.json.specs.Json.{Json, null, boolean, string, array, object, Items, no_items, item, Members, no_members, member}
use Rattle.json_text.specs.Texts.{json_text}
use Rattle.report_style.specs.declared.styles.Extras.{Extras}
use Rattle.json_report.specs.Lines.{count, line_members}
use Rattle.json_report.specs.Plies.{replay_members}
use Rattle.json_report.specs.Verdicts.{verdict_json}

-- the earliest ply that is shown dead, and the ply before it where nothing was shown about that one
abbrev pub edge_members : Edge → ℕ → Members
edge_members Start ply = no_members
edge_members Live ply = no_members
edge_members Unclear ply = member (codes "undecided") (count (ply - 1)) no_members

unfoldable pub scan_json : Option Scan → Json
scan_json None = null
scan_json (Some scan) = object (member (codes "ply") (count scan.ply) (edge_members scan.edge scan.ply))

-- the article of the Laws of Chess by which a game has its result
unfoldable pub article_json : Cause → Json
article_json Mate511 = string (codes "5.1.1")
article_json Stalemate521 = string (codes "5.2.1")
article_json Dead522 = string (codes "5.2.2")
article_json Flag69 = string (codes "6.9")
article_json FlagOfMover69 = string (codes "6.9")
article_json Recorded = null
article_json RecordedUndecided = null

-- whose flag fell
unfoldable pub flag_json : Option Color → Json
flag_json None = null
flag_json (Some White) = string (codes "white")
flag_json (Some Black) = string (codes "black")

-- the members that say where a game stands in its text, before others
abbrev pub span_members : Span → Members → Members
span_members span more = member (codes "bytes") (array (item (count span.start) (item (count span.end) no_items))) (member (codes "line") (count span.line) more)

-- the members that say what is found about a position, before others
abbrev pub finding_members : Extras → Board → Decision → PositionStatus → Members → Members
finding_members extras q d status more =
    member (codes "fen") (string (fen_text q)) (member (codes "white") (verdict_json extras q White d.white)
    (member (codes "black") (verdict_json extras q Black d.black) (member (codes "status") (string (status_text status)) more)))

-- the members that say which result a game has
abbrev pub result_members : PlayedGame → Option Scan → Judgment → Members
result_members game scan judgment =
    member (codes "dead_from") (scan_json scan) (member (codes "recorded") (string (mark_text game.recorded)) (member (codes "result") (string (mark_text judgment.mark))
    (member (codes "changed") (boolean (is_changed game.recorded judgment.mark)) (member (codes "article") (article_json judgment.cause) (member (codes "flagged") (boolean game.forfeit) (member (codes "flag") (flag_json (fallen_flag game judgment.cause)) no_members))))))

-- a line of moves, and lines of moves
abbrev pub line_json : Board → List Move → Json
line_json q ms = object (line_members q ms no_members)

abbrev pub line_items : Board → List (List Move) → Items
line_items q [] = no_items
line_items q (ms ∷ lines) = item (line_json q ms) (line_items q lines)

-- the shortest mates in a position within so many plies
unfoldable pub mates_members : Board → ℕ → Shortest → Members
mates_members q depth NoneWithin = member (codes "plies") null (member (codes "depth") (count depth) no_members)
mates_members q depth (Found plies lines more) =
    member (codes "plies") (count plies) (member (codes "lines") (array (line_items q lines)) (member (codes "more") (boolean more) no_members))

-- the members that say which item of its text an outcome is of, by its number in the report, before others
abbrev pub line_place : ℕ → ℕ → Members → Members
line_place number line more = member (codes "position") (count number) (member (codes "line") (count line) more)

abbrev pub game_place : ℕ → Span → Members → Members
game_place number span more = member (codes "game") (count number) (span_members span more)

unfoldable pub place_members : ℕ → Outcome → Members → Members
place_members number (JudgedPosition line q d status) more = line_place number line more
place_members number (JudgedGame game d scan status judgment) more = game_place number game.span more
place_members number (ListedMates line q depth found) more = line_place number line more
place_members number (RefusedLine line fault) more = line_place number line more
place_members number (UnreadableGame span why) more = game_place number span more
place_members number (Replayed game) more = game_place number game.span more

-- the members that say what is found
unfoldable pub found_members : Extras → Outcome → Members
found_members extras (JudgedPosition line q d status) = finding_members extras q d status no_members
found_members extras (JudgedGame game d scan status judgment) = finding_members extras game.last d status (result_members game scan judgment)
found_members extras (ListedMates line q depth found) = member (codes "fen") (string (fen_text q)) (mates_members q depth found)
found_members extras (RefusedLine line fault) = member (codes "refused") (string (fen_fault_text fault)) no_members
found_members extras (UnreadableGame span why) = member (codes "unreadable") (string (reason_text why)) no_members
found_members extras (Replayed game) = replay_members game

-- an outcome under a number
abbrev pub outcome_json : Extras → ℕ → Outcome → Json
outcome_json extras number o = object (place_members number o (found_members extras o))

-- the line on an outcome
abbrev pub outcome_line : Extras → ℕ → Outcome → List ℕ
outcome_line extras number o = json_text (outcome_json extras number o) ++ 10 ∷ []
