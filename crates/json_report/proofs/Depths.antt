-- How deep the lines of a report nest.
use Rattle.std.proofs.Common.{◌≤◌, ℕ, ◌+◌, Bool, true, false, List, [], ◌∷◌, length, map, Option, Some, None, arith}
use Rattle.cha_board.specs.declared.men.Color.{Color}
use Rattle.cha_board.specs.declared.men.Color.TheVariants.{White, Black}
use Rattle.cha_board.specs.Board.{Board}
use Rattle.cha_moves.specs.Step.{Move}
use Rattle.cha_moves.specs.Moves.{after}
use Rattle.cha_moves.specs.Texts.{move_bytes}
use Rattle.cha_outcome.specs.declared.items.PlayedGame.{PlayedGame}
use Rattle.cha_outcome.specs.declared.items.ReplayedGame.{ReplayedGame}
use Rattle.cha_outcome.specs.declared.outcomes.Outcome.{Outcome}
use Rattle.cha_outcome.specs.declared.outcomes.Outcome.TheVariants.{JudgedPosition, JudgedGame, ListedMates, RefusedLine, UnreadableGame, Replayed}
use Rattle.cha_outcome.specs.declared.rulings.Cause.{Cause}
use Rattle.cha_outcome.specs.declared.rulings.Cause.TheVariants.{Mate511, Stalemate521, Dead522, Flag69, FlagOfMover69, Recorded, RecordedUndecided}
use Rattle.cha_outcome.specs.declared.rulings.Judgment.{Judgment}
use Rattle.cha_outcome.specs.declared.status.PositionStatus.{PositionStatus}
use Rattle.cha_outcome.specs.declared.unreadable.Unreadable.{Unreadable}
use Rattle.cha_outcome.specs.Rulings.{fallen_flag}
use Rattle.cha_verdict.specs.declared.decisions.Decision.{Decision}
use Rattle.cha_verdict.specs.declared.scans.Edge.{Edge}
use Rattle.cha_verdict.specs.declared.scans.Edge.TheVariants.{Start, Live, Unclear}
use Rattle.cha_verdict.specs.declared.scans.Scan.{Scan}
use Rattle.cha_verdict.specs.declared.verdicts.Verdict.{Verdict}
use Rattle.cha_verdict.specs.declared.verdicts.Verdict.TheVariants.{Winnable, Unwinnable, Undecided, Skipped}
use Rattle.cha_cert.specs.declared.nodes.Node.{Node}
use Rattle.helpmate_list.specs.declared.answers.Shortest.{Shortest}
use Rattle.helpmate_list.specs.declared.answers.Shortest.TheVariants.{NoneWithin, Found}
use Rattle.json.specs.Json.{Members, no_members, max_depth}
use Rattle.json.specs.Tree.{depth, items_depth, members_depth}
use Rattle.report_style.specs.declared.styles.Extras.{Extras}
use Rattle.json_report.specs.declared.grounds.Ground.{Ground}
use Rattle.json_report.specs.declared.grounds.Ground.TheVariants.{Sets, Men, Graph}
use Rattle.json_report.specs.Lines.{texts, words_of, fens_of, line_members}
use Rattle.json_report.specs.Summaries.{count_members, closed_members, summary_json}
use Rattle.report_words.specs.declared.columns.Column.{Column}
use Rattle.cha_outcome.specs.declared.totals.Totals.{Totals}
use Rattle.json_report.specs.Verdicts.{ground_of, ground_members, cert_members, fen_members, verdict_members}
use Rattle.json_report.specs.Plies.{ply_items, start_json, plies_from, why_json, replay_members}
use Rattle.json_report.specs.Outcomes.{edge_members, scan_json, article_json, flag_json, finding_members, result_members, line_items, mates_members, place_members, found_members, outcome_json}

-- texts do not nest
flat : (ts : List (List ℕ)) → items_depth (texts ts) ≤ 0
flat [] = omega arith
flat (t ∷ ts) = let rest = flat ts in omega (arith, rest)

line_low : (q : Board) (ms : List Move) (more : Members) → members_depth more ≤ 1 → members_depth (line_members q ms more) ≤ 1
line_low q ms more h = let moves = flat (map move_bytes ms) in let words = flat (words_of q ms) in omega (arith, moves, words, h)

fens_low : (fens : Bool) (q : Board) (ms : List Move) → members_depth (fen_members fens q ms) ≤ 1
fens_low true q ms = let rest = flat (fens_of q ms) in omega (arith, rest)
fens_low false q ms = omega arith

certs_low : (certs : Bool) (winner : Color) (cert : List Node) → members_depth (cert_members certs winner cert) ≤ 1
certs_low true winner cert = omega arith
certs_low false winner cert = omega arith

grounds_low : (ground : Ground) (nodes : ℕ) (more : Members) → members_depth more ≤ 1 → members_depth (ground_members ground nodes more) ≤ 1
unfolding ground_members
grounds_low Sets nodes more h = omega (arith, h)
grounds_low (Men reason) nodes more h = omega (arith, h)
grounds_low Graph nodes more h = omega (arith, h)

-- the verdict on a side
verdict_low : (extras : Extras) (q : Board) (winner : Color) (v : Verdict) → members_depth (verdict_members extras q winner v) ≤ 1
unfolding verdict_members
verdict_low extras q winner (Winnable moves) = let line = line_low q moves (fen_members extras.fens q moves) (fens_low extras.fens q moves) in omega (arith, line)
verdict_low extras q winner (Unwinnable cert) = let ground = grounds_low (ground_of cert) (length cert) (cert_members extras.certs winner cert) (certs_low extras.certs winner cert) in omega (arith, ground)
verdict_low extras q winner (Undecided positions plies) = omega arith
verdict_low extras q winner Skipped = omega arith

edge_low : (edge : Edge) (ply : ℕ) → members_depth (edge_members edge ply) ≤ 0
edge_low Start ply = omega arith
edge_low Live ply = omega arith
edge_low Unclear ply = omega arith

scan_low : (scan : Option Scan) → depth (scan_json scan) ≤ 1
unfolding scan_json
scan_low None = omega arith
scan_low (Some scan) = let edge = edge_low scan.edge scan.ply in omega (arith, edge)

article_low : (cause : Cause) → depth (article_json cause) ≤ 0
unfolding article_json
article_low Mate511 = omega arith
article_low Stalemate521 = omega arith
article_low Dead522 = omega arith
article_low Flag69 = omega arith
article_low FlagOfMover69 = omega arith
article_low Recorded = omega arith
article_low RecordedUndecided = omega arith

flag_low : (flag : Option Color) → depth (flag_json flag) ≤ 0
unfolding flag_json
flag_low None = omega arith
flag_low (Some White) = omega arith
flag_low (Some Black) = omega arith

findings_low : (extras : Extras) (q : Board) (d : Decision) (status : PositionStatus) (more : Members) → members_depth more ≤ 3 → members_depth (finding_members extras q d status more) ≤ 3
findings_low extras q d status more h = let white = verdict_low extras q White d.white in let black = verdict_low extras q Black d.black in omega (arith, white, black, h)

results_low : (game : PlayedGame) (scan : Option Scan) (judgment : Judgment) → members_depth (result_members game scan judgment) ≤ 3
results_low game scan judgment =
    let dead = scan_low scan in let article = article_low judgment.cause in let flag = flag_low (fallen_flag game judgment.cause) in omega (arith, dead, article, flag)

-- the shortest mates
lines_low : (q : Board) (lines : List (List Move)) → items_depth (line_items q lines) ≤ 2
lines_low q [] = omega arith
lines_low q (ms ∷ lines) = let line = line_low q ms no_members (omega arith) in let rest = lines_low q lines in omega (arith, line, rest)

mates_low : (q : Board) (within : ℕ) (found : Shortest) → members_depth (mates_members q within found) ≤ 3
unfolding mates_members
mates_low q within NoneWithin = omega arith
mates_low q within (Found plies lines more) = let low = lines_low q lines in omega (arith, low)

-- the moves of a game
plies_low : (n : ℕ) (q : Board) (ms : List Move) → items_depth (ply_items n q ms) ≤ 1
plies_low n q [] = omega arith
plies_low n q (m ∷ ms) = let rest = plies_low (n + 1) (after q m) ms in omega (arith, rest)

from_low : (start : Option Board) (ms : List Move) → items_depth (plies_from start ms) ≤ 1
unfolding plies_from
from_low None ms = omega arith
from_low (Some q) ms = plies_low 1 q ms

start_low : (start : Option Board) → depth (start_json start) ≤ 0
unfolding start_json
start_low None = omega arith
start_low (Some q) = omega arith

why_low : (why : Option Unreadable) → depth (why_json why) ≤ 0
unfolding why_json
why_low None = omega arith
why_low (Some why) = omega arith

replay_low : (game : ReplayedGame) → members_depth (replay_members game) ≤ 3
replay_low game = let start = start_low game.start in let plies = from_low game.start game.moves in let why = why_low game.why in omega (arith, start, plies, why)

found_low : (extras : Extras) (o : Outcome) → members_depth (found_members extras o) ≤ 3
unfolding found_members
found_low extras (JudgedPosition line q d status) = findings_low extras q d status no_members (omega arith)
found_low extras (JudgedGame game d scan status judgment) = findings_low extras game.last d status (result_members game scan judgment) (results_low game scan judgment)
found_low extras (ListedMates line q within found) = let mates = mates_low q within found in omega (arith, mates)
found_low extras (RefusedLine line fault) = omega arith
found_low extras (UnreadableGame span why) = omega arith
found_low extras (Replayed game) = replay_low game

place_low : (number : ℕ) (o : Outcome) (more : Members) → members_depth more ≤ 3 → members_depth (place_members number o more) ≤ 3
unfolding place_members
place_low number (JudgedPosition line q d status) more h = omega (arith, h)
place_low number (JudgedGame game d scan status judgment) more h = omega (arith, h)
place_low number (ListedMates line q within found) more h = omega (arith, h)
place_low number (RefusedLine line fault) more h = omega (arith, h)
place_low number (UnreadableGame span why) more h = omega (arith, h)
place_low number (Replayed game) more h = omega (arith, h)

-- the line on an outcome
pub outcome_shallow : (extras : Extras) (number : ℕ) (o : Outcome) → depth (outcome_json extras number o) ≤ max_depth
outcome_shallow extras number o = let low = place_low number o (found_members extras o) (found_low extras o) in omega (arith, low)

-- the last line
counts_low : (columns : List Column) (s : Totals) (more : Members) → members_depth more ≤ 0 → members_depth (count_members columns s more) ≤ 0
counts_low [] s more h = h
counts_low (c ∷ cs) s more h = let rest = counts_low cs s more h in omega (arith, rest)

closed_low : (closed : Option Bool) → members_depth (closed_members closed) ≤ 0
closed_low None = omega arith
closed_low (Some closed) = omega arith

pub summary_shallow : (columns : List Column) (closed : Option Bool) (s : Totals) → depth (summary_json columns closed s) ≤ max_depth
summary_shallow columns closed s = let low = counts_low columns s (closed_members closed) (closed_low closed) in omega (arith, low)
