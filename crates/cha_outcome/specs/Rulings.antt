-- The result that the Laws of Chess give a game.
use Rattle.std.specs.Prelude.{◌+◌, Bool, true, false, not, ◌&&◌, if◌then◌else◌, List, length, Option, Some, None, nat_lt}
use Rattle.cha_board.specs.declared.men.Color.{Color}
use Rattle.cha_board.specs.declared.men.Color.TheVariants.{White, Black}
use Rattle.std.specs.Option.{unwrap_or}
use Rattle.cha_board.specs.Board.{Board}
use Rattle.cha_board.specs.Men.{other_color}
use Rattle.cha_moves.specs.Standings.{standing_of}
use Rattle.cha_moves.specs.declared.ends.Standing.{Standing}
use Rattle.cha_moves.specs.declared.ends.Standing.TheVariants.{Mate, Stalemate, Running}
use Rattle.pgn_games.specs.declared.marks.ResultMark.{ResultMark}
use Rattle.pgn_games.specs.declared.marks.ResultMark.TheVariants.{WhiteWins, BlackWins, Draw, Unknown}
use Rattle.pgn_games.specs.Wins.{win_of}
use Rattle.cha_verdict.specs.declared.verdicts.Verdict.{Verdict}
use Rattle.cha_outcome.specs.declared.rulings.Cause.{Cause}
use Rattle.cha_outcome.specs.declared.rulings.Cause.TheVariants.{Mate511, Stalemate521, Dead522, Flag69, FlagOfMover69, Recorded, RecordedUndecided}
use Rattle.cha_outcome.specs.declared.rulings.Claim.{Claim}
use Rattle.cha_outcome.specs.declared.rulings.Judgment.{Judgment}
use Rattle.cha_outcome.specs.declared.questions.FlaggedDraws.{FlaggedDraws}
use Rattle.cha_outcome.specs.declared.questions.FlaggedDraws.TheVariants.{Examined}
use Rattle.cha_verdict.specs.declared.decisions.Decision.{Decision}
use Rattle.cha_verdict.specs.declared.scans.Scan.{Scan}
use Rattle.cha_outcome.specs.declared.items.PlayedGame.{PlayedGame}
use Rattle.cha_verdict.specs.Verdicts.{are_dead, is_winnable, is_unwinnable, is_undecided}

-- the result of a game, and why
abbrev pub judged : ResultMark → Cause → Judgment
judged mark cause = record { mark = mark; cause = cause }

-- With a recorded winner, on whom this is the verdict, the first that fits of: the loser's flag fell and the winner cannot
-- mate (Laws of Chess, Article 6.9), nothing was shown about the winner, and the rest.
unfoldable pub winner_ruling_of : ResultMark → Bool → Verdict → Judgment
winner_ruling_of recorded forfeit winner =
    if forfeit && is_unwinnable winner then judged Draw Flag69
    else (if is_undecided winner then judged recorded RecordedUndecided else judged recorded Recorded)

-- Of a game that is recorded as drawn though a flag fell, whose other player is this one, of whom this is the verdict: that player wins
-- where a mate was found, it is a draw where none can be, and else as recorded (Laws of Chess, Article 6.9).
unfoldable pub flag_ruling_of : Color → Verdict → Judgment
flag_ruling_of claimant verdict =
    if is_winnable verdict then judged (win_of claimant) FlagOfMover69
    else (if is_unwinnable verdict then judged Draw Flag69 else judged Draw RecordedUndecided)

-- the same, where there is such a player
abbrev pub drawn_ruling_of : Option Color → Verdict → Verdict → Judgment
drawn_ruling_of None white black = judged Draw Recorded
drawn_ruling_of (Some White) white black = flag_ruling_of White white
drawn_ruling_of (Some Black) white black = flag_ruling_of Black black

-- as recorded, unless something speaks against it
abbrev pub recorded_ruling_of : ResultMark → Bool → Option Color → Verdict → Verdict → Judgment
recorded_ruling_of WhiteWins forfeit claimant white black = winner_ruling_of WhiteWins forfeit white
recorded_ruling_of BlackWins forfeit claimant white black = winner_ruling_of BlackWins forfeit black
recorded_ruling_of Draw forfeit claimant white black = drawn_ruling_of claimant white black
recorded_ruling_of Unknown forfeit claimant white black = judged Unknown Recorded

-- where neither the board nor an earlier dead position ends the game: first a dead position (Laws of Chess, Article 5.2.2)
unfoldable pub running_ruling_of : Claim → Verdict → Verdict → Judgment
running_ruling_of claim white black =
    if are_dead white black then judged Draw Dead522 else recorded_ruling_of claim.recorded claim.forfeit claim.claimant white black

-- the result of a game: a mate comes first (Laws of Chess, Article 5.1.1), then that it was dead before its final position, and so
-- ended there (Article 5.2.2), then a stalemate (Article 5.2.1)
unfoldable pub ruling_of : Standing → Claim → Verdict → Verdict → Bool → Judgment
ruling_of (Mate winner) claim white black earlier = judged (win_of winner) Mate511
ruling_of Stalemate claim white black earlier = judged Draw (if earlier then Dead522 else Stalemate521)
ruling_of Running claim white black earlier = if earlier then judged Draw Dead522 else running_ruling_of claim white black

-- who wins a game that is recorded as drawn though a flag fell, if that player can mate: where such draws are examined, the player who is
-- not to move, for the clock of the one to move runs alone (Laws of Chess, Article 6.2.1)
abbrev pub claimant_by : FlaggedDraws → Bool → ResultMark → Color → Option Color
claimant_by Examined true Draw mover = Some (other_color mover)
claimant_by _ _ _ mover = None

abbrev pub claim_of : FlaggedDraws → PlayedGame → Claim
claim_of draws game =
    record { recorded = game.recorded; forfeit = game.forfeit; claimant = claimant_by draws game.flag_fell game.recorded game.last.side }

-- Whose flag fell, as far as the result of a game rests on it or could have: of a game that was lost on time the loser's, and of a drawn
-- one that was examined the flag of the player to move.
abbrev pub flag_of_draw : Cause → Color → Option Color
flag_of_draw Flag69 mover = Some mover
flag_of_draw FlagOfMover69 mover = Some mover
flag_of_draw RecordedUndecided mover = Some mover
flag_of_draw _ mover = None

abbrev pub flag_by : ResultMark → Bool → Cause → Color → Option Color
flag_by WhiteWins forfeit cause mover = if forfeit then Some Black else None
flag_by BlackWins forfeit cause mover = if forfeit then Some White else None
flag_by Draw forfeit cause mover = flag_of_draw cause mover
flag_by Unknown forfeit cause mover = None

unfoldable pub fallen_flag : PlayedGame → Cause → Option Color
fallen_flag game cause = flag_by game.recorded game.forfeit cause game.last.side

-- the side that is examined first: the recorded winner, or the one who wins by the flag, and White where there is none (this project)
abbrev pub first_from : ResultMark → Option Color → Color
first_from WhiteWins claimant = White
first_from BlackWins claimant = Black
first_from Draw claimant = unwrap_or claimant White
first_from Unknown claimant = White

unfoldable pub first_by : Claim → Color
first_by claim = first_from claim.recorded claim.claimant

abbrev pub first_of : FlaggedDraws → PlayedGame → Color
first_of draws game = first_by (claim_of draws game)

-- both results are the same
abbrev pub is_same_mark : ResultMark → ResultMark → Bool
is_same_mark WhiteWins WhiteWins = true
is_same_mark BlackWins BlackWins = true
is_same_mark Draw Draw = true
is_same_mark Unknown Unknown = true
is_same_mark _ _ = false

-- a result differs from the recorded one
unfoldable pub is_changed : ResultMark → ResultMark → Bool
is_changed recorded mark = not (is_same_mark mark recorded)

-- a game with another recorded result
abbrev pub with_recorded : ResultMark → PlayedGame → PlayedGame
with_recorded mark game =
    record { span = game.span; last = game.last; positions = game.positions; recorded = mark; forfeit = game.forfeit; flag_fell = game.flag_fell }

-- a position before the last one was dead: the ply of the scan is below the number of moves
abbrev pub was_dead : List Board → Option Scan → Bool
was_dead qs None = false
was_dead qs (Some scan) = nat_lt (scan.ply + 1) (length qs)

-- the result of a game, by its final position, the verdicts on it, and whether it was dead before
abbrev pub judgment_of : FlaggedDraws → PlayedGame → Decision → Option Scan → Judgment
judgment_of draws game d scan = ruling_of (standing_of game.last) (claim_of draws game) d.white d.black (was_dead game.positions scan)
