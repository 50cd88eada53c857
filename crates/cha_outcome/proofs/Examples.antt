-- The table of rulings, and the other tables of rulings, row by row.
use Rattle.std.proofs.Common.{◌≡◌, ℕ, Bool, true, false, List, [], ◌∷◌, map, Some, None, refl}
use Rattle.cha_board.specs.declared.men.Color.{Color}
use Rattle.cha_board.specs.declared.men.Color.TheVariants.{White, Black}
use Rattle.cha_moves.specs.Step.{Move}
use Rattle.cha_cert.specs.declared.nodes.Node.{Node}
use Rattle.cha_moves.specs.declared.ends.Standing.TheVariants.{Mate, Stalemate, Running}
use Rattle.pgn_games.specs.declared.marks.ResultMark.{ResultMark}
use Rattle.pgn_games.specs.declared.marks.ResultMark.TheVariants.{WhiteWins, BlackWins, Draw, Unknown}
use Rattle.pgn_games.specs.Wins.{win_of}
use Rattle.cha_verdict.specs.declared.verdicts.Verdict.{Verdict}
use Rattle.cha_verdict.specs.declared.verdicts.Verdict.TheVariants.{Winnable, Unwinnable, Undecided, Skipped}
use Rattle.cha_outcome.specs.declared.rulings.Cause.TheVariants.{Mate511, Stalemate521, Dead522, Flag69, FlagOfMover69, Recorded, RecordedUndecided}
use Rattle.cha_outcome.specs.declared.rulings.Claim.{Claim}
use Rattle.cha_outcome.specs.declared.rulings.Judgment.{Judgment}
use Rattle.cha_outcome.specs.Rulings.{judged, winner_ruling_of, flag_ruling_of, running_ruling_of, ruling_of, first_by, is_changed}

-- what a text says of the end of a game, where no draw is examined
abbrev claim : ResultMark → Bool → Claim
claim recorded forfeit = record { recorded = recorded; forfeit = forfeit; claimant = None }

-- a mate, whatever was recorded and found
mated : (winner : Color) (recorded : ResultMark) (forfeit : Bool) (white black : Verdict) (earlier : Bool) → ruling_of (Mate winner) (claim recorded forfeit) white black earlier ≡ judged (win_of winner) Mate511
unfolding ruling_of
mated winner recorded forfeit white black earlier = refl

-- a game that was dead before its end, whatever was recorded and found there: played on to a stalemate, or not
dead_before : (recorded : ResultMark) (forfeit : Bool) (white black : Verdict) → ruling_of Stalemate (claim recorded forfeit) white black true ≡ judged Draw Dead522
unfolding ruling_of
dead_before recorded forfeit white black = refl

dead_before_running : (recorded : ResultMark) (forfeit : Bool) (white black : Verdict) → ruling_of Running (claim recorded forfeit) white black true ≡ judged Draw Dead522
unfolding ruling_of
dead_before_running recorded forfeit white black = refl

-- a stalemate, whatever was recorded and found
stalemated : (recorded : ResultMark) (forfeit : Bool) (white black : Verdict) → ruling_of Stalemate (claim recorded forfeit) white black false ≡ judged Draw Stalemate521
unfolding ruling_of
stalemated recorded forfeit white black = refl

-- each kind of verdict: can mate, cannot mate, not shown, not examined
abbrev each_verdict : List Move → List Node → ℕ → ℕ → List Verdict
each_verdict moves cert positions depth = Winnable moves ∷ Unwinnable cert ∷ Undecided positions depth ∷ Skipped ∷ []

-- the rulings where the game goes on, and was not dead before: a row for each verdict on White, and in it one for each verdict on Black
abbrev rulings : ResultMark → Bool → List Verdict → List (List Judgment)
rulings recorded forfeit verdicts = map (λ white. map (λ black. ruling_of Running (claim recorded forfeit) white black false) verdicts) verdicts

-- a dead position, a draw by the flag, a recorded result, and a recorded winner of whom nothing was shown
abbrev d : Judgment
d = judged Draw Dead522

abbrev f : Judgment
f = judged Draw Flag69

abbrev r : ResultMark → Judgment
r recorded = judged recorded Recorded

abbrev u : ResultMark → Judgment
u recorded = judged recorded RecordedUndecided

-- White won, as where Black resigned
white_won : (moves : List Move) (cert : List Node) (positions depth : ℕ) → let w = WhiteWins in
    rulings w false (each_verdict moves cert positions depth)
    ≡ ((r w ∷ r w ∷ r w ∷ r w ∷ []) ∷ (r w ∷ d ∷ r w ∷ r w ∷ []) ∷ (u w ∷ u w ∷ u w ∷ u w ∷ []) ∷ (r w ∷ r w ∷ r w ∷ r w ∷ []) ∷ [])
unfolding ruling_of running_ruling_of winner_ruling_of
white_won moves cert positions depth = refl

-- White won, and Black's flag fell
white_won_on_time : (moves : List Move) (cert : List Node) (positions depth : ℕ) → let w = WhiteWins in
    rulings w true (each_verdict moves cert positions depth)
    ≡ ((r w ∷ r w ∷ r w ∷ r w ∷ []) ∷ (f ∷ d ∷ f ∷ f ∷ []) ∷ (u w ∷ u w ∷ u w ∷ u w ∷ []) ∷ (r w ∷ r w ∷ r w ∷ r w ∷ []) ∷ [])
unfolding ruling_of running_ruling_of winner_ruling_of
white_won_on_time moves cert positions depth = refl

-- Black won
black_won : (moves : List Move) (cert : List Node) (positions depth : ℕ) → let b = BlackWins in
    rulings b false (each_verdict moves cert positions depth)
    ≡ ((r b ∷ r b ∷ u b ∷ r b ∷ []) ∷ (r b ∷ d ∷ u b ∷ r b ∷ []) ∷ (r b ∷ r b ∷ u b ∷ r b ∷ []) ∷ (r b ∷ r b ∷ u b ∷ r b ∷ []) ∷ [])
unfolding ruling_of running_ruling_of winner_ruling_of
black_won moves cert positions depth = refl

-- Black won, and White's flag fell
black_won_on_time : (moves : List Move) (cert : List Node) (positions depth : ℕ) → let b = BlackWins in
    rulings b true (each_verdict moves cert positions depth)
    ≡ ((r b ∷ f ∷ u b ∷ r b ∷ []) ∷ (r b ∷ d ∷ u b ∷ r b ∷ []) ∷ (r b ∷ f ∷ u b ∷ r b ∷ []) ∷ (r b ∷ f ∷ u b ∷ r b ∷ []) ∷ [])
unfolding ruling_of running_ruling_of winner_ruling_of
black_won_on_time moves cert positions depth = refl

-- a draw, as where a site rules so by itself; and no result: a dead position alone changes them, flag or not
drawn : (forfeit : Bool) (moves : List Move) (cert : List Node) (positions depth : ℕ) → let x = Draw in
    rulings x forfeit (each_verdict moves cert positions depth)
    ≡ ((r x ∷ r x ∷ r x ∷ r x ∷ []) ∷ (r x ∷ d ∷ r x ∷ r x ∷ []) ∷ (r x ∷ r x ∷ r x ∷ r x ∷ []) ∷ (r x ∷ r x ∷ r x ∷ r x ∷ []) ∷ [])
unfolding ruling_of running_ruling_of winner_ruling_of
drawn forfeit moves cert positions depth = refl

without_result : (forfeit : Bool) (moves : List Move) (cert : List Node) (positions depth : ℕ) → let x = Unknown in
    rulings x forfeit (each_verdict moves cert positions depth)
    ≡ ((r x ∷ r x ∷ r x ∷ r x ∷ []) ∷ (r x ∷ d ∷ r x ∷ r x ∷ []) ∷ (r x ∷ r x ∷ r x ∷ r x ∷ []) ∷ (r x ∷ r x ∷ r x ∷ r x ∷ []) ∷ [])
unfolding ruling_of running_ruling_of winner_ruling_of
without_result forfeit moves cert positions depth = refl

-- a draw whose flag fell and that is examined: won where the claimant can mate, and by its verdict alone, but in a dead position
abbrev claims : Color → List Verdict → List (List Judgment)
claims claimant verdicts = map (λ white. map (λ black. ruling_of Running (record { recorded = Draw; forfeit = true; claimant = Some claimant }) white black false) verdicts) verdicts

abbrev w : Color → Judgment
w winner = judged (win_of winner) FlagOfMover69

claimed_by_white : (moves : List Move) (cert : List Node) (positions depth : ℕ) → let x = Draw in
    claims White (each_verdict moves cert positions depth)
    ≡ ((w White ∷ w White ∷ w White ∷ w White ∷ []) ∷ (f ∷ d ∷ f ∷ f ∷ []) ∷ (u x ∷ u x ∷ u x ∷ u x ∷ []) ∷ (u x ∷ u x ∷ u x ∷ u x ∷ []) ∷ [])
unfolding ruling_of running_ruling_of flag_ruling_of
claimed_by_white moves cert positions depth = refl

claimed_by_black : (moves : List Move) (cert : List Node) (positions depth : ℕ) → let x = Draw in
    claims Black (each_verdict moves cert positions depth)
    ≡ ((w Black ∷ f ∷ u x ∷ u x ∷ []) ∷ (w Black ∷ d ∷ u x ∷ u x ∷ []) ∷ (w Black ∷ f ∷ u x ∷ u x ∷ []) ∷ (w Black ∷ f ∷ u x ∷ u x ∷ []) ∷ [])
unfolding ruling_of running_ruling_of flag_ruling_of
claimed_by_black moves cert positions depth = refl

abbrev each_mark : List ResultMark
each_mark = WhiteWins ∷ BlackWins ∷ Draw ∷ Unknown ∷ []

-- a recorded winner is examined first
firsts : map (λ mark. first_by (claim mark false)) each_mark ≡ White ∷ Black ∷ White ∷ White ∷ []
unfolding first_by
firsts = refl

-- a row for each recorded result: whether each result is another
changes : map (λ recorded. map (λ mark. is_changed recorded mark) each_mark) each_mark
    ≡ ((false ∷ true ∷ true ∷ true ∷ []) ∷ (true ∷ false ∷ true ∷ true ∷ []) ∷ (true ∷ true ∷ false ∷ true ∷ []) ∷ (true ∷ true ∷ true ∷ false ∷ []) ∷ [])
unfolding is_changed
changes = refl
