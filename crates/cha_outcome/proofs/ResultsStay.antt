-- A result that was found for a game stays, where drawn games stand.
use Rattle.std.proofs.Common.{◌≡◌, ◌⊎◌, Bool, true, false, ◌&&◌, if◌then◌else◌, None, refl, sym, ap, ◌∙◌, inl, inr, ⊎_elim}
use Rattle.cha_moves.specs.declared.ends.Standing.{Standing}
use Rattle.cha_moves.specs.declared.ends.Standing.TheVariants.{Mate, Stalemate, Running}
use Rattle.pgn_games.specs.declared.marks.ResultMark.{ResultMark}
use Rattle.pgn_games.specs.declared.marks.ResultMark.TheVariants.{WhiteWins, BlackWins, Draw, Unknown}
use Rattle.cha_verdict.specs.declared.verdicts.Verdict.{Verdict}
use Rattle.cha_verdict.specs.Verdicts.{are_dead, is_unwinnable, is_undecided}
use Rattle.cha_outcome.specs.declared.rulings.Cause.TheVariants.{Dead522, Flag69, Recorded, RecordedUndecided}
use Rattle.cha_outcome.specs.declared.rulings.Claim.{Claim}
use Rattle.cha_outcome.specs.Rulings.{judged, winner_ruling_of, recorded_ruling_of, running_ruling_of, ruling_of, is_changed}

-- a recorded winner wins, or it is a draw
won_or_drawn_if : (mark : ResultMark) (flag unsure : Bool)
    → ((if flag then judged Draw Flag69 else (if unsure then judged mark RecordedUndecided else judged mark Recorded)).mark ≡ Draw)
    ⊎ ((if flag then judged Draw Flag69 else (if unsure then judged mark RecordedUndecided else judged mark Recorded)).mark ≡ mark)
won_or_drawn_if mark true unsure = inl refl
won_or_drawn_if mark false true = inr refl
won_or_drawn_if mark false false = inr refl

won_or_drawn : (mark : ResultMark) (forfeit : Bool) (winner : Verdict) → ((winner_ruling_of mark forfeit winner).mark ≡ Draw) ⊎ ((winner_ruling_of mark forfeit winner).mark ≡ mark)
unfolding winner_ruling_of
won_or_drawn mark forfeit winner = won_or_drawn_if mark (forfeit && is_unwinnable winner) (is_undecided winner)

-- as recorded, unless something speaks against it
recorded_stays : (recorded : ResultMark) (forfeit : Bool) (white black : Verdict)
    → (recorded_ruling_of (recorded_ruling_of recorded forfeit None white black).mark forfeit None white black).mark ≡ (recorded_ruling_of recorded forfeit None white black).mark
recorded_stays WhiteWins forfeit white black =
    ⊎_elim (λ e. ap (λ r. (recorded_ruling_of r forfeit None white black).mark) e ∙ sym e) (λ e. ap (λ r. (recorded_ruling_of r forfeit None white black).mark) e) (won_or_drawn WhiteWins forfeit white)
recorded_stays BlackWins forfeit white black =
    ⊎_elim (λ e. ap (λ r. (recorded_ruling_of r forfeit None white black).mark) e ∙ sym e) (λ e. ap (λ r. (recorded_ruling_of r forfeit None white black).mark) e) (won_or_drawn BlackWins forfeit black)
recorded_stays Draw forfeit white black = refl
recorded_stays Unknown forfeit white black = refl

running_stays : (dead : Bool) (recorded : ResultMark) (forfeit : Bool) (white black : Verdict)
    → (if dead then judged Draw Dead522 else recorded_ruling_of (if dead then judged Draw Dead522 else recorded_ruling_of recorded forfeit None white black).mark forfeit None white black).mark
    ≡ (if dead then judged Draw Dead522 else recorded_ruling_of recorded forfeit None white black).mark
running_stays true recorded forfeit white black = refl
running_stays false recorded forfeit white black = recorded_stays recorded forfeit white black

-- what the text of a game says of its end, where drawn games stand
abbrev pub claimed : ResultMark → Bool → Claim
claimed recorded forfeit = record { recorded = recorded; forfeit = forfeit; claimant = None }

pub mark_stays : (state : Standing) (recorded : ResultMark) (forfeit : Bool) (white black : Verdict) (earlier : Bool)
    → (ruling_of state (claimed (ruling_of state (claimed recorded forfeit) white black earlier).mark forfeit) white black earlier).mark
    ≡ (ruling_of state (claimed recorded forfeit) white black earlier).mark
unfolding ruling_of running_ruling_of
mark_stays (Mate winner) recorded forfeit white black earlier = refl
mark_stays Stalemate recorded forfeit white black earlier = refl
mark_stays Running recorded forfeit white black true = refl
mark_stays Running recorded forfeit white black false = running_stays (are_dead white black) recorded forfeit white black

unchanged_same : (mark : ResultMark) → is_changed mark mark ≡ false
unfolding is_changed
unchanged_same WhiteWins = refl
unchanged_same BlackWins = refl
unchanged_same Draw = refl
unchanged_same Unknown = refl

pub unchanged : (recorded mark : ResultMark) → mark ≡ recorded → is_changed recorded mark ≡ false
unchanged recorded mark e = ap (is_changed recorded) e ∙ unchanged_same recorded
