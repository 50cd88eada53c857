-- What a scan of a game shows.
use Rattle.std.proofs.Common.{◌≡◌, ◌-◌, true, length, Option, Some, None, IfSome, slice_get, sym, subst, ◌∙◌}
use Rattle.std.proofs.lemmas.Bool.{and_parts}
use Rattle.std.proofs.lemmas.Option.{same_Some}
use Rattle.cha_board.specs.declared.men.Color.{Color}
use Rattle.cha_board.specs.declared.men.Color.TheVariants.{White, Black}
use Rattle.cha_board.specs.Board.{Board}
use Rattle.cha_limits.specs.Bounds.{Bounds}
use Rattle.cha_moves.specs.Ends.{IsUnwinnable}
use Rattle.cha_moves.specs.Dead.{IsDead}
use Rattle.cha_cert.proofs.Bounded.{valid_is_unwinnable}
use Rattle.cha_verdict.specs.declared.verdicts.Verdict.{Verdict}
use Rattle.cha_verdict.specs.declared.verdicts.Verdict.TheVariants.{Winnable, Unwinnable, Undecided, Skipped}
use Rattle.cha_verdict.specs.declared.decisions.Decision.{Decision}
use Rattle.cha_verdict.specs.declared.scans.Scan.{Scan}
use Rattle.cha_verdict.specs.Verdicts.{is_unwinnable, are_dead}
use Rattle.cha_verdict.specs.Sound.{IsTrueOf, IsSound}
use Rattle.cha_verdict.specs.Scans.{HasScan, ShowsDead}
use Rattle.cha_verdict.proofs.Scanned.{shows}
use Rattle.cha_outcome.specs.declared.items.PlayedGame.{PlayedGame}
use Rattle.cha_outcome.specs.PlayedOut.{IsPlayedOut}

-- verdicts that show a position dead
side_dead : (q : Board) (w : Color) (limits : Bounds) (v : Verdict) → is_unwinnable v ≡ true → IsTrueOf q w limits v → IsUnwinnable q w
side_dead q w limits (Winnable moves) is h = cc
side_dead q w limits (Unwinnable cert) is h = valid_is_unwinnable q w cert h
side_dead q w limits (Undecided positions depth) is h = cc
side_dead q w limits Skipped is h = cc

both_dead : (q : Board) (first : Color) (limits : Bounds) (d : Decision) → IsSound q first limits d → are_dead d.white d.black ≡ true → IsDead q
both_dead q first limits d sound dead White = side_dead q White limits d.white (and_parts (is_unwinnable d.white) (is_unwinnable d.black) dead).0 (sound.true_of White)
both_dead q first limits d sound dead Black = side_dead q Black limits d.black (and_parts (is_unwinnable d.white) (is_unwinnable d.black) dead).1 (sound.true_of Black)

-- so a sound scan of a game that was played to its final position shows what is dead
pub scan_shows : (game : PlayedGame) (first : Color) (limits : Bounds) (d : Decision) (scan : Option Scan) → IsPlayedOut game → IsSound game.last first limits d → HasScan game.positions first limits d scan → IfSome scan (ShowsDead game.positions)
scan_shows game first limits d None whole sound h = tt
scan_shows game first limits d (Some scan) whole sound h =
    let end : (q : Board) → slice_get game.positions (length game.positions - 1) ≡ Some q → IsDead q = λ q e. subst IsDead (same_Some game.last q (sym whole.last ∙ e)) (both_dead game.last first limits d sound h.0) in
    shows game.positions first limits scan whole.played end h.1
