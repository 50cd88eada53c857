-- Games are played to their final position.
use Rattle.std.proofs.Common.{◌≡◌, ◌⊎◌, inl, inr, ℕ, ◌+◌, ◌-◌, ◌<◌, ◌≤◌, List, length, Some, Result, Ok, Err, IfOk, slice_get, slice_index_or, refl, sym, subst, arith}
use Rattle.std.specs.List.{All}
use Rattle.std.proofs.lemmas.Option.{slice_get_read}
use Rattle.cha_board.specs.Board.{Board, IsValid}
use Rattle.cha_moves.specs.Dead.{ArePlayed}
use Rattle.cha_san.specs.declared.faults.PlayFault.{PlayFault}
use Rattle.cha_san.specs.Playing.{positions, LacksMemory}
use Rattle.cha_san.proofs.PlayedGames.{positions_played, positions_valid}
use Rattle.cha_outcome.specs.declared.items.PlayedGame.{PlayedGame}
use Rattle.cha_outcome.specs.PlayedOut.{IsPlayedOut}

-- what holds of the positions of a game holds of those that were played
of_played : (P : List Board → Type 0) (r : Result (List Board) PlayFault) (start : Board) (words : List (List ℕ)) (qs : List Board) → LacksMemory r ⊎ (r ≡ positions start words) → r ≡ Ok qs → IfOk (positions start words) P → P qs
of_played P (Ok ps) start words qs (inl h) is all = absurd h
of_played P (Ok ps) start words qs (inr e) is all = let same : ps ≡ qs = cc in subst P same (subst (λ r. IfOk r P) (sym e) all)
of_played P (Err fault) start words qs h is all = cc

-- the last of the positions
pub last_of : (qs xs ys : List Board) (q : Board) → xs ≡ qs → ys ≡ qs → 0 < length qs → q ≡ slice_index_or xs (length ys - 1) q → slice_get qs (length qs - 1) ≡ Some q
last_of qs xs ys q same too some is =
    let at : q ≡ slice_index_or qs (length qs - 1) q = rw (same, too) at is in
    slice_get_read qs (length qs) (length qs - 1) q refl (omega (arith, some)) at

pub played_through : (game : PlayedGame) (r : Result (List Board) PlayFault) (start : Board) (words : List (List ℕ)) → LacksMemory r ⊎ (r ≡ positions start words) → r ≡ Ok game.positions → IsValid start
    → length words ≤ 12000 → length game.positions ≡ length words + 1 → slice_get game.positions (length game.positions - 1) ≡ Some game.last → IsPlayedOut game
played_through game r start words value is valid few count last = record {
  some = omega (arith, count);
  few = omega (arith, count, few);
  valid = of_played (All IsValid) r start words game.positions value is (positions_valid start words valid);
  played = of_played ArePlayed r start words game.positions value is (positions_played start words);
  last = last;
}
