-- The words of a game that was made are played to the positions that were made.
use Rattle.std.proofs.Common.{◌≡◌, ℕ, zero, suc, ◌+◌, [], length, Option, Some, None, Result, Ok, refl, ap, ◌∙◌, arith}
use Rattle.std.specs.List.{All}
use Rattle.std.proofs.lemmas.List.Elements.{All-cons}
use Rattle.rand_pcg.specs.Lcg.{Lcg}
use Rattle.rand_pcg.specs.Pcg.{pcg32}
use Rattle.cha_board.specs.Board.{Board}
use Rattle.cha_moves.specs.Step.{Move}
use Rattle.cha_moves.specs.Moves.{after, legal}
use Rattle.pgn_games.specs.Games.{opening}
use Rattle.cha_san.specs.declared.faults.SanFault.{SanFault}
use Rattle.cha_san.specs.Playing.{onto, onward as onward_played, positions_from, positions}
use Rattle.random_games.specs.Games.{MadeGame, drawn, onward, made_from, made_game, made_games}
use Rattle.random_games.proofs.Named.{word_names}
use Rattle.random_games.proofs.ReadAgain.{drawn_listed}

played_by : (ply : ℕ) (q : Board) (g : Lcg) (rest : Move → MadeGame) (o : Option Move) → drawn g (legal q) ≡ o → ((m : Move) (k : ℕ) → positions_from k (after q m) (rest m).words ≡ Ok (rest m).positions)
    → positions_from ply q (onward q g o rest).words ≡ Ok (onward q g o rest).positions
unfolding positions_from
played_by ply q g rest None e h = refl
played_by ply q g rest (Some m) e h =
    ap (λ (r : Result Move SanFault). onward_played ply q r (λ next. positions_from (ply + 1) next (rest m).words)) (word_names q m (drawn_listed g q m e)) ∙ ap (onto q) (h m (ply + 1))

played_from : (plies ply : ℕ) (q : Board) (g : Lcg) → positions_from ply q (made_from plies q g).words ≡ Ok (made_from plies q g).positions
unfolding made_from positions_from
played_from zero ply q g = refl
played_from (suc plies) ply q g = played_by ply q g (λ m. made_from plies (after q m) (pcg32 g).1) (drawn g (legal q)) refl (λ m k. played_from plies k (after q m) (pcg32 g).1)

-- the positions of a game are those that were made
abbrev pub PlaysTo : MadeGame → Type 0
PlaysTo game = positions opening game.words ≡ Ok game.positions

none_played : All PlaysTo []
none_played k d inside = absurd (omega arith)

pub all_played : (count : ℕ) (g : Lcg) → All PlaysTo (made_games count g)
unfolding made_games
all_played zero g = none_played
all_played (suc count) g = All-cons PlaysTo (made_game g) (made_games count (made_game g).generator) (played_from 100 1 opening g) (all_played count (made_game g).generator)

pub so_many : (count : ℕ) (g : Lcg) → length (made_games count g) ≡ count
unfolding made_games
so_many zero g = refl
so_many (suc count) g = (let rest = so_many count (made_game g).generator in omega (arith, rest))
