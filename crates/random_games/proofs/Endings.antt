-- A game that was made ends where there is no legal move, or after its plies.
use Rattle.std.proofs.Common.{◌≡◌, ℕ, zero, suc, ◌+◌, ◌%◌, ◌<◌, ◌⊎◌, inl, inr, List, [], ◌∷◌, length, Option, Some, None, refl, sym, ◌∙◌, arith}
use Rattle.std.specs.List.{All, slice_get}
use Rattle.std.proofs.lemmas.List.Elements.{All-cons}
use Rattle.std.proofs.lemmas.Nat.{mod_below}
use Rattle.std.proofs.lemmas.Option.{slice_get-get_or}
use Rattle.rand_pcg.specs.Lcg.{Lcg}
use Rattle.rand_pcg.specs.Pcg.{pcg32}
use Rattle.cha_board.specs.Board.{Board}
use Rattle.cha_moves.specs.Step.{Move}
use Rattle.cha_moves.specs.Moves.{after, legal}
use Rattle.pgn_games.specs.Games.{opening}
use Rattle.random_games.specs.Games.{MadeGame, drawn, onward, made_from, made_game, made_games}

none_drawn : (moves : List Move) (w : ℕ) → slice_get moves (w % length moves) ≡ None → moves ≡ []
none_drawn [] w e = refl
none_drawn (m ∷ ms) w e =
    let some : 0 < length (m ∷ ms) = omega arith in
    let clash = sym e ∙ slice_get-get_or (m ∷ ms) (w % length (m ∷ ms)) m (mod_below w (length (m ∷ ms)) some) in
    cc

abbrev pub Ends : ℕ → MadeGame → Type 0
Ends plies game = (legal game.last ≡ []) ⊎ (length game.words ≡ plies)

ends_by : (plies : ℕ) (q : Board) (g : Lcg) (rest : Move → MadeGame) (o : Option Move) → drawn g (legal q) ≡ o → ((m : Move) → Ends plies (rest m)) → Ends (plies + 1) (onward q g o rest)
ends_by plies q g rest None e h = inl (none_drawn (legal q) (pcg32 g).0 e)
ends_by plies q g rest (Some m) e h = elim (h m) [ inl x ↦ inl x | inr x ↦ inr (omega (arith, x)) ]

ends_from : (plies : ℕ) (q : Board) (g : Lcg) → Ends plies (made_from plies q g)
unfolding made_from
ends_from zero q g = inr refl
ends_from (suc plies) q g = elim (ends_by plies q g (λ m. made_from plies (after q m) (pcg32 g).1) (drawn g (legal q)) refl (λ m. ends_from plies (after q m) (pcg32 g).1)) [
  | inl x ↦ inl x
  | inr x ↦ inr (omega (arith, x))
]

none_ended : All (Ends 100) []
none_ended k d inside = absurd (omega arith)

pub all_ended : (count : ℕ) (g : Lcg) → All (Ends 100) (made_games count g)
unfolding made_games
all_ended zero g = none_ended
all_ended (suc count) g = All-cons (Ends 100) (made_game g) (made_games count (made_game g).generator) (ends_from 100 opening g) (all_ended count (made_game g).generator)
