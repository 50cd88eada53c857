-- Games whose moves are drawn (this project).
use Rattle.std.specs.Prelude.{ℕ, zero, suc, ◌%◌, List, [], ◌∷◌, length, Option, None, Some, slice_get}
use Rattle.rand_pcg.specs.Lcg.{Lcg}
use Rattle.rand_pcg.specs.Pcg.{pcg32, pcg32_of_seed}
use Rattle.rand_core.specs.Pcg32Seed.{pcg32_seed}
use Rattle.cha_board.specs.Board.{Board}
use Rattle.cha_moves.specs.Step.{Move}
use Rattle.cha_moves.specs.Moves.{after, legal}
use Rattle.pgn_games.specs.Games.{opening}
use Rattle.random_games.specs.Words.{move_word}

-- the generator of a seed, PCG XSH RR; each of its words has 32 bits
abbrev pub seeded : ℕ → Lcg
seeded seed = pcg32_of_seed (pcg32_seed 16 seed)

-- the move with the number w mod n of n moves, where w is the next word of the generator; None where there is no move
abbrev pub drawn : Lcg → List Move → Option Move
drawn g moves = slice_get moves ((pcg32 g).0 % length moves)

-- a game as it was made: its words, its positions from the first to the last, the last once more, and the generator after it
pub record MadeGame : Type 0 where
  pub words : List (List ℕ)
  pub positions : List Board
  pub last : Board
  pub generator : Lcg

-- a game without a move
abbrev pub ended : Board → Lcg → MadeGame
ended q g = record { words = []; positions = q ∷ []; last = q; generator = g }

-- a game in front of which a move was made
abbrev pub led_by : Board → Move → MadeGame → MadeGame
led_by q m rest = record { words = move_word q m ∷ rest.words; positions = q ∷ rest.positions; last = rest.last; generator = rest.generator }

-- the game that goes on with a move, if there is one
abbrev pub onward : Board → Lcg → Option Move → (Move → MadeGame) → MadeGame
onward q g None rest = ended q g
onward q g (Some m) rest = led_by q m (rest m)

-- The game of at most so many plies from a position on. Each ply takes one word of the generator, and the game ends where
-- there is no legal move: there no word is taken.
unfoldable pub made_from : ℕ → Board → Lcg → MadeGame
made_from zero q g = ended q g
made_from (suc plies) q g = onward q g (drawn g (legal q)) (λ m. made_from plies (after q m) (pcg32 g).1)

-- a game of at most 100 plies from the opening position on
abbrev pub made_game : Lcg → MadeGame
made_game g = made_from 100 opening g

-- so many games, one after another
unfoldable pub made_games : ℕ → Lcg → List MadeGame
made_games zero g = []
made_games (suc count) g = made_game g ∷ made_games count (made_game g).generator
