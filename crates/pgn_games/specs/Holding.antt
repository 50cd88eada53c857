-- What a reader of games keeps of the tokens that it was told.
use Rattle.std.specs.Prelude.{◌≡◌, ℕ, ◌+◌, ◌*◌, ◌-◌, ◌≤◌, Bool, false, List, [], ◌∷◌, ◌++◌, length, drop, Option, Some, None}
use Rattle.cha_outside.specs.declared.gathering.TheConstants.{MOST_BYTES}
use Rattle.pgn_lex.specs.declared.kinds.Placed.{Placed}
use Rattle.pgn_lex.specs.Tokens.{tokens, settled_tokens}
use Rattle.pgn_games.specs.declared.token_turns.Place.{Place}
use Rattle.pgn_games.specs.declared.token_turns.Place.TheVariants.{Before}
use Rattle.pgn_games.specs.declared.token_turns.Turn.{Turn}
use Rattle.pgn_games.specs.declared.token_turns.Turn.TheVariants.{Stays, Ends, Begins}
use Rattle.pgn_games.specs.Cutting.{turn, place_after, place_behind, open_at, cut}
use Rattle.pgn_games.specs.Settling.{games_ended}

-- a size, with more in front
abbrev pub shifted : ℕ → Option ℕ → Option ℕ
shifted n None = None
shifted n (Some k) = Some (n + k)

-- the size of a game that a token ends, or else that of what follows with the token in front
abbrev pub size_with : Turn → Option ℕ → Option ℕ
size_with (Stays place) size = shifted 1 size
size_with Ends size = Some 1
size_with Begins size = Some 0

-- how many of these tokens belong to the game that is being read, if they end it
unfoldable pub first_end : Place → List Placed → Option ℕ
first_end place [] = None
first_end place (t ∷ ts) = size_with (turn place t.token) (first_end (place_after (turn place t.token)) ts)

-- these tokens of a game end it not, and lead to a place
pub record IsScanned (game : List Placed) (place : Place) : Type 0 where
  pub goes_on : (ts : List Placed) → first_end Before (game ++ ts) ≡ shifted (length game) (first_end place ts)
  pub shallow : open_at place ≤ length game
  pub stands : place_behind Before game ≡ place

-- of the tokens that were told, all but these belong to so many games, whatever tokens follow
pub record IsCut (told rest : List Placed) (given : ℕ) : Type 0 where
  pub games : List (List Placed)
  pub number : length games ≡ given
  pub cuts : (ts : List Placed) → cut Before (told ++ ts) ≡ games ++ cut Before (rest ++ ts)
  pub counts : (ts : List Placed) → games_ended Before (told ++ ts) ≡ given + games_ended Before (rest ++ ts)
  pub places : place_behind Before told ≡ place_behind Before rest
  pub few : given + length rest ≤ length told

-- the same where no token follows
pub record IsCutAtEnd (told rest : List Placed) (given : ℕ) : Type 0 where
  pub games : List (List Placed)
  pub number : length games ≡ given
  pub cuts : cut Before told ≡ games ++ cut Before rest
  pub few : given + length rest ≤ length told

-- What is kept while the source goes on: the tokens of the bytes that were fed, but for those of the games that were given, and the
-- rest of the piece that was read last.
pub record IsHeldOpen (fed : List ℕ) (lexer_ended : Bool) (kept : List Placed) (piece : List ℕ) (used given taken : ℕ) : Type 0 where
  pub not_ended : lexer_ended ≡ false
  pub told : IsCut (settled_tokens fed) kept given
  pub sparse : length (settled_tokens fed) ≤ 2 * length fed
  pub used_inside : used ≤ length piece
  pub taken_is : taken ≡ length fed + (length piece - used)
  pub few_bytes : taken ≤ MOST_BYTES

-- what is kept once the source has ended
pub record IsLast (fed : List ℕ) (kept : List Placed) (piece : List ℕ) (used given : ℕ) : Type 0 where
  pub told : IsCutAtEnd (tokens fed) kept given
  pub sparse : length (tokens fed) ≤ 2 * length fed + 2
  pub none_left : drop used piece ≡ []
  pub few_bytes : length fed ≤ MOST_BYTES
