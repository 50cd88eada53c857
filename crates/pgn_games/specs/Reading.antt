-- What a reader of games has taken and given.
use Rattle.std.specs.Prelude.{◌≡◌, ℕ, ◌≤◌, Bool, true, false, List, ◌++◌, length, Option, Some, None, Result, Ok, Err}
use Rattle.cha_outside.specs.declared.gathering.ReadEnd.{ReadEnd}
use Rattle.cha_outside.specs.Gathering.{Gathers}
use Rattle.pgn_games.specs.declared.played.PlacedGame.{PlacedGame}
use Rattle.pgn_games.specs.Settling.{settled_games}

-- the bytes taken from a source, how many of their games were given, whether the source has ended, and whether a call failed
pub record ReaderState : Type 0 where
  pub taken : List ℕ
  pub given : ℕ
  pub ended : Bool
  pub failed : Bool

-- the bytes that a source gave in a call stand behind those that were taken before
abbrev pub Takes : Option (List ℕ) → Option (List ℕ) → List ℕ → List ℕ → Type 0
Takes left left' taken taken' = Gathers left left' taken taken'

-- What was taken is a front in which no more games are settled than so many, and one piece behind it: no piece was taken before it was needed
-- for one game more.
abbrev pub TookNoMore : List ℕ → List ℕ → ℕ → Type 0
TookNoMore taken piece given = (front : List ℕ) × (taken ≡ front ++ piece) × (length piece ≤ 8388608) × (settled_games front ≤ given)

-- a game was given
abbrev pub gives_game : Result (Option PlacedGame) ReadEnd → Bool
gives_game (Ok (Some game)) = true
gives_game (Ok None) = false
gives_game (Err end) = false
