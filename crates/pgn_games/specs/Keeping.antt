-- What a cutter of games keeps.
use Rattle.std.specs.Prelude.{◌≡◌, ℕ, ◌≤◌, Bool, true, false, List, [], ◌++◌, drop, length, Option, Some, None, Result, Ok, Err}
use Rattle.cha_list.specs.declared.memory.NoMemory.{NoMemory}
use Rattle.cha_outside.specs.declared.gathering.TheConstants.{MOST_BYTES}
use Rattle.pgn_games.specs.declared.played.PlacedGame.{PlacedGame}
use Rattle.pgn_games.specs.declared.token_turns.Place.TheVariants.{Before}
use Rattle.pgn_games.specs.declared.cutter.Cutter.{Cutter}
use Rattle.pgn_games.specs.Games.{is_closed}
use Rattle.pgn_games.specs.Reading.{TookNoMore}
use Rattle.pgn_games.specs.Settling.{settled_games}
use Rattle.pgn_games.specs.Holding.{first_end, IsScanned, IsHeldOpen, IsLast}

-- the bytes that were taken of the source
abbrev pub taken_by : Cutter → List ℕ
taken_by c = c.lexer.fed ++ drop c.used c.piece.items

abbrev pub IsOpenAt : Cutter → Type 0
IsOpenAt c = IsHeldOpen c.lexer.fed c.lexer.ended (c.game ++ c.behind.items) c.piece.items c.used c.given c.taken

abbrev pub IsLastAt : Cutter → Type 0
IsLastAt c = IsLast c.lexer.fed (c.game ++ c.behind.items) c.piece.items c.used c.given

abbrev pub IsScannedAt : Cutter → Type 0
IsScannedAt c = IsScanned c.game c.place

-- its last piece was taken when it was needed
abbrev pub WaitsAt : Cutter → Type 0
WaitsAt c = (piece : List ℕ) × TookNoMore (taken_by c) piece c.given

-- its game is whole
abbrev pub HasGame : Cutter → Type 0
HasGame c = first_end Before (c.game ++ c.behind.items) ≡ Some (length c.game)

-- a game was given
abbrev pub found_one : Result (Option PlacedGame) NoMemory → Bool
found_one (Ok (Some game)) = true
found_one (Ok None) = false
found_one (Err refused) = false

-- what a reader keeps, as long as no call failed
pub record IsHeld (c : Cutter) (ended failed : Bool) : Type 0 where
  pub open_yet : ended ≡ false → failed ≡ false → IsOpenAt c × IsScannedAt c
  pub closed_is : ended ≡ true → c.closed ≡ is_closed (taken_by c)
  pub at_last : ended ≡ true → failed ≡ false → IsLastAt c × IsScannedAt c

-- the same of a reader of a source, which takes a piece, and its end, only when it is needed
pub record IsReading (c : Cutter) (ended failed : Bool) : Type 0 where
  pub held : IsHeld c ended failed
  pub waits : WaitsAt c
  pub none_settled : ended ≡ true → settled_games (taken_by c) ≤ c.given

-- nothing is left of a cutter's piece
abbrev pub IsUsedUp : Cutter → Type 0
IsUsedUp c = (c.behind.items ≡ []) × (c.used ≡ length c.piece.items)

-- what a splitter keeps, as long as no call failed
pub record IsSplit (c : Cutter) (spent ended failed : Bool) : Type 0 where
  pub held : IsHeld c ended failed
  pub used_up : spent ≡ true → ended ≡ false → failed ≡ false → IsUsedUp c
  pub few : length (taken_by c) ≤ MOST_BYTES
