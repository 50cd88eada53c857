-- What a reader keeps of the text of its games, and what is written of each.
use Rattle.std.specs.Prelude.{◌≡◌, ℕ, ◌+◌, ◌≤◌, Bool, true, false, List, [], ◌∷◌, ◌++◌, length, drop, Option, Some, None}
use Rattle.cha_outside.specs.declared.gathering.TheConstants.{MOST_BYTES}
use Rattle.pgn_games.specs.declared.marks.ResultMark.{ResultMark}
use Rattle.pgn_games.specs.declared.played.Span.{Span}
use Rattle.pgn_games.specs.Reading.{TookNoMore}
use Rattle.pgn_games.specs.Settling.{settled_games}
use Rattle.pgn_results.specs.declared.intake.Intake.{Intake}
use Rattle.pgn_results.specs.Correcting.{between}
use Rattle.pgn_results.specs.Replacing.{game_with_mark}

-- the bytes taken from a source, how many of them were written, how many of their games were given, whether the source has ended, and
-- whether a call failed
pub record KeptState : Type 0 where
  pub taken : List ℕ
  pub written : ℕ
  pub given : ℕ
  pub ended : Bool
  pub failed : Bool

-- the bytes that have come
abbrev pub arrived : Intake → List ℕ
arrived i = i.games.taken ++ i.piece.items

-- the last piece was taken when it was needed for one game more
abbrev pub Waits : List ℕ → ℕ → Type 0
Waits taken given = (piece : List ℕ) × TookNoMore taken piece given

-- No call failed: the splitter has taken all bytes, and is open as long as the source is; the bytes that are kept are the last ones of
-- them, as many as were not written at least; as long as the source has not ended, the games given are settled; the last piece was taken
-- when it was needed, and the end when each game that is settled was given.
pub record IsGoingOn (i : Intake) (ended : Bool) : Type 0 where
  pub handed_on : i.piece.items ≡ []
  pub games : (i.games.failed ≡ false) × (i.games.ended ≡ ended)
  pub few : length i.games.taken ≤ MOST_BYTES
  pub bytes : i.kept ≡ drop i.start i.games.taken
  pub size : i.start + length i.kept ≡ length i.games.taken
  pub some : i.written ≤ length i.kept
  pub settled : ended ≡ false → i.games.given ≤ settled_games i.games.taken
  pub waits : Waits i.games.taken i.games.given
  pub none_settled : ended ≡ true → settled_games i.games.taken ≤ i.games.given

-- the same, as long as no call failed
abbrev pub IsKept : Intake → Bool → Bool → Type 0
IsKept i ended failed = failed ≡ false → IsGoingOn i ended

-- what is written of a game, with what stands before it from a place on
abbrev pub piece_of : List ℕ → ℕ → Span → Option ResultMark → List ℕ
piece_of bytes start span None = between start span.end bytes
piece_of bytes start span (Some mark) = between start span.start bytes ++ game_with_mark mark (between span.start span.end bytes) (drop span.end bytes)

-- what is written of a game where those that change are written alone: it and a blank line behind it, or nothing
abbrev pub changed_piece : List ℕ → Span → Option ResultMark → List ℕ
changed_piece bytes span None = []
changed_piece bytes span (Some mark) = game_with_mark mark (between span.start span.end bytes) [] ++ 10 ∷ 10 ∷ []

-- what stands behind a place
abbrev pub rest_of : ℕ → List ℕ → List ℕ
rest_of start bytes = drop start bytes
