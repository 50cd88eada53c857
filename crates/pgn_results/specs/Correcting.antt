-- A text whose games have other results.
use Rattle.std.specs.Prelude.{ℕ, false, List, [], ◌∷◌, ◌++◌, take, drop, Option, Some, None}
use Rattle.std.specs.List.{fold}
use Rattle.pgn_lex.specs.declared.kinds.Placed.{Placed}
use Rattle.pgn_lex.specs.Tokens.{tokens}
use Rattle.pgn_games.specs.declared.marks.ResultMark.{ResultMark}
use Rattle.pgn_games.specs.declared.played.PlacedGame.{PlacedGame}
use Rattle.pgn_games.specs.declared.token_turns.Place.TheVariants.{Before}
use Rattle.pgn_games.specs.Cutting.{cut}
use Rattle.pgn_results.specs.Replacing.{with_mark, game_with_mark}

-- a text in which those of these games that a mark is given to have it as their result
unfoldable pub corrected_games : List (List Placed) → List (Option ResultMark) → List ℕ → List ℕ
corrected_games [] marks bytes = bytes
corrected_games (game ∷ games) [] bytes = bytes
corrected_games (game ∷ games) (None ∷ marks) bytes = corrected_games games marks bytes
corrected_games (game ∷ games) (Some mark ∷ marks) bytes = with_mark false 0 mark game (corrected_games games marks bytes)

-- the same of all games of a text, in order
abbrev pub corrected : List ℕ → List (Option ResultMark) → List ℕ
corrected bytes marks = corrected_games (cut Before (tokens bytes)) marks bytes

-- the bytes from one place to another
abbrev pub between : ℕ → ℕ → List ℕ → List ℕ
between start end bytes = drop start (take end bytes)

-- The same from a place on, with each game that changes written from its own bytes alone: those from its first token to its last. The
-- byte behind it tells whether a space is put there.
unfoldable pub written : ℕ → List ℕ → List PlacedGame → List (Option ResultMark) → List ℕ
written start bytes [] marks = drop start bytes
written start bytes (game ∷ games) [] = drop start bytes
written start bytes (game ∷ games) (None ∷ marks) = written start bytes games marks
written start bytes (game ∷ games) (Some mark ∷ marks) =
    between start game.span.start bytes
    ++ (game_with_mark mark (between game.span.start game.span.end bytes) (drop game.span.end bytes) ++ written game.span.end bytes games marks)

-- what is written of a game from a place on, at which it begins or which stands before it
unfoldable pub piece_of : ℕ → List ℕ → Option ResultMark → PlacedGame → List ℕ
piece_of start bytes None game = between start game.span.end bytes
piece_of start bytes (Some mark) game =
    between start game.span.start bytes ++ game_with_mark mark (between game.span.start game.span.end bytes) (drop game.span.end bytes)

-- what is written from a place on up to the end of a game: of each of these games for which there is word whether it changes, in order
unfoldable pub written_games : ℕ → List ℕ → List PlacedGame → List (Option ResultMark) → List ℕ
written_games start bytes [] marks = []
written_games start bytes (game ∷ games) [] = []
written_games start bytes (game ∷ games) (mark ∷ marks) = piece_of start bytes mark game ++ written_games game.span.end bytes games marks

-- where the last of these games ends, or a place before them where there is none
abbrev pub end_of : ℕ → List PlacedGame → ℕ
end_of start games = fold (λ end (game : PlacedGame). game.span.end) start games
