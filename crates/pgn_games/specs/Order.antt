-- Where the games of a text stand.
use Rattle.std.specs.Prelude.{ℕ, ◌<◌, ◌≤◌, List, [], ◌∷◌, ⊤}
use Rattle.pgn_games.specs.declared.played.PlacedGame.{PlacedGame}

-- these games stand one behind another, from a place on and within so many bytes, and none is without a byte
unfoldable pub AreInOrder : ℕ → ℕ → List PlacedGame → Type 0
AreInOrder low size [] = ⊤
AreInOrder low size (game ∷ games) = (low ≤ game.span.start) × (game.span.start < game.span.end) × (game.span.end ≤ size) × AreInOrder game.span.end size games
