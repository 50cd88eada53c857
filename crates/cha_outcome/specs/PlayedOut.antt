-- Games that were played to their final position (this project).
use Rattle.std.specs.Prelude.{◌≡◌, ◌-◌, ◌<◌, ◌≤◌, length, Some, slice_get}
use Rattle.std.specs.List.{All}
use Rattle.cha_board.specs.Board.{IsValid}
use Rattle.cha_moves.specs.Dead.{ArePlayed}
use Rattle.cha_outcome.specs.declared.items.PlayedGame.{PlayedGame}

-- A game has 1 to 12,001 positions, all of them valid. Each comes from the one before it by a legal move, and the final one is the last.
pub record IsPlayedOut (game : PlayedGame) : Type 0 where
  pub some : 0 < length game.positions
  pub few : length game.positions ≤ 12001
  pub valid : All IsValid game.positions
  pub played : ArePlayed game.positions
  pub last : slice_get game.positions (length game.positions - 1) ≡ Some game.last
