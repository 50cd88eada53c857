-- What a game that was made says when it is read again.
use Rattle.std.specs.Prelude.{Bool, true, false, length, Some, None}
use Rattle.cha_board.specs.declared.men.Color.{Color}
use Rattle.cha_board.specs.Men.{other_color}
use Rattle.cha_moves.specs.Standings.{standing_of}
use Rattle.cha_moves.specs.declared.ends.Standing.{Standing}
use Rattle.cha_moves.specs.declared.ends.Standing.TheVariants.{Mate, Stalemate, Running}
use Rattle.pgn_games.specs.declared.marks.ResultMark.{ResultMark}
use Rattle.pgn_games.specs.declared.marks.ResultMark.TheVariants.{Draw}
use Rattle.pgn_games.specs.declared.played.Game.{Game}
use Rattle.pgn_games.specs.Games.{opening}
use Rattle.pgn_games.specs.Wins.{win_of}
use Rattle.random_games.specs.Games.{MadeGame}

-- the result by how the last position stands: where the game would go on, the side to move has lost on time
abbrev pub result_of : Color → Standing → ResultMark
result_of side (Mate winner) = win_of winner
result_of side Stalemate = Draw
result_of side Running = win_of (other_color side)

-- the game was lost on time
abbrev pub is_forfeit : Standing → Bool
is_forfeit (Mate winner) = false
is_forfeit Stalemate = false
is_forfeit Running = true

-- a game from the opening position, without a fault, with the words, the result and the loss on time that were made
unfoldable pub as_read : MadeGame → Game
as_read game = record {
  start = opening;
  recorded = result_of game.last.side (standing_of game.last);
  forfeit = is_forfeit (standing_of game.last);
  flag_fell = is_forfeit (standing_of game.last);
  words = game.words;
  before_fault = Some (length game.words);
  fault = None;
}
