use Rattle.std.proofs.Common.{◌-◌}
use Rattle.random_games.specs.Games.{made_game}
use Rattle.random_games.proofs.Plies.{GoesOn}
use Rattle.random_games.proofs.games.make_game.Given as goal

-- the words so far, and those that follow, are the words of the game
abbrev pub invariant-loop-ply : goal.invariant-loop-ply
invariant-loop-ply l = GoesOn (made_game l.fn.generator) l.words (100 - l._ply) l.last l.generator
