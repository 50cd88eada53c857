use Rattle.std.proofs.Common.{◌≡◌, length}
use Rattle.pgn_games.specs.Fields.{speaks_of}
use Rattle.pgn_games.proofs.tag_pairs.speaks_of.Given as goal

-- the words stand in no part that was passed
abbrev pub invariant-loop-rest : goal.invariant-loop-rest
invariant-loop-rest l = speaks_of l.wanted l.rest ≡ speaks_of l.wanted l.value

abbrev pub decreases-loop-rest : goal.decreases-loop-rest
decreases-loop-rest l = length l.rest
