use Rattle.std.proofs.Common.{◌≡◌, ◌+◌, ◌-◌, ◌^◌, ◌<◌, ◌++◌, length, vec_len}
use Rattle.pgn_games.specs.Holding.{IsScanned}
use Rattle.pgn_games.proofs.gathering.gather.Given as goal

-- the tokens are the same, and those of the game do not end it
abbrev pub invariant-loop-behind : goal.invariant-loop-behind
invariant-loop-behind l = record {
  same : l.game ++ l.behind.items ≡ l.fn.game ++ l.fn.behind.items;
  scanned : IsScanned l.game l.place;
  few : length l.game + length l.behind.items < 2 ^ 64 - 1;
}

abbrev pub decreases-loop-behind : goal.decreases-loop-behind
decreases-loop-behind l = vec_len l.behind
