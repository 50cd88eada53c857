use Rattle.std.proofs.Common.{◌≡◌, ◌+◌, ◌-◌, ◌<◌, ◌≤◌, length, take, true, false, Bool, ℕ}
use Rattle.cha_outside.specs.declared.gathering.TheConstants.{MOST_BYTES}
use Rattle.cha_outside.specs.Gathering.{Gathers}
use Rattle.std.specs.Io.KnownBytes.{IsAtEnd}
use Rattle.pgn_games.specs.Games.{placed_games}
use Rattle.pgn_games.specs.Settling.{settled_games}
use Rattle.pgn_results.specs.Keeping.{arrived, IsGoingOn}
use Rattle.pgn_results.proofs.kept.KeptReader.next.Given as goal

-- what came was taken, and none of it was written or given
abbrev pub invariant-loop-found : goal.invariant-loop-found
invariant-loop-found g l = record {
  is_open : IsGoingOn l.self-inside.intake l.self-inside.ended;
  working : l.self-inside.failed ≡ false;
  bytes : Gathers (g.S.Source.left l.fn.source) (g.S.Source.left l.source) l.fn.self.taken (arrived l.self-inside.intake);
  written : l.self-inside.intake.start + l.self-inside.intake.written ≡ l.fn.self.written;
  given : l.self-inside.intake.games.given ≡ l.fn.self.given;
  first : take l.fn.self.given (placed_games (arrived l.self-inside.intake)) ≡ take l.fn.self.given (placed_games l.fn.self.taken);
  still : l.fn.self.ended ≡ true → (arrived l.self-inside.intake ≡ l.fn.self.taken) × (l.self-inside.ended ≡ true) × (l.source ≡ l.fn.source);
  at_end : l.fn.self.ended ≡ false → l.self-inside.ended ≡ true → IsAtEnd (g.S.Source.left l.source);
  at_hand : l.fn.self.given < settled_games l.fn.self.taken → (l.source ≡ l.fn.source) × (arrived l.self-inside.intake ≡ l.fn.self.taken);
  later : g.S.Source.faults l.fn.source ≤ g.S.Source.faults l.source;
}

-- what is left to read: the end, and bytes up to the most that may come
abbrev pub end_left : Bool → ℕ
end_left true = 0
end_left false = 1

abbrev pub decreases-loop-found : goal.decreases-loop-found
decreases-loop-found g l = end_left l.self-inside.ended + (MOST_BYTES + 1 - length (arrived l.self-inside.intake))
