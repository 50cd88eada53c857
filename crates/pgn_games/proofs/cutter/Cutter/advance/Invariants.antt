use Rattle.std.proofs.Common.{◌≡◌, ◌+◌, ◌-◌, ◌<◌, ◌≤◌, length, take}
use Rattle.cha_outside.specs.declared.gathering.TheConstants.{MOST_BYTES}
use Rattle.pgn_games.specs.Games.{placed_games}
use Rattle.pgn_games.specs.Reading.{Takes}
use Rattle.pgn_games.specs.Settling.{settled_games}
use Rattle.pgn_games.specs.Keeping.{taken_by, IsOpenAt, IsScannedAt, WaitsAt}
use Rattle.pgn_games.proofs.cutter.Cutter.advance.Given as goal

-- the bytes that the source gave were taken, and the game is not whole
abbrev pub invariant-loop-self : goal.invariant-loop-self
invariant-loop-self g l = record {
  is_open : IsOpenAt l.self;
  scanned : IsScannedAt l.self;
  waits : WaitsAt l.self;
  bytes : Takes (g.S.Source.left l.fn.source) (g.S.Source.left l.source) (taken_by l.fn.self) (taken_by l.self);
  given : l.self.given ≡ l.fn.self.given;
  first : take l.fn.self.given (placed_games (taken_by l.self)) ≡ take l.fn.self.given (placed_games (taken_by l.fn.self));
  at_hand : l.fn.self.given < settled_games (taken_by l.fn.self) → (l.source ≡ l.fn.source) × (taken_by l.self ≡ taken_by l.fn.self);
  later : g.S.Source.faults l.fn.source ≤ g.S.Source.faults l.source;
}

abbrev pub decreases-loop-self : goal.decreases-loop-self
decreases-loop-self g l = MOST_BYTES + 1 - length (taken_by l.self)
