use Rattle.std.proofs.Common.{◌≡◌, ◌-◌, length}
use Rattle.pgn_games.specs.Keeping.{taken_by, IsOpenAt, IsScannedAt}
use Rattle.pgn_games.proofs.cutter.Cutter.feed_piece.Given as goal

-- no byte is lost, and the game is not whole
abbrev pub invariant-loop-self : goal.invariant-loop-self
invariant-loop-self l = record {
  is_open : IsOpenAt l.self;
  scanned : IsScannedAt l.self;
  taken : taken_by l.self ≡ taken_by l.fn.self;
  piece : l.self.piece ≡ l.fn.self.piece;
  same : (l.self.given ≡ l.fn.self.given) × (l.self.taken ≡ l.fn.self.taken);
}

abbrev pub decreases-loop-self : goal.decreases-loop-self
decreases-loop-self l = length l.self.piece.items - l.self.used
