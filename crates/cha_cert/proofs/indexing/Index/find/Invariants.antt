use Rattle.std.proofs.Common.{◌≡◌, ℕ, suc, ◌+◌, ◌-◌, ◌*◌, ◌^◌, ◌<◌, ◌≤◌, length, get_or, Less, Greater}
use Rattle.cha_cert.specs.declared.indexing.IndexEntry.{IndexEntry}
use Rattle.cha_cert.proofs.Finding.{against}
use Rattle.cha_cert.proofs.indexing.Index.find.Given as goal

-- The key lies behind the places below low and before those from high on; the looks so far halved the places between.
abbrev pub invariant-loop-low : goal.invariant-loop-low
invariant-loop-low g l = record {
  ordered : l.low ≤ l.high;
  inside : l.high ≤ length l.self;
  before : (j : ℕ) (d : IndexEntry) → j < l.low → against l.key (get_or l.self j d) ≡ Greater;
  after : (j : ℕ) (d : IndexEntry) → l.high ≤ j → j < length l.self → against l.key (get_or l.self j d) ≡ Less;
  rises : l.initial.steps ≤ l.steps;
  cost : 2 ^ (l.steps - l.initial.steps) ≤ 2 * length l.self + 1;
  left : 2 ^ suc (l.steps - l.initial.steps) * (l.high - l.low) ≤ 2 * length l.self + 1;
}

abbrev pub decreases-loop-low : goal.decreases-loop-low
decreases-loop-low g l = l.high - l.low
