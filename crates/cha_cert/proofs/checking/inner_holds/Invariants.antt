use Rattle.std.proofs.Common.{◌≡◌, ℕ, ◌<◌, length, get_or}
use Rattle.std.specs.List.{Contains}
use Rattle.cha_moves.specs.Step.{Move}
use Rattle.cha_moves.specs.Moves.{after, legal}
use Rattle.cha_cert.specs.Indexed.{packed_of, words_in}
use Rattle.cha_cert.specs.Costs.{CostsAtMost}
use Rattle.cha_cert.proofs.checking.inner_holds.Given as goal

-- the moves so far lead to positions of the index, each after one search
abbrev pub invariant-loop-m : goal.invariant-loop-m
invariant-loop-m g l = record {
  same : l.m-items ≡ legal l.position;
  leads : (k : ℕ) (d : Move) → k < l.m-index → Contains (words_in l.index) (packed_of (after l.position (get_or (legal l.position) k d)));
  cost : CostsAtMost (length l.index) l.m-index l.initial.steps l.steps;
}
