use Rattle.std.proofs.Common.{◌≡◌, ◌≤◌, ◌++◌}
use Rattle.cha_fen.specs.Written.{ranks_text}
use Rattle.cha_fen.proofs.written.put_ranks.Given as goal

abbrev pub invariant-loop-rank : goal.invariant-loop-rank
invariant-loop-rank l = record {
  text : l.text ++ ranks_text l.rank l.men ≡ l.initial.text ++ ranks_text 8 l.men;
  few : l.rank ≤ 8;
}

abbrev pub decreases-loop-rank : goal.decreases-loop-rank
decreases-loop-rank l = l.rank
