use Rattle.std.proofs.Common.{ℕ, List, length, ap, arith}
use Rattle.pgn_games.proofs.splitting.Splitter.new.Goals as goal

pub invariant_of-result : goal.invariant_of-result
invariant_of-result c = record {
  held = record {
    open_yet = λ e f. c.in_ok-cutter.ensures.open;
    closed_is = λ e. cc;
    at_last = λ e f. cc;
  };
  used_up = λ s e f. c.in_ok-cutter.ensures.used_up;
  few = omega (arith, ap (λ (xs : List ℕ). length xs) c.in_ok-cutter.ensures.nothing.0);
}
