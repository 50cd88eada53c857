use Rattle.std.proofs.Common.{rules}
use Rattle.pgn_results.proofs.KeptBytes.{nothing_waits}
use Rattle.pgn_results.proofs.kept.KeptReader.new.Goals as goal

pub invariant_of-result : goal.invariant_of-result
invariant_of-result c = λ e.
    let games = c.in_ok-games.ensures in
    record {
      handed_on = search rules;
      games = search rules;
      few = search rules;
      bytes = search rules;
      size = search rules;
      some = search rules;
      settled = search rules;
      waits = nothing_waits _ _ (search rules) (search rules);
      none_settled = search rules;
    }
