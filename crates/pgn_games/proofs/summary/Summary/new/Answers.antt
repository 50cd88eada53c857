use Rattle.pgn_games.proofs.Summed.{nothing_summed}
use Rattle.pgn_games.proofs.Sound.{none_sound}
use Rattle.pgn_games.proofs.summary.Summary.new.Goals as goal

pub invariant_of-result : goal.invariant_of-result
invariant_of-result c =
    let nothing = nothing_summed _ _ _ _ _ c.new.ensures c.new-2.ensures.0 c.new-2.ensures.1 c.new-2.ensures.2 c.no_words.ensures in (
      nothing.0,
      nothing.1,
      nothing.2,
      none_sound _ c.new.ensures,
    )
