use Rattle.side_by_side.specs.declared.cuts.Purpose.TheVariants.{Corrected}
use Rattle.side_by_side.specs.declared.cuts.ItemKind.TheVariants.{Games}
use Rattle.item_batches.proofs.Settling.{took_nothing}
use Rattle.adjudicate.proofs.OrderRuns.{nothing_corrected}
use Rattle.adjudicate.proofs.correcting.correct_games.Goals as goal

pub returns-in_default-clause-run : goal.returns-in_default-clause-run
returns-in_default-clause-run g c = nothing_corrected _ (took_nothing (Games Corrected)) _ _ _ _ _
