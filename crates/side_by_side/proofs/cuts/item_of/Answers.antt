use Rattle.std.proofs.Common.{subst}
use Rattle.side_by_side.specs.declared.cuts.Purpose.{Purpose}
use Rattle.side_by_side.specs.declared.cuts.ItemKind.TheVariants.{Games}
use Rattle.side_by_side.specs.Cuts.{IsAskedOf}
use Rattle.side_by_side.proofs.Going.{game_asked, kept_asked}
use Rattle.side_by_side.proofs.cuts.item_of.Goals as goal

pub returns-in-Judged-clause-asked : goal.returns-in-Judged-clause-asked
returns-in-Judged-clause-asked c = λ question about.
    let P : Purpose → Type 0 = λ x. IsAskedOf (Games x) question in
    game_asked question c.item_of_game.result c.item_of_game.ensures.asked (subst P c.in-Judged.is about)

pub returns-in-Corrected-clause-asked : goal.returns-in-Corrected-clause-asked
returns-in-Corrected-clause-asked c = λ question about.
    let P : Purpose → Type 0 = λ x. IsAskedOf (Games x) question in
    kept_asked question c.item_of_kept_game.result c.item_of_kept_game.ensures.asked (subst P c.in-Corrected.is about)
