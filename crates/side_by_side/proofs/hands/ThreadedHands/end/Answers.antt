use Rattle.std.proofs.Common.{sym, subst}
use Rattle.side_by_side.specs.declared.parts.Part.{Part}
use Rattle.side_by_side.specs.Progresses.{AllGoOn}
use Rattle.side_by_side.specs.Parts.{items_of}
use Rattle.side_by_side.proofs.Going.{all_stay}
use Rattle.side_by_side.proofs.hands.ThreadedHands.end.Goals as goal

pub returns-in-Here-clause-same : goal.returns-in-Here-clause-same
returns-in-Here-clause-same g c = λ question about.
    let P : Part → Type 0 = λ part. AllGoOn question (items_of part) c.in-Here.items.items in
    subst P (sym c.in-Here.is) (all_stay question c.in-Here.items.items)
