use Rattle.std.proofs.Common.{◌≤◌, length, sym, subst}
use Rattle.side_by_side.specs.Cuts.{IsAskedOf}
use Rattle.side_by_side.specs.Parts.{items_of, IsAbout}
use Rattle.item_batches.proofs.Batching.{first_queue, no_part}
use Rattle.item_batches.proofs.batches.Batches.new.Goals as goal

pub invariant_of-result : goal.invariant_of-result
invariant_of-result g c =
    let e = c.nothing_queued.ensures in
    let begun = c.nothing_queued.result.begun.items in
    let reader = c.in_ok-reader.ensures in
    let asked = subst (λ k. IsAskedOf k c.args.question) (sym reader.kind) c.requires.asked in (
      c.requires.ready,
      no_part (λ part. g.H.Hands.mine part × (1 ≤ length (items_of part))) begun e.1,
      no_part (IsAbout c.args.question) begun e.1,
      rw (e.0, e.1, e.2) (first_queue c.in_ok-reader.reader c.args.question reader.goes_on asked reader.first.2),
    )
