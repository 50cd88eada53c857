use Rattle.std.proofs.Common.{sym, ◌∙◌, ap}
use Rattle.root_workers.specs.declared.answers.RoundsEnd.{RoundsEnd}
use Rattle.root_workers.specs.RoundAnswers.{claim_of}
use Rattle.root_workers.proofs.Going.{keeps}
use Rattle.root_workers.proofs.deepening.keep.Goals as goal
use Rattle.root_workers.proofs.deepening.keep.Goals.{in-Mate+in_ok-row-in-Mate, in-NoneWithin}

pub returns-clause-kept : goal.returns-clause-kept
returns-clause-kept g c =
    let q = c.args.position.now in
    let s = c.args.winner in
    let claim = claim_of q s c.args.end.now in
    elim c.match-end.branch [
      | in-Mate+in_ok-row-in-Mate w ↦ keeps g.C.Facts.made c.args.crew.now c.store-stored.new.self c.match-end.row claim c.store-stored.result c.store-stored.ensures.entered (w.row-is ∙ w.in_ok-row-in-Mate.ensures ∙ ap (λ (e : RoundsEnd). claim_of q s e) (sym w.in-Mate.is))
      | in-NoneWithin w ↦ keeps g.C.Facts.made c.args.crew.now c.store-stored.new.self c.match-end.row claim c.store-stored.result c.store-stored.ensures.entered (w.row-is ∙ w.none-row.ensures ∙ ap (λ (e : RoundsEnd). claim_of q s e) (sym w.in-NoneWithin.is))
    ]
