use Rattle.cha_cert.proofs.checking.leaf_holds.Goals as goal

pub returns : goal.returns
returns c =
    let both = c.proves_unwinnable.ensures.value in
    ((λ t. record { closed = (both.0 t).0; no_mate = (both.0 t).1 }), (λ holds. both.1 (holds.closed, holds.no_mate)))
