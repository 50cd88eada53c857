use Rattle.cha_cert.proofs.Leaves.{not_inner}
use Rattle.cha_decide.proofs.Leaves.{leaf_is_valid, none_inner, shown_alone}
use Rattle.cha_decide.proofs.showing.certified.Goals as goal

pub checked-requires-clause-valid : goal.checked-requires-clause-valid
checked-requires-clause-valid c = leaf_is_valid c.args.position.now c.args.winner c.args.part c.known.ensures c.requires c.in_ok-cert.cert c.in_ok-cert.ensures

pub returns : goal.returns
returns c =
    let q = c.args.position.now in
    let outer = none_inner q c.args.part (not_inner c.args.winner q c.args.part c.requires) c.in_ok-cert.cert c.in_ok-cert.ensures in
    shown_alone c.checked.result q c.args.winner c.in_ok-cert.cert c.checked.ensures.shown c.checked.ensures.same outer
