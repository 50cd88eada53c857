use Rattle.std.proofs.Common.{◌≡◌}
use Rattle.cha_cert.specs.declared.checking.Checked.TheVariants.{Accepted}
use Rattle.cha_decide.proofs.showing.checked.Goals as goal

pub unreachable-requires : goal.unreachable-requires
unreachable-requires c =
    let accepted : c.in_ok-check.field-0 ≡ Accepted = c.in_ok-check.ensures.accepted.1 c.requires.valid in
    cc
