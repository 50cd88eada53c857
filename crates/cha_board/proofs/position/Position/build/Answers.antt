use Rattle.std.proofs.Common.{◌≡◌, length, sym, ap, ◌∙◌}
use Rattle.cha_board.proofs.Builds.{built_is_valid}
use Rattle.cha_board.specs.Build.{built, build_fault}
use Rattle.cha_board.proofs.position.Position.build.Goals as goal

pub of_parts-requires : goal.of_parts-requires
of_parts-requires c =
    let size : length c.of_list-placed.result ≡ 64 = ap length c.of_list-placed.ensures ∙ c.told-men in
    rw (c.rights_kept.ensures, c.target_kept.ensures)
    (built_is_valid c.of_list-placed.result c.args.side c.args.rights c.args.target size (sym c.first_fault.ensures ∙ c.in-None.is))

pub returns-in-None-clause-ok : goal.returns-in-None-clause-ok
unfolding built
returns-in-None-clause-ok c =
    c.of_parts.ensures ∙ rw (c.rights_kept.ensures, c.target_kept.ensures) (ap (λ men. built men c.args.side c.args.rights c.args.target) c.of_list-placed.ensures)

pub returns-in-None-clause-fault : goal.returns-in-None-clause-fault
returns-in-None-clause-fault c = sym c.in-None.is ∙ c.first_fault.ensures ∙ ap (λ men. build_fault men c.args.side) c.of_list-placed.ensures

pub returns-in-Some-clause-fault : goal.returns-in-Some-clause-fault
returns-in-Some-clause-fault c = sym c.in-Some.is ∙ c.first_fault.ensures ∙ ap (λ men. build_fault men c.args.side) c.of_list-placed.ensures
