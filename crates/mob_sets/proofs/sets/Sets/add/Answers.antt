use Rattle.std.proofs.Common.{◌<◌, List, Bool, ap, ◌∙◌, arith}
use Rattle.mob_sets.specs.Rows.{sets_of, sets_joined}
use Rattle.mob_sets.proofs.Joining.{joined_one}
use Rattle.mob_sets.proofs.sets.Sets.add.Goals as goal

pub returns-clause-ok : goal.returns-clause-ok
returns-clause-ok c =
    let small : c.args.at < 64 = omega arith in
    let s = sets_of c.args.self.now in
    c.in_ok-join.ensures.ok
    ∙ ap (λ (x : List Bool). sets_joined s c.args.origin c.args.kind x) c.single.ensures
    ∙ joined_one s c.args.origin c.args.kind c.args.at small
