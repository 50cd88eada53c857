use Rattle.std.proofs.Common.{◌∙◌}
use Rattle.mob_check.specs.Grounds.{guards_with}
use Rattle.mob_check.proofs.Grounds.{kinds_joined, guarded_are}
use Rattle.mob_check.proofs.ground.guarded_squares.Goals as goal

pub returns : goal.returns
returns c = λ s is.
    let p = c.args.position.now in
    rw (c.joined-5.ensures, c.joined-4.ensures, c.joined-3.ensures, c.joined-2.ensures, c.joined.ensures)
    (kinds_joined (guards_with p s c.args.side)
    c.guarded_as.result c.guarded_as-2.result c.guarded_as-3.result c.guarded_as-4.result c.guarded_as-5.result c.guarded_as-6.result
    (c.guarded_as.ensures s is) (c.guarded_as-2.ensures s is) (c.guarded_as-3.ensures s is) (c.guarded_as-4.ensures s is) (c.guarded_as-5.ensures s is) (c.guarded_as-6.ensures s is)
    ∙ guarded_are p s c.args.side)
