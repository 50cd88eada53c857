use Rattle.std.proofs.Common.{◌<◌, List, Bool, ap, ◌∙◌, arith}
use Rattle.cha_board.specs.SquareSets.{has_square}
use Rattle.cha_board.proofs.SetLaws.{has-set_of}
use Rattle.mob_sets.specs.Rows.{sets_of}
use Rattle.mob_sets.proofs.sets.Sets.has.Goals as goal

pub returns : goal.returns
returns c =
    let small : c.args.at < 64 = omega arith in
    c.has.ensures ∙ ap (λ (x : List Bool). has_square x c.args.at) c.row.ensures ∙ has-set_of ((sets_of c.args.self.now).has c.args.origin c.args.kind) c.args.at small
