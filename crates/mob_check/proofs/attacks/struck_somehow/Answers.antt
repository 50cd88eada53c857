use Rattle.std.proofs.Common.{ℕ}
use Rattle.cha_board.specs.declared.men.Kind.{Kind}
use Rattle.mob_check.proofs.Grounds.{kinds_joined}
use Rattle.mob_check.specs.MatesInReach.{strikes_as}
use Rattle.mob_check.proofs.attacks.struck_somehow.Goals as goal

pub returns : goal.returns
returns c =
    rw (c.joined-5.ensures, c.joined-4.ensures, c.joined-3.ensures, c.joined-2.ensures, c.joined.ensures)
    (kinds_joined (λ (k : Kind) (n : ℕ). strikes_as c.args.scene.now c.args.seen c.args.king n c.args.from k)
    c.struck_as.result c.struck_as-2.result c.struck_as-3.result c.struck_as-4.result c.struck_as-5.result c.struck_as-6.result
    c.struck_as.ensures c.struck_as-2.ensures c.struck_as-3.ensures c.struck_as-4.ensures c.struck_as-5.ensures c.struck_as-6.ensures)
