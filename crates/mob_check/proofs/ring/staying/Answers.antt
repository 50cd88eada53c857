use Rattle.std.proofs.Common.{ℕ}
use Rattle.cha_board.specs.declared.men.Kind.{Kind}
use Rattle.mob_check.proofs.Grounds.{kinds_joined}
use Rattle.mob_check.specs.MatesInReach.{stays_as, stays_on}
use Rattle.mob_check.proofs.ring.staying.Goals as goal

pub returns : goal.returns
unfolding stays_on
returns c =
    rw (c.joined-5.ensures, c.joined-4.ensures, c.joined-3.ensures, c.joined-2.ensures, c.joined.ensures)
    (kinds_joined (λ (k : Kind) (n : ℕ). stays_as c.args.scene.now c.args.king c.args.from n k)
    c.staying_as.result c.staying_as-2.result c.staying_as-3.result c.staying_as-4.result c.staying_as-5.result c.staying_as-6.result
    c.staying_as.ensures c.staying_as-2.ensures c.staying_as-3.ensures c.staying_as-4.ensures c.staying_as-5.ensures c.staying_as-6.ensures)
