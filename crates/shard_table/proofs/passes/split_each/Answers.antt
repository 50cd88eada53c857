use Rattle.std.proofs.Common.{◌≡◌, refl, [], ◌∷◌, Some, slice_get}
use Rattle.turn_cell.specs.Passes.{SplitOff, IsOf}
use Rattle.shard_table.specs.Tables.{IsOfTable, pass_at, pass_or}
use Rattle.shard_table.proofs.Eights.{held, stepped}
use Rattle.shard_table.proofs.passes.split_each.Goals as goal

pub returns-clause-new : goal.returns-clause-new
unfolding IsOfTable
returns-clause-new c = λ k cell p e f.
    held (λ j q. (x : _) → slice_get c.args.table.now.cells j ≡ Some x → IsOf x q) (c.split_at-p0.result ∷ c.split_at-p1.result ∷ c.split_at-p2.result ∷ c.split_at-p3.result ∷ c.split_at-p4.result ∷ c.split_at-p5.result ∷ c.split_at-p6.result ∷ c.split_at-p7.result ∷ [])
    (c.split_at-p0.ensures.new, (c.split_at-p1.ensures.new, (c.split_at-p2.ensures.new, (c.split_at-p3.ensures.new, (c.split_at-p4.ensures.new, (c.split_at-p5.ensures.new, (c.split_at-p6.ensures.new, (c.split_at-p7.ensures.new, tt)))))))) k p f cell e

pub returns-clause-split : goal.returns-clause-split
returns-clause-split c =
    stepped pass_at SplitOff (pass_or (c.split_at-p0.result ∷ c.split_at-p1.result ∷ c.split_at-p2.result ∷ c.split_at-p3.result ∷ c.split_at-p4.result ∷ c.split_at-p5.result ∷ c.split_at-p6.result ∷ c.split_at-p7.result ∷ [])) c.args.pass.now c.split_at-p7.new.pass
    (c.split_at-p0.new.pass, c.split_at-p0.ensures.split, c.split_at-p0.ensures.others, (c.split_at-p1.new.pass, c.split_at-p1.ensures.split, c.split_at-p1.ensures.others, (c.split_at-p2.new.pass, c.split_at-p2.ensures.split, c.split_at-p2.ensures.others, (c.split_at-p3.new.pass, c.split_at-p3.ensures.split, c.split_at-p3.ensures.others, (c.split_at-p4.new.pass, c.split_at-p4.ensures.split, c.split_at-p4.ensures.others, (c.split_at-p5.new.pass, c.split_at-p5.ensures.split, c.split_at-p5.ensures.others, (c.split_at-p6.new.pass, c.split_at-p6.ensures.split, c.split_at-p6.ensures.others, (c.split_at-p7.new.pass, c.split_at-p7.ensures.split, c.split_at-p7.ensures.others, refl))))))))
