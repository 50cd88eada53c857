use mathlib.Core.Path.{refl}
use Rattle.std.proofs.Common.{◌≡◌, ◌+◌, slice_index_or, subst, arith}
use Rattle.std.specs.Fork.{ChangesAt}
use Rattle.root_workers.proofs.each.each_mut.Goals as goal

pub returns : goal.returns
returns g c i d less =
    let same : 0 + i ≡ i = omega arith in
    (refl, subst (λ k. ChangesAt g.F.Fn c.args.f.now k (slice_index_or c.args.s.now i d) (slice_index_or c.each_from.new.s i d)) same (c.each_from.ensures i d less))
