use Rattle.std.proofs.Common.{rules}
use Rattle.helpmate_list.specs.Parts.{AreParts}
use Rattle.helpmate_list.proofs.spread.ThreadedSpread.parts.Goals as goal

pub returns : goal.returns
unfolding AreParts
returns g c = (
  search rules,
  (λ i d less.
      let e = c.in_ok-parts.ensures.each i d less in
      search rules),
)
