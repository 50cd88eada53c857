use Rattle.std.proofs.Common.{ap, sym, subst, ◌∙◌, inl, arith, length}
use Rattle.shard_table.specs.ShardRows.{AreKeyed}
use Rattle.shard_table.proofs.Rowing.{keyed_none}
use Rattle.shard_table.proofs.row_list.RowList.new.Goals as goal

pub invariant_of-result : goal.invariant_of-result
invariant_of-result c =
    let made = c.in_ok-cache.ensures in
    let some = c.requires.some in
    let empty = c.in_ok-listed.ensures.items in record {
      some = omega (arith, some);
      most = ap (λ s. s.cap) made ∙ c.in-Some.ensures;
      keyed = subst AreKeyed (ap (λ s. s.entries) (sym made)) keyed_none;
      few = (let none = ap length empty in omega (arith, none));
      room = (let exact = c.in_ok-listed.ensures.exact in omega (arith, exact));
      one = inl empty;
    }
