use Rattle.std.proofs.Common.{inr, arith, ◌∙◌, sym, subst}
use Rattle.shard_table.specs.ShardRows.{AreKeyed}
use Rattle.shard_table.proofs.Rowing.{keyed_none}
use Rattle.shard_table.proofs.row_list.RowList.store.Goals as goal

pub invariant_of-self-in-Err : goal.invariant_of-self-in-Err
invariant_of-self-in-Err c = record {
  some = c.self.invariant.some;
  most = c.move_rows.ensures.most ∙ c.store.ensures.most ∙ c.self.invariant.most;
  keyed = subst AreKeyed (sym c.move_rows.ensures.none_left) keyed_none;
  few = c.store-in-Err.ensures.few;
  room = (let a = c.self.invariant.room in let b = c.move_rows.ensures.room in let d = c.store-in-Err.ensures.room in omega (arith, a, b, d));
  one = inr c.move_rows.ensures.none_left;
}
