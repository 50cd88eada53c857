-- Calls of a shard, one list after another.
use Rattle.std.specs.Prelude.{List, [], ◌∷◌, ◌++◌}
use Rattle.std.proofs.Common.{subst, sym}
use Rattle.cha_fact.specs.Entries.{Entry}
use Rattle.shard_table.specs.ShardRows.{Rows}
use Rattle.shard_table.specs.Shards.{IsReplay}

pub replay_joined : (a b c : Rows) (xs ys : List Entry) → IsReplay a xs b → IsReplay b ys c → IsReplay a (xs ++ ys) c
replay_joined a b c [] ys one two = subst (λ s. IsReplay s ys c) (sym one) two
replay_joined a b c (x ∷ xs) ys one two = (one.0, one.1, replay_joined one.0 b c xs ys one.2 two)
