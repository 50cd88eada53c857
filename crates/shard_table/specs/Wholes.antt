-- What a pass of one shard took back, beside what it knows there (this project).
use Rattle.std.specs.Prelude.{◌≡◌, ◌≢◌, ℕ, List, ◌∷◌}
use Rattle.turn_cell.specs.declared.object.TakenBack.{TakenBack}
use Rattle.turn_cell.specs.Histories.{taken_back, AreTheirs}
use Rattle.cha_fact.specs.declared.calls.FactCall.{FactCall}
use Rattle.cha_fact.specs.declared.calls.FactReply.{FactReply}
use Rattle.shard_table.specs.Tables.{ShardPass, pass_at, taken_at}
use Rattle.shard_table.specs.declared.table.TablePass.{TablePass}

-- the passes that it took back, and what contracts see of it
abbrev pub Whole : Type 0
Whole = List (TakenBack FactCall FactReply) × ShardPass

abbrev pub whole_at : TablePass → ℕ → Whole
whole_at pass k = (taken_at pass k, pass_at pass k)

-- another pass comes to those that were taken back, and the entries of each of them are its own
abbrev pub TakesTo : Whole → Whole → ShardPass → Type 0
TakesTo old new other = (new.0 ≡ taken_back other.number other.mine ∷ old.0) × AreTheirs new.0 new.1.seen

-- at all shards but shard k both are as they were
abbrev pub WholesStay : ℕ → TablePass → TablePass → Type 0
WholesStay k old new = (j : ℕ) → j ≢ k → whole_at new j ≡ whole_at old j
