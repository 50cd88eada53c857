-- Where a row lies in a list (this project).
use Rattle.std.specs.Prelude.{◌≡◌, ℕ, ◌<◌, List, length, Some, slice_index_or}
use Rattle.std.specs.List.{remove}
use Rattle.cha_fact.specs.declared.key.Key.{Key}
use Rattle.cha_fact.specs.Truths.{Claim}
use Rattle.shard_table.specs.Shards.{find_row, without}

-- the first row of the key lies at this place
pub record IsPlaceOf (key : Key) (rows : List Claim) (place : ℕ) : Type 0 where
  pub inside : place < length rows
  pub found : (d : Claim) → find_row key rows ≡ Some (slice_index_or rows place d)
  pub others : remove rows place ≡ without key rows
