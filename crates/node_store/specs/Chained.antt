-- What contracts see of chains.
use Rattle.std.specs.Prelude.{◌≡◌, ℕ, ◌<◌, List, length}
use Rattle.node_store.specs.NameLists.{list_at, Has, Falls}

-- 64 lists of names, the number of names that there are, and for how many more room was made ready
pub record Chained : Type 0 where
  pub lists : List (List ℕ)
  pub slots : ℕ
  pub spare : ℕ

-- there are 64 lists of names that exist, and the names of each fall
pub record AreChained (lists : List (List ℕ)) (slots : ℕ) : Type 0 where
  pub size : length lists ≡ 64
  pub few : slots < 4294967296
  pub below : (b n : ℕ) → Has (list_at lists b) n → n < slots
  pub falls : (b : ℕ) → Falls (list_at lists b)
