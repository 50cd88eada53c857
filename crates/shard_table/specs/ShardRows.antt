-- What a shard keeps, as contracts see it, and beside it how it is kept (this project).
use Rattle.std.specs.Prelude.{◌≡◌, ℕ, ◌<◌, ◌≤◌, ◌⊎◌, ⊤, List, [], ◌∷◌, map, length}
use Rattle.cha_fact.specs.declared.key.Key.{Key}
use Rattle.cha_fact.specs.Keys.{key_of}
use Rattle.cha_fact.specs.Truths.{Claim}

-- The rows, the most recently used first, and how many there may be.
pub record Rows : Type 0 where
  pub rows : List Claim
  pub entries : ℕ

-- the key of a row
abbrev pub row_key : Claim → Key
row_key row = key_of row.position row.winner

-- each row lies under its own key
unfoldable pub AreKeyed : List (Key × Claim) → Type 0
AreKeyed [] = ⊤
AreKeyed (e ∷ es) = (row_key e.1 ≡ e.0) × AreKeyed es

-- the rows of a cache, the most recently used first
abbrev pub rows_of : List (Key × Claim) → List Claim
rows_of es = map (λ e. e.1) es

-- How a shard for so many rows keeps them: in a cache for as many, or in a list that has room for as many.
pub record AreKept (entries cap : ℕ) (cached : List (Key × Claim)) (capacity : ℕ) (listed : List Claim) : Type 0 where
  pub some : 0 < entries
  pub most : cap ≡ entries
  pub keyed : AreKeyed cached
  pub few : length listed ≤ entries
  pub room : entries ≤ capacity
  pub one : (listed ≡ []) ⊎ (cached ≡ [])
