-- What a crew did (this project).
use Rattle.std.specs.Prelude.{◌≡◌, ℕ, List}
use Rattle.cha_fact.specs.Entries.{Entry}
use Rattle.root_workers.specs.Shares.{AllGrow}

-- From one state of a crew to a later one its workers did nothing but calls: they are as many, each made some, and they know of the calls of all
-- what a crew of their kind knows.
pub record HasWorked {S : Type 0} (made_by : ℕ → S → List Entry → S → Type 0) (count : S → ℕ) (knows : S → Type 0) (old new : S) : Type 0 where
  pub same : count new ≡ count old
  pub grown : AllGrow made_by old new (count old)
  pub known : knows new
