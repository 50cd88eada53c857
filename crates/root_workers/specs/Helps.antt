-- The calls of a worker that helps others (this project).
use Rattle.std.specs.Prelude.{List}
use Rattle.cha_fact.specs.Entries.{Entry}

-- some calls were made
unfoldable pub MakesCalls : {S : Type 0} → (S → List Entry → S → Type 0) → S → S → Type 0
MakesCalls made old new = (entries : List Entry) × made old entries new
