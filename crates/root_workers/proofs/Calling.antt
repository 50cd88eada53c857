-- The calls of a worker that helps others, one after the other.
use Rattle.std.proofs.Common.{◌++◌, List, []}
use Rattle.cha_fact.specs.Entries.{Entry}
use Rattle.root_workers.specs.Helps.{MakesCalls}

module _ {S : Type 0} (made : S → List Entry → S → Type 0) where
  pub made_none : (s : S) → made s [] s → MakesCalls made s s
  unfolding MakesCalls
  made_none s none = ([], none)

  pub made_some : (old new : S) (entries : List Entry) → made old entries new → MakesCalls made old new
  unfolding MakesCalls
  made_some old new entries some = (entries, some)

  pub made_more : ((a b c : S) (xs ys : List Entry) → made a xs b → made b ys c → made a (xs ++ ys) c) → (old mid new : S) → MakesCalls made old mid → MakesCalls made mid new → MakesCalls made old new
  unfolding MakesCalls
  made_more both old mid new before more = (before.0 ++ more.0, both old mid new before.0 more.0 before.1 more.1)
