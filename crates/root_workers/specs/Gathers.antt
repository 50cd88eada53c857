-- What the works of a round come to (this project).
use Rattle.std.specs.Prelude.{ℕ, ◌-◌, ◌<◌, ◌≤◌, ⊤, List, Option, Some, None}
use Rattle.cha_moves.specs.Step.{Move}
use Rattle.root_workers.specs.declared.task.RoundTask.{RoundTask}
use Rattle.root_workers.specs.declared.work.RootMate.{RootMate}
use Rattle.root_workers.specs.declared.work.Work.{Work}
use Rattle.root_workers.specs.Shares.{IsWhole, IsShare, IsRootMate}

-- no mate, or one whose root move is no higher than another's
abbrev pub IsNoHigher : Option RootMate → Option RootMate → Type 0
IsNoHigher best None = ⊤
IsNoHigher None (Some other) = ⊥
IsNoHigher (Some best) (Some other) = best.root_move ≤ other.root_move

-- the mate, if there is one, is a mate of the root
abbrev pub IsRootMateOr : RoundTask → List Move → Option RootMate → Type 0
IsRootMateOr task moves None = ⊤
IsRootMateOr task moves (Some mate) = IsRootMate task moves mate

-- each worker left its share
unfoldable pub AreShares : (ℕ → Work → Type 0) → RoundTask → List Move → ℕ → Type 0
AreShares leaves task moves count = (i : ℕ) (work : Work) → i < count → leaves i work → IsShare task moves i count work

-- what is left of an allowance
abbrev pub left_after : Option ℕ → ℕ → Option ℕ
left_after None positions = None
left_after (Some most) positions = Some (most - positions)

-- each worker cleared its root moves
unfoldable pub AreWhole : (ℕ → Work → Type 0) → ℕ → Type 0
AreWhole leaves count = (i : ℕ) → i < count → (work : Work) × leaves i work × IsWhole work
