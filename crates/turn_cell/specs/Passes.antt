-- What contracts see of cells and passes, and what a turn and a join do.
use Rattle.std.specs.Prelude.{◌≡◌, ℕ, ◌+◌, List, [], ◌∷◌, ◌++◌, Some}
use Rattle.turn_cell.specs.Histories.{entry, entries_of, IsLegalHistory, IsPrefix, longer_of}
use Rattle.turn_cell.specs.declared.object.Object.{Ghosts}
use Rattle.turn_cell.specs.declared.object.Entry.{Entry}
use Rattle.turn_cell.specs.declared.object.TakenBack.{TakenBack}
use Rattle.turn_cell.specs.declared.views.View.{View}
use Rattle.turn_cell.specs.declared.cells.TurnCell.{TurnCell}
use Rattle.turn_cell.specs.declared.cells.Pass.{Pass}

-- what contracts see of a pass: its number, the part of the history that it knows, its own entries, and how many passes it split off and took back
pub record Known (C R : Type 0) : Type 0 where
  pub number : ℕ
  pub seen : List (Entry C R)
  pub mine : List (Entry C R)
  pub splits : ℕ
  pub joins : ℕ

-- that much of what the rule of a cell keeps of a pass
abbrev pub known_in : {V C R : Type 0} → View V C R → Known C R
known_in view = record { number = view.number; seen = view.seen; mine = view.mine; splits = view.splits; joins = view.joins }

module _ {V C R : Type 0} where
  -- the value that the cell was made with
  abbrev pub start : TurnCell V C R → V
  start cell = cell.table.shared.key.value

module _ {V C R : Type 0} {G : Ghosts V C R} where
  -- what contracts see of the pass
  abbrev pub known : Pass V C R G → Known C R
  known pass = known_in pass.seat.me.0

  -- the number under which its calls are entered
  abbrev pub number : Pass V C R G → ℕ
  number pass = (known pass).number

  -- the part of the cell's history that the pass knows
  abbrev pub seen : Pass V C R G → List (Entry C R)
  seen pass = (known pass).seen

  -- its own entries
  abbrev pub mine : Pass V C R G → List (Entry C R)
  mine pass = (known pass).mine

  -- the passes that it took back, the last one first
  abbrev pub taken : Pass V C R G → List (TakenBack C R)
  taken pass = pass.seat.me.0.taken

  -- how many passes the first pass split off
  abbrev pub splits : Pass V C R G → ℕ
  splits pass = (known pass).splits

  -- how many of them it took back
  abbrev pub joins : Pass V C R G → ℕ
  joins pass = (known pass).joins

  -- the pass is of this cell
  abbrev pub IsOf : TurnCell V C R → Pass V C R G → Type 0
  IsOf cell pass = (pass.seat.table_id ≡ cell.table.shared.table_id) × (pass.seat.me.0.origin ≡ Some cell.table.shared.key)

  -- it is the pass that the cell was made with
  abbrev pub IsFirst : Pass V C R G → Type 0
  IsFirst pass = number pass ≡ 0

module _ {C R : Type 0} where
  -- one call was made: other passes may have called since, and this call with its reply comes last; the whole is legal from the first value
  pub record Turned {V : Type 0} (step : V → C → R → V → Type 0) (start : V) (old : Known C R) (call : C) (reply : R) (new : Known C R) : Type 0 where
    pub before : List (Entry C R)
    pub last : V
    pub known_before : IsPrefix old.seen before
    pub seen : new.seen ≡ before ++ entry old.number call reply ∷ []
    pub mine : new.mine ≡ old.mine ++ entry old.number call reply ∷ []
    pub own : entries_of old.number new.seen ≡ new.mine
    pub legal : IsLegalHistory step start new.seen last
    pub same : (new.number ≡ old.number) × (new.splits ≡ old.splits) × (new.joins ≡ old.joins)

  -- a new pass was split off: it has the next number, knows what the old one knows, and has made no call
  pub record SplitOff (old new other : Known C R) : Type 0 where
    pub number : other.number ≡ new.splits
    pub other_seen : other.seen ≡ old.seen
    pub other_mine : other.mine ≡ []
    pub splits : new.splits ≡ old.splits + 1
    pub same : (new.number ≡ old.number) × (new.seen ≡ old.seen) × (new.mine ≡ old.mine) × (new.joins ≡ old.joins)

  -- another pass was taken back: the pass knows what either knew, and the entries there of each are those that it had made
  pub record Joined (old other new : Known C R) : Type 0 where
    pub seen : new.seen ≡ longer_of old.seen other.seen
    pub known_before : IsPrefix old.seen new.seen
    pub known_other : IsPrefix other.seen new.seen
    pub others_own : entries_of other.number new.seen ≡ other.mine
    pub own : entries_of old.number new.seen ≡ new.mine
    pub mine : new.mine ≡ old.mine
    pub joins : new.joins ≡ old.joins + 1
    pub same : (new.number ≡ old.number) × (new.splits ≡ old.splits)
