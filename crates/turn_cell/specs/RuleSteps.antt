-- What each kind of step tells the pass that takes it.
use Rattle.std.specs.Prelude.{◌≡◌, ◌≢◌, ◌≤◌, ◌⊎◌, ℕ, List, [], ◌∷◌, Some, IfSome}
use Rattle.std.specs.declared.option.Option.{Option}
use Rattle.std.specs.declared.snapshot.Snapshot.{Snapshot}
use Rattle.atomic_table.specs.Table.{Me, Step}
use Rattle.turn_cell.specs.Histories.{entries_of, IsLegalHistory, IsPrefix, AreTheirs}
use Rattle.turn_cell.specs.Views.{with_turn, after_call, after_meeting}
use Rattle.turn_cell.specs.declared.object.Entry.{Entry}
use Rattle.turn_cell.specs.declared.views.Held.{Held}
use Rattle.turn_cell.specs.declared.views.View.{View}

-- a legal history from the first value, where there is one
abbrev pub IsLegalFrom : {V C R : Type 0} → (V → C → R → V → Type 0) → Option (Snapshot V) → List (Entry C R) → V → Type 0
IsLegalFrom {V} step origin history last = (o : Snapshot V) → origin ≡ Some o → IsLegalHistory step o.value history last

module _ {V C R : Type 0} where
  -- where the word was 0, the pass has the turn, the slot, and has seen the whole history; else nothing changed for it
  abbrev pub Takes : (V → C → R → V → Type 0) → Step (Held V C R) → Me (Held V C R) (View V C R) → ℕ → Me (Held V C R) (View V C R) → Type 0
  Takes step s old found new =
      ((history : List (Entry C R)) × (held : Held V C R) × (value : V) × IsPrefix old.0.seen history × (entries_of old.0.number history ≡ old.0.mine)
      × (held.value ≡ Some value) × IsLegalFrom step old.0.origin history value × (new ≡ (with_turn old.0 history, (0, held) ∷ old.1)) × (found ≡ 0))
      ⊎ ((new ≡ old) × (found ≢ 0))

  -- a pass that had this view has the turn, and the slot with the value that the whole history leaves
  abbrev pub HasTurn : (V → C → R → V → Type 0) → View V C R → Me (Held V C R) (View V C R) → Type 0
  HasTurn step v me = (history : List (Entry C R)) × (held : Held V C R) × (value : V) × IsPrefix v.seen history × (entries_of v.number history ≡ v.mine)
      × (held.value ≡ Some value) × IsLegalFrom step v.origin history value × (me ≡ (with_turn v history, (0, held) ∷ []))

  -- the call that the slot names joins the history, and the slot goes home
  abbrev pub Serves : Step (Held V C R) → Me (Held V C R) (View V C R) → ℕ → Me (Held V C R) (View V C R) → Type 0
  Serves s (v, []) found new = Unit {0}
  Serves s (v, (x ∷ xs)) found new = IfSome x.1.said (λ said. new ≡ (after_call v said.call.value said.reply.value, xs))

  -- both lists of a join are prefixes of one history, the entries of both passes in it are those that each knew, and no more passes came back than were made
  abbrev pub Meets : Step (Held V C R) → Me (Held V C R) (View V C R) → ℕ → Me (Held V C R) (View V C R) → Type 0
  Meets s old found new = (history : List (Entry C R)) × IsPrefix old.0.seen history × IsPrefix old.0.joined_shorter history
      × AreTheirs old.0.taken old.0.seen × (entries_of old.0.number old.0.seen ≡ old.0.mine) × (old.0.joins ≤ old.0.splits) × (new ≡ (after_meeting old.0, old.1))
