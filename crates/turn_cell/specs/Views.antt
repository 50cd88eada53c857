-- What is known of a pass, at the start and after each kind of step.
use Rattle.std.specs.Prelude.{◌≡◌, ◌+◌, true, false, List, [], ◌∷◌, ◌++◌, length, None, Some, cond, nat_lt}
use Rattle.std.specs.declared.snapshot.Snapshot.{Snapshot}
use Rattle.atomic_table.specs.Table.{Me}
use Rattle.turn_cell.specs.Histories.{entry, longer_of, taken_back}
use Rattle.turn_cell.specs.declared.object.Entry.{Entry}
use Rattle.turn_cell.specs.declared.views.Held.{Held}
use Rattle.turn_cell.specs.declared.views.View.{View}

module _ {C R : Type 0} where
  -- of two lists the one that `longer_of` leaves
  abbrev pub shorter_of : List (Entry C R) → List (Entry C R) → List (Entry C R)
  shorter_of xs ys = cond (nat_lt (length xs) (length ys)) xs ys

module _ {V C R : Type 0} where
  -- the first pass of a new cell
  abbrev pub first_view : Snapshot V → View V C R
  first_view origin = record { origin = Some origin; number = 0; splits = 0; joins = 0; has_turn = false; seen = []; mine = []; joined_shorter = []; taken = [] }

  -- a pass that was taken back
  abbrev pub spent_view : View V C R
  spent_view = record { origin = None; number = 0; splits = 0; joins = 0; has_turn = false; seen = []; mine = []; joined_shorter = []; taken = [] }

  -- it has taken the slot: it has the turn, and has seen the whole history
  abbrev pub with_turn : View V C R → List (Entry C R) → View V C R
  with_turn v history = record { origin = v.origin; number = v.number; splits = v.splits; joins = v.joins; has_turn = true; seen = history; mine = v.mine; joined_shorter = v.joined_shorter; taken = v.taken }

  -- it has made its call
  abbrev pub after_call : View V C R → C → R → View V C R
  after_call v call reply = record { origin = v.origin; number = v.number; splits = v.splits; joins = v.joins; has_turn = false; seen = v.seen ++ entry v.number call reply ∷ []; mine = v.mine ++ entry v.number call reply ∷ []; joined_shorter = v.joined_shorter; taken = v.taken }

  -- a pass was split off it
  abbrev pub after_split : View V C R → View V C R
  after_split v = record { origin = v.origin; number = v.number; splits = v.splits + 1; joins = v.joins; has_turn = v.has_turn; seen = v.seen; mine = v.mine; joined_shorter = v.joined_shorter; taken = v.taken }

  -- the pass that was split off
  abbrev pub split_view : View V C R → View V C R
  split_view v = record { origin = v.origin; number = v.splits + 1; splits = 0; joins = 0; has_turn = false; seen = v.seen; mine = []; joined_shorter = []; taken = [] }

  -- another pass was joined to it
  abbrev pub after_join : View V C R → View V C R → View V C R
  after_join v w = record { origin = v.origin; number = v.number; splits = v.splits; joins = v.joins + 1; has_turn = v.has_turn; seen = longer_of v.seen w.seen; mine = v.mine; joined_shorter = shorter_of v.seen w.seen; taken = taken_back w.number w.mine ∷ v.taken }

  -- the join is over
  abbrev pub after_meeting : View V C R → View V C R
  after_meeting v = record { origin = v.origin; number = v.number; splits = v.splits; joins = v.joins; has_turn = v.has_turn; seen = v.seen; mine = v.mine; joined_shorter = []; taken = v.taken }

  -- it has no turn, and holds no slot
  abbrev pub IsIdle : Me (Held V C R) (View V C R) → Type 0
  IsIdle me = (me.0.has_turn ≡ false) × (me.1 ≡ [])
