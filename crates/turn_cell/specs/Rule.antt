-- The rule of a cell: what holds of its words, its slot and its passes between any two steps.
use Rattle.std.specs.Prelude.{◌≡◌, ◌≢◌, ℕ, ◌+◌, ◌<◌, ◌≤◌, ◌⊎◌, Bool, true, List, [], ◌∷◌, length, Some, cond, is_some}
use Rattle.std.specs.declared.snapshot.Snapshot.{Snapshot}
use mathlib.Core.Option as maybe
use lib.ListN.{get_elem?}
use Rattle.atomic_table.specs.Table.{State}
use Rattle.turn_cell.specs.Histories.{entries_of, IsLegalHistory, IsPrefix, IsOneOf, AreTheirs}
use Rattle.turn_cell.specs.declared.object.Entry.{Entry}
use Rattle.turn_cell.specs.declared.object.TakenBack.{TakenBack}
use Rattle.turn_cell.specs.declared.views.Held.{Held}
use Rattle.turn_cell.specs.declared.views.View.{View}

module _ {C R : Type 0} where
  -- no number above the last has an entry
  abbrev pub NoneAbove : List (Entry C R) → ℕ → Type 0
  NoneAbove history last = (n : ℕ) → last < n → entries_of n history ≡ []

module _ {V C R : Type 0} where
  -- the pass was not taken back
  abbrev pub lives : View V C R → Bool
  lives v = is_some v.origin

  -- how many passes were not taken back
  abbrev pub count_living : List (View V C R) → ℕ
  count_living [] = 0
  count_living (v ∷ vs) = cond (lives v) 1 0 + count_living vs

  -- what holds of one pass, in a cell with this first value and history
  pub record Fits (start : V) (history : List (Entry C R)) (v : View V C R) : Type 0 where
    pub origin : (o : Snapshot V) → v.origin ≡ Some o → o.value ≡ start
    pub before : IsPrefix v.seen history
    pub joined_shorter : IsPrefix v.joined_shorter history
    pub own : lives v ≡ true → entries_of v.number history ≡ v.mine
    pub own_seen : lives v ≡ true → entries_of v.number v.seen ≡ v.mine
    pub taken : AreTheirs v.taken history
    pub taken_seen : AreTheirs v.taken v.seen
    pub has_turn : v.has_turn ≡ true → v.seen ≡ history

  -- no pass has the turn
  abbrev pub NoneHasTurn : List (View V C R) → Type 0
  NoneHasTurn views = (i : ℕ) (v : View V C R) → get_elem? views i ≡ maybe.some v → v.has_turn ≡ true → ⊥

  -- a pass has the turn
  abbrev pub SomeHasTurn : List (View V C R) → Type 0
  SomeHasTurn views = (i : ℕ) × (v : View V C R) × (get_elem? views i ≡ maybe.some v) × (v.has_turn ≡ true) × (lives v ≡ true)

  -- no two passes have one number
  abbrev pub OwnNumbers : List (View V C R) → Type 0
  OwnNumbers views = (i j : ℕ) (v w : View V C R) → get_elem? views i ≡ maybe.some v → get_elem? views j ≡ maybe.some w → lives v ≡ true → lives w ≡ true → v.number ≡ w.number → i ≡ j

  -- at most one pass has the turn
  abbrev pub OneTurn : List (View V C R) → Type 0
  OneTurn views = (i j : ℕ) (v w : View V C R) → get_elem? views i ≡ maybe.some v → get_elem? views j ≡ maybe.some w → v.has_turn ≡ true → w.has_turn ≡ true → i ≡ j

  -- the first pass has the number 0, and counts the passes that were made and those that were taken back
  abbrev pub FirstCounts : List (View V C R) → ℕ → ℕ → Type 0
  FirstCounts views made returned = (f : View V C R) × (get_elem? views 0 ≡ maybe.some f) × (f.number ≡ 0) × (f.splits ≡ made) × (f.joins ≡ returned) × (lives f ≡ true)

  -- no pass, and none that was taken back, has a number above the last that was given
  abbrev pub NumbersUpTo : List (View V C R) → ℕ → Type 0
  NumbersUpTo views last = (i : ℕ) (v : View V C R) → get_elem? views i ≡ maybe.some v → (v.number ≤ last) × ((x : TakenBack C R) → IsOneOf v.taken x → x.number ≤ last)

  -- the number of a pass that was taken back is no pass's
  abbrev pub StayAway : List (View V C R) → Type 0
  StayAway views = (i j : ℕ) (x : TakenBack C R) (v w : View V C R) → get_elem? views i ≡ maybe.some v → get_elem? views j ≡ maybe.some w → IsOneOf v.taken x → lives w ≡ true → w.number ≢ x.number

  -- some pass has seen the whole history
  abbrev pub SomeHasSeenAll : List (Entry C R) → List (View V C R) → Type 0
  SomeHasSeenAll history views = (i : ℕ) × (v : View V C R) × (get_elem? views i ≡ maybe.some v) × (lives v ≡ true) × (v.seen ≡ history)

module _ {V C R : Type 0} (step : V → C → R → V → Type 0) (start : V) where
  -- the slot is at home with the value that the history leaves, and the word is 0; or it is out with the pass that has the turn, and the word is not 0
  abbrev pub SlotFits : ℕ → List (maybe.Option (Held V C R)) → List (Entry C R) → List (View V C R) → Type 0
  SlotFits word homes history views =
      ((held : Held V C R) × (v : V) × (homes ≡ maybe.some held ∷ []) × (held.value ≡ Some v) × IsLegalHistory step start history v × NoneHasTurn views × (word ≡ 0))
      ⊎ ((homes ≡ maybe.none ∷ []) × SomeHasTurn views × (word ≢ 0))

  -- the rule
  pub record TakesTurns (s : State (Held V C R) (View V C R)) : Type 0 where
    pub history : List (Entry C R)
    pub word : ℕ
    pub made : ℕ
    pub returned : ℕ
    pub words : s.words ≡ word ∷ []
    pub places : length s.views ≡ made + 1
    pub few : made ≤ 1000
    pub living : count_living s.views + returned ≡ made + 1
    pub counts : FirstCounts s.views made returned
    pub up_to : NumbersUpTo s.views made
    pub above : NoneAbove history made
    pub each : (i : ℕ) (v : View V C R) → get_elem? s.views i ≡ maybe.some v → Fits start history v
    pub numbers : OwnNumbers s.views
    pub away : StayAway s.views
    pub turns : OneTurn s.views
    pub seen_all : SomeHasSeenAll history s.views
    pub slot : SlotFits word s.homes history s.views
