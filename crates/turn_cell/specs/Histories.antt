-- Histories of calls: what is called legal, whose entries are whose, and what goes on from what.
use Rattle.std.specs.Prelude.{◌≡◌, ℕ, ◌⊎◌, List, [], ◌∷◌, ◌++◌, filter, nat_eq, nat_lt, length, cond}
use Rattle.turn_cell.specs.declared.object.Entry.{Entry}
use Rattle.turn_cell.specs.declared.object.TakenBack.{TakenBack}

module _ {C R : Type 0} where
  -- the entry of one call: the number of the pass that made it, the call, and its reply
  abbrev pub entry : ℕ → C → R → Entry C R
  entry number call reply = record { number = number; call = call; reply = reply }

  -- the entries of the pass with this number, in their order
  abbrev pub entries_of : ℕ → List (Entry C R) → List (Entry C R)
  entries_of number history = filter (λ e. nat_eq e.number number) history

  -- one thread could have made the calls in this order: from the value `start` each entry is a step of the object, and `last` is the value after all
  abbrev pub IsLegalHistory : {V : Type 0} → (V → C → R → V → Type 0) → V → List (Entry C R) → V → Type 0
  IsLegalHistory step start [] last = last ≡ start
  IsLegalHistory {V} step start (e ∷ history) last = (next : V) × step start e.call e.reply next × IsLegalHistory step next history last

  -- there is a value that is the last one so
  abbrev pub IsLegal : {V : Type 0} → (V → C → R → V → Type 0) → V → List (Entry C R) → Type 0
  IsLegal {V} step start history = ∥ ((last : V) × IsLegalHistory step start history last) ∥₁

  -- what a pass with this number has seen is one legal history from `start`, and the entries there under its number are these
  abbrev pub IsWellKnown : {V : Type 0} → (V → C → R → V → Type 0) → V → ℕ → List (Entry C R) → List (Entry C R) → Type 0
  IsWellKnown step start number seen mine = IsLegal step start seen × (entries_of number seen ≡ mine)

  -- the history begins with these entries
  abbrev pub IsPrefix : List (Entry C R) → List (Entry C R) → Type 0
  IsPrefix entries history = (more : List (Entry C R)) × (history ≡ entries ++ more)

  -- the longer of two lists, and the first where they are as long
  abbrev pub longer_of : List (Entry C R) → List (Entry C R) → List (Entry C R)
  longer_of xs ys = cond (nat_lt (length xs) (length ys)) ys xs

  -- a pass that was taken back, with its number and its entries
  abbrev pub taken_back : ℕ → List (Entry C R) → TakenBack C R
  taken_back number mine = record { number = number; mine = mine }

  -- it is one of these
  abbrev pub IsOneOf : List (TakenBack C R) → TakenBack C R → Type 0
  IsOneOf [] x = ⊥
  IsOneOf (y ∷ taken) x = (y ≡ x) ⊎ IsOneOf taken x

  -- the entries in a history of each pass that was taken back are those that it made
  abbrev pub AreTheirs : List (TakenBack C R) → List (Entry C R) → Type 0
  AreTheirs taken history = (x : TakenBack C R) → IsOneOf taken x → entries_of x.number history ≡ x.mine
