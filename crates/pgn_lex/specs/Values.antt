-- What is kept of a value, byte by byte.
use Rattle.std.specs.Prelude.{◌≡◌, ℕ, ◌≤◌, Bool, List, [], ◌∷◌, ◌++◌, length, take, drop, Option, Some, None, nat_lt}
use Rattle.pgn_lex.specs.declared.tag_values.Value.{Value}
use Rattle.pgn_lex.specs.declared.tag_values.Step.{Step}
use Rattle.pgn_lex.specs.declared.tag_values.Step.TheVariants.{Closed, Broken, On}
use Rattle.pgn_lex.specs.Tags.{Read, value_after}

-- the first 4096 bytes of a value are kept, and it is known whether there were more
pub record Keeps (kept : List ℕ) (more : Bool) (front : List ℕ) : Type 0 where
  pub first_bytes : kept ≡ take 4096 front
  pub has_more : more ≡ nat_lt 4096 (length front)

-- bytes in front of what was read
abbrev pub onto_all : List ℕ → Option Read → Option Read
onto_all front None = None
onto_all front (Some r) = Some (record { text = front ++ r.text; rest = r.rest })

-- what a byte does to a value, whatever bytes follow it
abbrev pub Steps : Step → ℕ → Bool → List ℕ → Bool → List ℕ → Bool → Type 0
Steps Closed b escaped kept more kept' more' =
    ((bs : List ℕ) → value_after escaped (b ∷ bs) ≡ Some (record { text = []; rest = bs })) × (kept' ≡ kept) × (more' ≡ more)
Steps Broken b escaped kept more kept' more' = (bs : List ℕ) → value_after escaped (b ∷ bs) ≡ None
Steps (On after) b escaped kept more kept' more' =
    (added : List ℕ) × ((bs : List ℕ) → value_after escaped (b ∷ bs) ≡ onto_all added (value_after after bs))
    × ((front : List ℕ) → Keeps kept more front → Keeps kept' more' (front ++ added))

-- what was found is the value that stands there, as far as it is kept
abbrev pub ReadsValue : Option Value → List ℕ → Option Read → Type 0
ReadsValue None bs read = read ≡ None
ReadsValue (Some v) bs read =
    (front : List ℕ) × (read ≡ Some (record { text = front; rest = drop v.size bs })) × (v.size ≤ length bs) × Keeps v.text v.cut front
