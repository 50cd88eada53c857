-- What was taken from a source. They are this project's.
use Rattle.std.specs.Prelude.{◌≡◌, ℕ, List, ◌++◌}
use Rattle.std.specs.declared.option.Option.{Option}
use Rattle.std.specs.Io.KnownBytes.{Consumes}

-- a source gave some bytes, of which this holds
abbrev pub Took : Option (List ℕ) → Option (List ℕ) → (List ℕ → Type 0) → Type 0
Took old new P = (taken : List ℕ) × Consumes old new taken × P taken

-- the bytes that a source gave stand behind those that were there before
abbrev pub Gathers : Option (List ℕ) → Option (List ℕ) → List ℕ → List ℕ → Type 0
Gathers old new before now = (more : List ℕ) × Consumes old new more × (now ≡ before ++ more)
