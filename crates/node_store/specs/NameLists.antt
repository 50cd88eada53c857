-- Lists of names, of which each stands in at most one.
use Rattle.std.specs.Prelude.{◌≡◌, ℕ, ◌<◌, ◌⊎◌, List, [], ◌∷◌, Option, None, Some, slice_index_or, slice_set}

-- the list of a number
abbrev pub list_at : List (List ℕ) → ℕ → List ℕ
list_at lists b = slice_index_or lists b []

-- a name stands in a list
unfoldable pub Has : List ℕ → ℕ → Type 0
Has [] n = ⊥
Has (x ∷ xs) n = (n ≡ x) ⊎ Has xs n

-- the names of a list are below a number
abbrev pub AreBelow : List ℕ → ℕ → Type 0
AreBelow xs bound = (n : ℕ) → Has xs n → n < bound

-- the names of a list fall: each is above all that follow
unfoldable pub Falls : List ℕ → Type 0
Falls [] = Unit {0}
Falls (x ∷ xs) = AreBelow xs x × Falls xs

-- a name in front of one of the lists
abbrev pub put : List (List ℕ) → ℕ → ℕ → List (List ℕ)
put lists b name = slice_set lists b (name ∷ list_at lists b)

-- the first name of a list
abbrev pub front_of : List ℕ → Option ℕ
front_of [] = None
front_of (x ∷ xs) = Some x

-- what follows the first name
abbrev pub rest_of : List ℕ → List ℕ
rest_of [] = []
rest_of (x ∷ xs) = xs

-- the lists without the first name of one
abbrev pub take_from : List (List ℕ) → ℕ → List (List ℕ)
take_from lists b = slice_set lists b (rest_of (list_at lists b))

-- the first name of the first list that has one
abbrev pub first_name : List (List ℕ) → Option ℕ
first_name [] = None
first_name ([] ∷ ls) = first_name ls
first_name ((x ∷ xs) ∷ ls) = Some x

-- the lists without it
abbrev pub without_first : List (List ℕ) → List (List ℕ)
without_first [] = []
without_first ([] ∷ ls) = [] ∷ without_first ls
without_first ((x ∷ xs) ∷ ls) = xs ∷ ls
