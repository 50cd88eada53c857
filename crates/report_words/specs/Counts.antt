-- A count behind its label (this project).
use Rattle.std.specs.Prelude.{ℕ, List, ◌++◌, decimal}

-- a count behind its label
abbrev pub count_text : List ℕ → ℕ → List ℕ
count_text label count = label ++ decimal count
