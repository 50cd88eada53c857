-- Eight values (this project).
use Rattle.std.specs.Prelude.{List, [], ◌∷◌}
use Rattle.shard_table.specs.declared.eight.Eight.{Eight}

-- the eight values, in their order
abbrev pub list_of : {A : Type 0} → Eight A → List A
list_of e = e.first ∷ e.second ∷ e.third ∷ e.fourth ∷ e.fifth ∷ e.sixth ∷ e.seventh ∷ e.eighth ∷ []
