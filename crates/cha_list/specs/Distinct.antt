-- Lists without an element twice.
use Rattle.std.specs.Prelude.{⊤, List, [], ◌∷◌, Contains}

-- no two elements are one
unfoldable pub AreDistinct : {X : Type 0} → List X → Type 0
AreDistinct [] = ⊤
AreDistinct (x ∷ xs) = (Contains xs x → ⊥) × AreDistinct xs
