-- One more element keeps a list distinct.
use Rattle.std.proofs.Common.{List, [], ◌∷◌, ◌++◌, suc, inl, inr, sym, arith}
use Rattle.std.specs.List.{Contains}
use Rattle.std.proofs.lemmas.List.Elements.{Contains-push_cases}
use Rattle.cha_list.specs.Distinct.{AreDistinct}

pub none_apart : (X : Type 0) → AreDistinct {X = X} []
unfolding AreDistinct
none_apart X = tt

-- in front
pub one_more_apart : {X : Type 0} (x : X) (xs : List X) → (Contains xs x → ⊥) → AreDistinct xs → AreDistinct (x ∷ xs)
unfolding AreDistinct
one_more_apart x xs new rest = (new, rest)

-- behind
pub push_apart : {X : Type 0} (xs : List X) (y : X) → AreDistinct xs → (Contains xs y → ⊥) → AreDistinct (xs ++ y ∷ [])
unfolding AreDistinct
push_apart [] y apart new = ((λ there. omega (arith, there.1)), tt)
push_apart (x ∷ xs) y apart new = (
  (λ there. elim (Contains-push_cases xs y x there) [
    | inl early ↦ apart.0 early
    | inr is ↦ new (0, omega arith, sym is)
  ]),
  push_apart xs y apart.1 (λ there. new (suc (there.0), omega (arith, there.1), there.2)),
)
