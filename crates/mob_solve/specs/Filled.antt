-- Squares that a man may come to from others as long as it stays of its kind.
use Rattle.std.specs.Prelude.{◌≡◌, ℕ, ◌<◌, Bool, true, List}
use Rattle.cha_board.specs.declared.men.Color.{Color}
use Rattle.cha_board.specs.declared.men.Kind.{Kind}
use Rattle.cha_board.specs.SquareSets.{has_square}
use Rattle.mob_check.specs.declared.ground.Ground.{Ground}
use Rattle.mob_check.specs.Rules.{StaysIn}

-- the least squares that hold a set and all to which a k of c goes from them, as a k
pub record IsFilled (g : Ground) (c : Color) (k : Kind) (set filled : List Bool) : Type 0 where
  pub more : (u : ℕ) → u < 64 → has_square set u ≡ true → has_square filled u ≡ true
  pub closed : StaysIn g c k (has_square filled)
  pub least : (inside : ℕ → Bool) → ((u : ℕ) → has_square set u ≡ true → inside u ≡ true) → StaysIn g c k inside
      → (u : ℕ) → has_square filled u ≡ true → inside u ≡ true
