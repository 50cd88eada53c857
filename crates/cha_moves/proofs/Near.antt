-- Squares next to each other.
use Rattle.std.proofs.Common.{◌≡◌, ℕ, ◌<◌, ◌==◌, true, [], inl, inr, refl, ◌∙◌}
use Rattle.std.proofs.lemmas.Bool.{eqb-true, cases_Bool}
use Rattle.cha_board.specs.declared.men.Color.{Color}
use Rattle.cha_board.specs.declared.men.Kind.TheVariants.{King}
use Rattle.cha_board.specs.Squares.{steps_apart, is_line, aims_at, between}
use Rattle.cha_board.proofs.Sightings.{way, between_is_way}

-- nothing lies between squares that are one step apart
pub near_clear : (s t : ℕ) → s < 64 → t < 64 → (steps_apart s t == 1) ≡ true → between s t ≡ []
unfolding way
near_clear s t small small' step =
    let one = eqb-true (steps_apart s t) 1 step in
    between_is_way s t small small' ∙ (elim (cases_Bool (is_line s t)) [
      | inl e ↦ rw (e, one) refl
      | inr e ↦ rw e refl
    ])

-- a king aims one step away
pub king_aims : (c : Color) (s t : ℕ) → aims_at c King s t ≡ true → (steps_apart s t == 1) ≡ true
unfolding aims_at
king_aims c s t h = h
