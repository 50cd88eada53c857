-- What is unwinnable stays so.
use Rattle.std.proofs.Common.{◌≡◌, ℕ, zero, suc, ◌+◌, ◌-◌, ◌≤◌, List, [], ◌∷◌, Some, slice_get, refl, sym, subst, ◌∙◌, arith, Contains}
use Rattle.std.proofs.lemmas.Option.{same_Some}
use Rattle.cha_board.specs.declared.men.Color.{Color}
use Rattle.cha_board.specs.Board.{Board}
use Rattle.cha_moves.specs.Step.{Move}
use Rattle.cha_moves.specs.Moves.{after, legal}
use Rattle.cha_moves.specs.Ends.{IsUnwinnable}
use Rattle.cha_moves.specs.Dead.{ArePlayed}

-- a mating line after a legal move is one with the move in front
pub stays_after : (q : Board) (w : Color) (m : Move) → IsUnwinnable q w → Contains (legal q) m → IsUnwinnable (after q m) w
stays_after q w m none legal_move ms line = none (m ∷ ms) (legal_move, line)

-- where there is an element, there is one before it
before : (qs : List Board) (j : ℕ) (q : Board) → slice_get qs (suc j) ≡ Some q → (p : Board) × (slice_get qs j ≡ Some p)
before [] j q e = cc
before (p ∷ qs) zero q e = (p, refl)
before (p ∷ qs) (suc j) q e = before qs j q e

module _ (qs : List Board) (w : Color) (played : ArePlayed qs) (i : ℕ) (p : Board) (there : slice_get qs i ≡ Some p) (none : IsUnwinnable p w) where
  -- so it goes on, position by position
  pub stays_behind : (n : ℕ) (q : Board) → slice_get qs (i + n) ≡ Some q → IsUnwinnable q w
  unfolding ArePlayed
  stays_behind zero q e =
      let same : i + 0 ≡ i = omega arith in
      let at : slice_get qs i ≡ Some q = subst (λ k. slice_get qs k ≡ Some q) same e in
      subst (λ x. IsUnwinnable x w) (same_Some p q (sym there ∙ at)) none
  stays_behind (suc n) q e =
      let same : i + suc n ≡ suc (i + n) = omega arith in
      let at : slice_get qs (suc (i + n)) ≡ Some q = subst (λ k. slice_get qs k ≡ Some q) same e in
      let last = before qs (i + n) q at in
      let following : suc (i + n) ≡ (i + n) + 1 = omega arith in
      let next : slice_get qs ((i + n) + 1) ≡ Some q = subst (λ k. slice_get qs k ≡ Some q) following at in
      let step = played (i + n) last.0 q last.1 next in
      subst (λ x. IsUnwinnable x w) (sym step.2) (stays_after last.0 w step.0 (stays_behind n last.0 last.1) step.1)

pub stays_later : (qs : List Board) (i j : ℕ) (p q : Board) (w : Color) → ArePlayed qs → i ≤ j → slice_get qs i ≡ Some p → slice_get qs j ≡ Some q → IsUnwinnable p w → IsUnwinnable q w
stays_later qs i j p q w played later there at none =
    let same : j ≡ i + (j - i) = omega (arith, later) in
    stays_behind qs w played i p there none (j - i) q (subst (λ k. slice_get qs k ≡ Some q) same at)
