-- Every position that was expanded in an exploration can be reached by legal moves.
use Rattle.std.proofs.Common.{◌≡◌, ℕ, zero, suc, ◌<◌, List, [], ◌∷◌, ◌++◌, length, Contains, Some, slice_get, refl, sym, ap, subst, ◌∙◌, arith}
use Rattle.std.proofs.lemmas.Option.{same_Some, slice_get_read}
use Rattle.cha_board.specs.declared.men.Color.{Color}
use Rattle.cha_board.specs.Board.{Board}
use Rattle.cha_moves.specs.Step.{Move}
use Rattle.cha_moves.specs.Moves.{after, legal}
use Rattle.cha_moves.specs.Lines.{LeadTo, HasPositions}
use Rattle.mob_law.specs.Explored.{IsExplored}

-- one more move at the end of a line
one_more : (q p r : Board) (ms : List Move) (m : Move) → LeadTo q ms p → Contains (legal p) m → after p m ≡ r → LeadTo q (ms ++ m ∷ []) r
unfolding LeadTo
one_more q p r [] m is fits leads =
    let there : Contains (legal q) m = subst (λ (b : Board). Contains (legal b) m) (sym is) fits in
    (there, ap (λ (b : Board). after b m) is ∙ leads)
one_more q p r (k ∷ ms) m line fits leads = (line.0, one_more (after q k) p r ms m line.1 fits leads)

-- the line to each place of the list
reached : (q : Board) (w : Color) (n : ℕ) (e : IsExplored q w n) (bound i : ℕ) → i < bound → (r : Board) → slice_get e.members i ≡ Some r → (ms : List Move) × LeadTo q ms r
unfolding LeadTo
reached q w n e zero i small r at = absurd (omega (arith, small))
reached q w n e (suc bound) zero small r at = ([], same_Some q r (sym e.first ∙ at))
reached q w n e (suc bound) (suc i) small r at =
    let come = e.later i r at in
    let before = come.earlier in
    let line = reached q w n e bound come.number (omega (arith, small, before)) come.origin come.is_origin in
    (line.0 ++ come.by ∷ [], one_more q come.origin r line.0 come.by line.1 come.is_legal come.leads)

pub explored_positions : (q : Board) (w : Color) (n : ℕ) → IsExplored q w n → HasPositions q n
unfolding HasPositions
explored_positions q w n e = (
  e.members,
  e.size,
  e.distinct,
  λ r there.
      let at = slice_get_read e.members (length e.members) there.0 r refl there.1 (sym there.2) in
      reached q w n e (suc there.0) there.0 (omega arith) r at,
)
