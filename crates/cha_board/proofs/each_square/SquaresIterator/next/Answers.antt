use Rattle.std.proofs.Common.{◌≡◌, ◌∷◌, length, sym, ap, ◌∙◌, arith}
use Rattle.cha_board.specs.SquareSets.{squares_in, set_without}
use Rattle.cha_board.proofs.SetLaws.{squares_from_first}
use Rattle.cha_board.proofs.each_square.SquaresIterator.next.Goals as goal

pub returns-clause-steps : goal.returns-clause-steps
returns-clause-steps c =
    let at = c.in_ok-first.first in
    let is = c.self.view_is in
    let left : c.without-self-inside.result ≡ set_without c.self.inside.left at = c.without-self-inside.ensures in
    rw (← is) (squares_from_first c.self.inside.left at (sym c.first.ensures ∙ c.in_ok-first.was) ∙ ap (λ xs. at ∷ squares_in xs) (sym left), left)

pub returns-clause-goes : goal.returns-clause-goes
returns-clause-goes c =
    let next = ap length (returns-clause-steps c).0 in
    record { on = λ f. (tt, tt, omega (arith, next)); keeps = tt; rests = λ _. tt }
