use Rattle.std.proofs.Common.{map, ap, ◌∙◌}
use Rattle.cha_board.specs.Letters.{letter_or_dot}
use Rattle.cha_board.proofs.Beginning.{opening_is_valid, opening_letters}
use Rattle.cha_board.proofs.position.Position.start.Goals as goal

pub of_parts-requires : goal.of_parts-requires
of_parts-requires c = rw c.opening_men.ensures opening_is_valid

pub returns-clause-letters : goal.returns-clause-letters
returns-clause-letters c = ap (map letter_or_dot) (ap (λ q. q.men) c.of_parts.ensures ∙ c.opening_men.ensures) ∙ opening_letters
