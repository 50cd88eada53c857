use Rattle.std.proofs.Common.{List, [], Bool, ap, ◌∙◌, get_or, replicate}
use Rattle.cha_board.specs.SquareSets.{has_square}
use Rattle.mob_sets.specs.Rows.{place_of}
use Rattle.cha_board.proofs.Contents.{in_empty}
use Rattle.mob_solve.proofs.Reaches.{none_in_reach}
use Rattle.mob_solve.proofs.reach.Reach.empty.Goals as goal

pub returns-clause-rows : goal.returns-clause-rows
returns-clause-rows c o k u =
    ap (λ (x : List Bool). has_square (get_or (replicate 384 x) (place_of o k) []) u) c.empty-none.ensures ∙ none_in_reach 384 (place_of o k) u

pub returns-clause-loose : goal.returns-clause-loose
returns-clause-loose c o = ap (λ (x : List Bool). has_square x o) c.empty-none.ensures ∙ in_empty o
