use Rattle.std.proofs.Common.{◌+◌, arith}
use Rattle.helpmate_list.specs.Shortest.{shortest, HasNoMateBelow}
use Rattle.helpmate_list.proofs.Mating.{none_below_zero}
use Rattle.helpmate_list.proofs.Deepening.{none_says, none_said, found_says, all_mate}
use Rattle.helpmate_list.proofs.least.shortest_says.Goals as goal

pub returns-clause-none : goal.returns-clause-none
unfolding shortest HasNoMateBelow
returns-clause-none c = λ q winner d. (
  (λ is ms few line. none_says (d + 1) 0 q winner (none_below_zero q winner) is ms (omega (arith, few)) line),
  (λ none. none_said (d + 1) 0 q winner (λ ms less line. none ms (omega (arith, less)) line)),
)

pub returns-clause-least : goal.returns-clause-least
unfolding shortest
returns-clause-least c = λ q winner d n lines more is.
    let says = found_says (d + 1) 0 q winner n lines more (none_below_zero q winner) is in
    let less = says.0 in
    (omega arith, says.1.none)

pub returns-clause-first : goal.returns-clause-first
unfolding shortest
returns-clause-first c = λ q winner d n lines more is.
    let says = found_says (d + 1) 0 q winner n lines more (none_below_zero q winner) is in
    (says.1.first, says.1.over)

pub returns-clause-mates : goal.returns-clause-mates
unfolding shortest
returns-clause-mates c = λ q winner d n lines more is.
    let says = found_says (d + 1) 0 q winner n lines more (none_below_zero q winner) is in
    all_mate q winner n lines more says.1
