-- Bishops of one colour, and their enemies.
use Rattle.std.proofs.Common.{◌↔◌, IsTrue, subst}
use Rattle.std.proofs.lemmas.Bool.{both_ways}
use Rattle.cha_board.specs.declared.men.Color.{Color}
use Rattle.mob_small.specs.Lone.{HasOnly, is_bishop_on, is_heavy_or_bishop_on}
use Rattle.mob_small.proofs.SetsOfMen.{only_within}
use Rattle.mob_small.proofs.lone_men.has_bishops_on.Goals as goal

pub returns-then-within : goal.returns-then-within
returns-then-within c =
    let men = c.args.position.now.men in
    let own = only_within men c.args.winner (is_bishop_on c.args.square c.args.winner) c.known.ensures.size c.within.result (rw (← c.non_kings.ensures, ← c.bishops_on.ensures) c.within.ensures) in
    let O : Color → Type 0 = λ x. IsTrue c.within-then-within.result ↔ HasOnly men x (is_heavy_or_bishop_on c.args.square x) in
    let others = subst O c.other-loser.ensures
    (only_within men c.other-loser.result (is_heavy_or_bishop_on c.args.square c.other-loser.result) c.known.ensures.size c.within-then-within.result (rw (← c.non_kings-then-within.ensures, ← c.heavy_or_bishops_on.ensures) c.within-then-within.ensures)) in
    (λ h. (own.0 c.if-within.true, others.0 h), λ has. others.1 has.1)

pub returns-else-within : goal.returns-else-within
returns-else-within c =
    let own = only_within c.args.position.now.men c.args.winner (is_bishop_on c.args.square c.args.winner) c.known.ensures.size c.within.result (rw (← c.non_kings.ensures, ← c.bishops_on.ensures) c.within.ensures) in
    (λ h. absurd (both_ways c.within.result c.if-within.false h), λ has. own.1 has.0)
