use Rattle.std.proofs.Common.{◌+◌, ◌*◌, ◌<◌, ◌≤◌, length, sym, ◌∙◌, arith, refl}
use Rattle.pgn_games.specs.Games.{placed_games}
use Rattle.side_by_side.specs.Cuts.{item_for}
use Rattle.item_batches.proofs.GivenGames.{few_words, given_few, item_at, items_first}
use Rattle.item_batches.proofs.Items.{not_more}
use Rattle.item_batches.proofs.readers.next_game.Goals as goal

pub returns-in-Ok-Some-clause-cut : goal.returns-in-Ok-Some-clause-cut
returns-in-Ok-Some-clause-cut g c =
    let found = rw c.in-Ok-Some.field-0-is at c.in-Ok-Some.ensures.game in (
      item_at (item_for c.args.purpose) (placed_games c.next.new.self.taken) c.args.reader.now.given c.in-Ok-Some.game found,
      few_words c.next.new.self.taken c.args.reader.now.given c.in-Ok-Some.game found,
      refl,
    )

pub returns-in-Ok-Some-clause-given : goal.returns-in-Ok-Some-clause-given
returns-in-Ok-Some-clause-given g c =
    let few : length c.next.new.self.taken ≤ 268435456 = not_more _ 268435456 (λ long. let e = sym c.in-Ok-Some.is ∙ c.next.ensures.too_long.1 long in cc) in
    let there : c.args.reader.now.given < 2 * length c.next.new.self.taken + 1 = given_few c.next.new.self.taken c.args.reader.now.given c.in-Ok-Some.game (rw c.in-Ok-Some.field-0-is at c.in-Ok-Some.ensures.game) in
    (rw c.in-Ok-Some.field-0-is at c.in-Ok-Some.ensures.given, omega (arith, there, few))

pub returns-in-Ok-Some-clause-first : goal.returns-in-Ok-Some-clause-first
returns-in-Ok-Some-clause-first g c = items_first (item_for c.args.purpose) _ _ _ c.next.ensures.first

pub returns-in-Ok-None-clause-first : goal.returns-in-Ok-None-clause-first
returns-in-Ok-None-clause-first g c = items_first (item_for c.args.purpose) _ _ _ c.next.ensures.first

pub returns-in-Err-clause-first : goal.returns-in-Err-clause-first
returns-in-Err-clause-first g c = items_first (item_for c.args.purpose) _ _ _ c.next.ensures.first
