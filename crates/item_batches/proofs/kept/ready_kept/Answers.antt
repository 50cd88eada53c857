use Rattle.std.proofs.Common.{◌+◌, ◌*◌, ◌<◌, ◌≤◌, length, arith, refl}
use Rattle.pgn_games.specs.Games.{placed_games}
use Rattle.side_by_side.specs.Cuts.{item_for}
use Rattle.side_by_side.specs.declared.cuts.Purpose.TheVariants.{Corrected}
use Rattle.item_batches.proofs.GivenGames.{few_words, given_few, item_at}
use Rattle.item_batches.proofs.kept.ready_kept.Goals as goal

pub returns-in-Ok-Some-clause-cut : goal.returns-in-Ok-Some-clause-cut
returns-in-Ok-Some-clause-cut c =
    let found = rw (c.in-Ok-Some.field-0-is, c.ready.ensures.same.0) at c.in-Ok-Some.ensures.game in (
      item_at (item_for Corrected) (placed_games c.args.reader.now.taken) c.args.reader.now.given c.in-Ok-Some.game found,
      few_words c.args.reader.now.taken c.args.reader.now.given c.in-Ok-Some.game found,
      refl,
    )

pub returns-in-Ok-Some-clause-given : goal.returns-in-Ok-Some-clause-given
returns-in-Ok-Some-clause-given c =
    let few : length c.args.reader.now.taken ≤ 268435456 = c.requires.1 in
    let there : c.args.reader.now.given < 2 * length c.args.reader.now.taken + 1 = given_few c.args.reader.now.taken c.args.reader.now.given c.in-Ok-Some.game (rw (c.in-Ok-Some.field-0-is, c.ready.ensures.same.0) at c.in-Ok-Some.ensures.game) in
    (rw c.in-Ok-Some.field-0-is at c.in-Ok-Some.ensures.given, omega (arith, there, few))
