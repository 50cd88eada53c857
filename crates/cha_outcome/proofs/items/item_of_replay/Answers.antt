use Rattle.cha_outcome.proofs.NamedLegal.{before_legal}
use Rattle.cha_outcome.proofs.items.item_of_replay.Goals as goal

pub returns-clause-asked : goal.returns-clause-asked
returns-clause-asked c = rw (c.start_known-start.ensures, c.in_ok-moves.ensures) (before_legal c.args.placed.now.game.before_fault c.args.placed.now.game)
