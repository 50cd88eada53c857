-- cha_san/proofs/playing/play/Answers.antt
use Rattle.cha_san.proofs.Played.{played_count, played_start, played_number}
use Rattle.cha_san.proofs.playing.play.Goals as goal

pub returns-clause-count : goal.returns-clause-count
returns-clause-count c = played_count c.replayed.result c.args.game.now.start c.args.game.now.words (rw c.items.ensures at c.replayed.ensures)

pub returns-clause-start : goal.returns-clause-start
returns-clause-start c = played_start c.replayed.result c.args.game.now.start c.args.game.now.words (rw c.items.ensures at c.replayed.ensures)

pub returns-clause-number : goal.returns-clause-number
returns-clause-number c = played_number c.replayed.result c.args.game.now.start c.args.game.now.words (rw c.items.ensures at c.replayed.ensures)
