use Rattle.cha_moves.proofs.StayingDead.{stays_after, stays_later}
use Rattle.cha_moves.proofs.dead.unwinnable_stays.Goals as goal

pub returns-clause-next : goal.returns-clause-next
returns-clause-next c = stays_after

pub returns-clause-game : goal.returns-clause-game
returns-clause-game c = stays_later

pub returns-clause-dead : goal.returns-clause-dead
returns-clause-dead c = λ qs i j p q played later there at dead w. stays_later qs i j p q w played later there at (dead w)
