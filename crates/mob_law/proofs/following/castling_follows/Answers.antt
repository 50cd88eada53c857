-- The rules of castling follow from the others.
use Rattle.mob_law.proofs.CastlingFollows.{follows}
use Rattle.mob_law.proofs.following.castling_follows.Goals as goal

pub returns : goal.returns
returns c = follows
