-- Closed sets exist.
use Rattle.mob_law.proofs.Widest.{widest, widest_closed, bare_is_static, bare_never_mates}
use Rattle.mob_law.proofs.bound.closed_sets_exist.Goals as goal

pub returns-clause-closed : goal.returns-clause-closed
returns-clause-closed c = λ p. (widest, widest_closed p)

pub returns-clause-bare_king : goal.returns-clause-bare_king
returns-clause-bare_king c = bare_is_static

pub returns-clause-bare_king_never_mates : goal.returns-clause-bare_king_never_mates
returns-clause-bare_king_never_mates c = bare_never_mates
