use Rattle.std.proofs.Common.{refl}
use Rattle.adjudicate.proofs.commands.carry_out.Goals as goal

pub report_made-requires-clause-count : goal.report_made-requires-clause-count
report_made-requires-clause-count g c = c.requires.some _ _ _ c.in-GenGames.is

pub returns-in-GenGames-clause-run : goal.returns-in-GenGames-clause-run
returns-in-GenGames-clause-run g c = rw c.in-GenGames.is (c.report_made.ensures.run _ _, refl)
