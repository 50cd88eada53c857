use Rattle.std.proofs.Common.{◌+◌, ◌*◌, length}
use Rattle.root_workers.proofs.each.+each.Given as goal

abbrev pub decreases-each_from : goal.decreases-each_from
decreases-each_from g l = 3 * length l.s.now

abbrev pub decreases-both : goal.decreases-both
decreases-both g l = 3 * length l.rest.now + 2

abbrev pub decreases-both-here : goal.decreases-both-here
decreases-both-here g l = 3 * length l.rest.now + 1
