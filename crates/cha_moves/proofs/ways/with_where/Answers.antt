use Rattle.std.proofs.Common.{◌==◌, ◌∙◌}
use Rattle.std.specs.Int.{bit_at}
use Rattle.cha_moves.proofs.Goings.{where_so, where_not}
use Rattle.cha_moves.proofs.ways.with_where.Goals as goal

pub returns-then-so : goal.returns-then-so
returns-then-so c = c.with.ensures ∙ where_so c.args.set c.args.at c.args.so c.if-so.true

pub returns-else-so : goal.returns-else-so
returns-else-so c = where_not c.args.set (λ s. bit_at c.bits-bits.result s == 1) c.args.at c.args.so c.bits-bits.ensures.shown c.if-so.false
