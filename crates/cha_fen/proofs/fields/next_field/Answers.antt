use Rattle.std.proofs.Common.{arith, length, length-drop, ap}
use Rattle.cha_fen.proofs.Splitting.{first_field, no_field, is_nothing, is_something}
use Rattle.cha_fen.proofs.fields.next_field.Goals as goal

pub returns-then-is_empty-clause-none : goal.returns-then-is_empty-clause-none
returns-then-is_empty-clause-none c =
    let n = is_nothing _ _ c.is_empty.ensures c.if-is_empty.true in
    no_field c.args.bytes.now c.run_of.result c.run_of.ensures.value (omega (arith, n, length-drop c.run_of.result c.args.bytes.now, ap length c.split_at.ensures.back))

pub returns-clause-some : goal.returns-clause-some
returns-clause-some c =
    rw (c.split_at-2.ensures.front, c.split_at-2.ensures.back)
    (first_field c.args.bytes.now c.split_at.result.1.now c.run_of.result c.run_of-2.result c.run_of.ensures.value c.split_at.ensures.back c.run_of-2.ensures.value (is_something _ _ c.is_empty.ensures c.if-is_empty.false))
