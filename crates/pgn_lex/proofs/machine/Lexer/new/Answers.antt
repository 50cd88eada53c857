use Rattle.std.proofs.Common.{arith}
use Rattle.pgn_lex.proofs.Fed.{fed_none}
use Rattle.pgn_lex.proofs.machine.Lexer.new.Goals as goal

pub invariant_of-result : goal.invariant_of-result
invariant_of-result c =
    fed_none c.new.result _ _ _ _ c.new.ensures c.in_ok-word.ensures.items c.in_ok-value.ensures.items (omega (arith, c.in_ok-word.ensures.capacity)) (omega (arith, c.in_ok-value.ensures.capacity))
