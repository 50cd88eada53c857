use Rattle.pgn_lex.proofs.InOrder.{places_inside, places_rise}
use Rattle.pgn_lex.proofs.order.tokens_stand_in_order.Goals as goal

pub returns-clause-inside : goal.returns-clause-inside
returns-clause-inside c = places_inside

pub returns-clause-order : goal.returns-clause-order
returns-clause-order c = places_rise
