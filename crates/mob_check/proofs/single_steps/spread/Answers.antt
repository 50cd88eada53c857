use Rattle.std.proofs.Common.{◌∙◌, sym, ap}
use Rattle.cha_board.specs.declared.men.Kind.{Kind}
use Rattle.mob_check.specs.SingleSteps.{spread_of}
use Rattle.mob_check.proofs.Spreads.{king_spreads}
use Rattle.mob_check.proofs.single_steps.spread.Goals as goal

pub returns-in-Queen : goal.returns-in-Queen
returns-in-Queen c =
    (king_spreads c.args.side c.args.from c.king_steps.result c.king_steps.ensures).1 ∙ ap (λ (k : Kind). spread_of c.args.side k c.args.from) (sym c.in-Queen.is)

pub returns-in-King : goal.returns-in-King
returns-in-King c =
    (king_spreads c.args.side c.args.from c.king_steps-in-King.result c.king_steps-in-King.ensures).0 ∙ ap (λ (k : Kind). spread_of c.args.side k c.args.from) (sym c.in-King.is)
