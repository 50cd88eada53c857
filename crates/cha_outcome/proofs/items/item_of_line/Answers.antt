use Rattle.cha_fen.specs.declared.faults.FenFault.TheVariants.{Shape}
use Rattle.cha_outcome.proofs.Asked.{position_asked, refusal_asked}
use Rattle.cha_outcome.proofs.items.item_of_line.Goals as goal

pub returns-then-text-gt-MOST_LINE_BYTES-clause-asked : goal.returns-then-text-gt-MOST_LINE_BYTES-clause-asked
returns-then-text-gt-MOST_LINE_BYTES-clause-asked c = refusal_asked c.args.line Shape

pub returns-in-Ok-clause-asked : goal.returns-in-Ok-clause-asked
returns-in-Ok-clause-asked c = position_asked c.args.line c.in-Ok.position

pub returns-in-Err-clause-asked : goal.returns-in-Err-clause-asked
returns-in-Err-clause-asked c = refusal_asked c.args.line c.in-Err.fault
