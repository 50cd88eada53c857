use Rattle.std.proofs.Common.{◌∙◌}
use Rattle.cha_words.proofs.Ending.{awaited_none, settled_end}
use Rattle.cha_words.proofs.reading.ended.Goals as goal

pub returns-in-Some : goal.returns-in-Some
returns-in-Some c = awaited_none c.args.command c.args.progress c.in-Some.field-0 c.in-Some.is

pub returns-in-None : goal.returns-in-None
returns-in-None c = c.made.ensures ∙ settled_end c.args.command c.args.progress c.all_numbers.result c.in-None.is c.all_numbers.ensures.values
