use Rattle.std.proofs.Common.{sym, ◌∙◌}
use Rattle.cha_words.proofs.Cutting.{takes_flag}
use Rattle.cha_words.proofs.Choosing.{name_refused, name_taken}
use Rattle.cha_words.proofs.given.with_name.Goals as goal

pub returns-then-is_flag : goal.returns-then-is_flag
returns-then-is_flag c = rw c.settled.ensures (takes_flag c.args.command c.args.given c.args.setting c.with_value.result (sym c.is_flag.ensures ∙ c.if-is_flag.true) c.with_value.ensures)

pub returns-in-Some : goal.returns-in-Some
returns-in-Some c = name_taken c.args.command c.args.given c.args.setting c.in-Some.field-0 c.requires (sym c.is_flag.ensures ∙ c.if-is_flag.false) (sym c.open_range.ensures ∙ c.in-Some.is)

pub returns-in-None : goal.returns-in-None
returns-in-None c = name_refused c.args.command c.args.given c.args.setting (sym c.is_flag.ensures ∙ c.if-is_flag.false) (sym c.open_range.ensures ∙ c.in-None.is)
