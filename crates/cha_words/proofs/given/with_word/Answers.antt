use Rattle.std.proofs.Common.{sym, ◌∙◌}
use Rattle.cha_words.proofs.Cutting.{takes_value, takes_whole, takes_name}
use Rattle.cha_words.proofs.given.with_word.Goals as goal

pub returns-in-Some : goal.returns-in-Some
returns-in-Some c = rw c.settled.ensures (takes_value c.args.command c.args.progress c.args.word.now c.in-Some.setting c.with_value.result c.in-Some.is c.with_value.ensures)

pub returns-in-Some-setting_of : goal.returns-in-Some-setting_of
returns-in-Some-setting_of c = takes_name c.args.command c.args.progress c.args.word.now c.in-Some-setting_of.setting c.with_name.result c.in-None.is (sym c.setting_of.ensures ∙ c.in-Some-setting_of.is) c.with_name.ensures

pub returns-in-None-setting_of : goal.returns-in-None-setting_of
returns-in-None-setting_of c = rw c.settled-in-None-setting_of.ensures (takes_whole c.args.command c.args.progress c.args.word.now c.with_part.result c.in-None.is (sym c.setting_of.ensures ∙ c.in-None-setting_of.is) c.with_part.ensures)
