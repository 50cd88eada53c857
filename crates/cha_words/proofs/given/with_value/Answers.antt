use Rattle.std.proofs.Common.{sym, ◌∙◌}
use Rattle.cha_words.specs.Reading.{Takes}
use Rattle.cha_words.proofs.Choosing.{value_closed, value_bad, value_taken, put_fits}
use Rattle.cha_words.proofs.given.with_value.Goals as goal

pub returns-in-Some-number : goal.returns-in-Some-number
unfolding Takes
returns-in-Some-number c =
    let e = sym c.open_range.ensures ∙ c.in-Some.is in
    let h = sym c.number.ensures ∙ c.in-Some-number.is in
    rw c.with.ensures (
      put_fits c.args.command c.args.given c.args.setting c.in-Some.range c.args.word.now c.in-Some-number.value c.requires e h,
      value_taken c.args.command c.args.given c.args.setting c.in-Some.range c.args.word.now c.in-Some-number.value e h,
    )

pub returns-in-None-number : goal.returns-in-None-number
unfolding Takes
returns-in-None-number c = value_bad c.args.command c.args.given c.args.setting c.in-Some.range c.args.word.now (sym c.open_range.ensures ∙ c.in-Some.is) (sym c.number.ensures ∙ c.in-None-number.is)

pub returns-in-None : goal.returns-in-None
unfolding Takes
returns-in-None c = value_closed c.args.command c.args.given c.args.setting c.args.word.now (sym c.open_range.ensures ∙ c.in-None.is)
