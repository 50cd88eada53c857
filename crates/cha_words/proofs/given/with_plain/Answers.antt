use Rattle.std.proofs.Common.{◌≡◌, Some, None, sym, ◌∙◌}
use Rattle.cha_words.specs.Language.{next_argument, say}
use Rattle.cha_words.specs.Reading.{Takes}
use Rattle.cha_words.proofs.Choosing.{plain_refused, plain_taken, said_fits}
use Rattle.cha_words.proofs.given.with_plain.Goals as goal

pub returns-in-Some : goal.returns-in-Some
unfolding Takes
returns-in-Some c =
    let e : say (next_argument c.args.command c.args.given.said) c.args.given.said c.args.word.now ≡ Some c.in-Some.said = rw (← c.argument_of.ensures) (sym c.said_by.ensures ∙ c.in-Some.is) in
    (said_fits c.args.command c.args.given c.args.word.now c.in-Some.said c.requires e, plain_taken c.args.command c.args.given c.args.word.now c.in-Some.said e)

pub returns-in-None : goal.returns-in-None
unfolding Takes
returns-in-None c =
    let e : say (next_argument c.args.command c.args.given.said) c.args.given.said c.args.word.now ≡ None = rw (← c.argument_of.ensures) (sym c.said_by.ensures ∙ c.in-None.is) in
    plain_refused c.args.command c.args.given c.args.word.now e
