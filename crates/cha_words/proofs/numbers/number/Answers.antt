use Rattle.std.proofs.Common.{arith, lit<, sym}
use Rattle.std.proofs.lemmas.Str.Pattern.{starts_char}
use Rattle.cha_words.proofs.Digits.{no_number, was_read, was_not_read, read_below, read_above, read_inside, no_plus, plus_no_number}
use Rattle.cha_words.proofs.numbers.number.Goals as goal

pub returns-then-word-gt-MOST_DIGITS : goal.returns-then-word-gt-MOST_DIGITS
returns-then-word-gt-MOST_DIGITS c = sym (no_number c.args.least c.args.most c.args.word.now (λ h. let few = h.few in omega (arith, few, c.if-word-gt-MOST_DIGITS.true)))

pub returns-then-starts_with : goal.returns-then-starts_with
returns-then-starts_with c =
    let starts = starts_char 43 c.args.word.now c.starts_with.result c.starts_with.ensures.cases (lit< tt) (lit< tt) in
    sym (plus_no_number c.args.least c.args.most c.args.word.now (starts.0 c.if-starts_with.true))

pub returns-then-value-least : goal.returns-then-value-least
returns-then-value-least c =
    let starts = starts_char 43 c.args.word.now c.starts_with.result c.starts_with.ensures.cases (lit< tt) (lit< tt) in
    let read = was_read c.args.word.now c.parse.result c.in-Ok.value c.parse.ensures.value.0 (no_plus c.args.word.now c.starts_with.result starts c.if-starts_with.false) c.in-Ok.is in
    sym (read_below c.args.least c.args.most c.args.word.now c.in-Ok.value read c.if-value-least.true)

pub returns-then-most-value : goal.returns-then-most-value
returns-then-most-value c =
    let starts = starts_char 43 c.args.word.now c.starts_with.result c.starts_with.ensures.cases (lit< tt) (lit< tt) in
    let read = was_read c.args.word.now c.parse.result c.in-Ok.value c.parse.ensures.value.0 (no_plus c.args.word.now c.starts_with.result starts c.if-starts_with.false) c.in-Ok.is in
    sym (read_above c.args.least c.args.most c.args.word.now c.in-Ok.value read c.if-most-value.true)

pub returns-else-most-value : goal.returns-else-most-value
returns-else-most-value c =
    let starts = starts_char 43 c.args.word.now c.starts_with.result c.starts_with.ensures.cases (lit< tt) (lit< tt) in
    let read = was_read c.args.word.now c.parse.result c.in-Ok.value c.parse.ensures.value.0 (no_plus c.args.word.now c.starts_with.result starts c.if-starts_with.false) c.in-Ok.is in
    sym (read_inside c.args.least c.args.most c.args.word.now c.in-Ok.value read (omega (arith, c.if-word-gt-MOST_DIGITS.false)) c.if-value-least.false c.if-most-value.false)

pub returns-in-Err : goal.returns-in-Err
returns-in-Err c =
    let starts = starts_char 43 c.args.word.now c.starts_with.result c.starts_with.ensures.cases (lit< tt) (lit< tt) in
    sym (was_not_read c.args.least c.args.most c.args.word.now c.parse.result c.in-Err.field-0 c.parse.ensures.value.0 (no_plus c.args.word.now c.starts_with.result starts c.if-starts_with.false) c.in-Err.is (omega (arith, c.ranges.most.fits)))
