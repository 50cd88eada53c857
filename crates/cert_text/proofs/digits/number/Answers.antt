use Rattle.std.proofs.Common.{◌+◌, ◌*◌, arith}
use Rattle.cert_text.proofs.Numbers.{small_more, fits_word}
use Rattle.cert_text.proofs.digits.number.Goals as goal

pub overflow_mul-number : goal.overflow_mul-number
overflow_mul-number c =
    let small = small_more c.args.base c.loop-digit.number 0 c.loop-digit.digit-index c.requires.base (omega arith) c.loop-digit.invariant.small in
    let inside = c.loop-digit-test.true in
    let few = c.requires.few in
    let fits = fits_word (c.loop-digit.number * c.args.base + 0) (c.loop-digit.digit-index + 1) (omega (arith, inside, few)) small in
    omega (arith, fits)

pub overflow_add-number : goal.overflow_add-number
overflow_add-number c =
    let small = small_more c.args.base c.loop-digit.number c.value.result c.loop-digit.digit-index c.requires.base c.value.ensures.bound c.loop-digit.invariant.small in
    let inside = c.loop-digit-test.true in
    let few = c.requires.few in
    let fits = fits_word (c.loop-digit.number * c.args.base + c.value.result) (c.loop-digit.digit-index + 1) (omega (arith, inside, few)) small in
    omega (arith, fits)
