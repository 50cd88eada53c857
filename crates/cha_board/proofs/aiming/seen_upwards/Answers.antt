use Rattle.std.proofs.Common.{bit_or, sym, ap, ◌∙◌, arith}
use Rattle.std.specs.Int.{trailing_zeros}
use mir.Syntax.{w64}
use Rattle.std.proofs.lemmas.Nat.Bits.{bit_at-trailing_zeros}
use Rattle.cha_board.specs.SquareSets.{set_of_bits, set_common}
use Rattle.cha_board.proofs.Sliding.{up_bounds, up_mask, seen_up_is}
use Rattle.cha_board.proofs.aiming.seen_upwards.Goals as goal

pub overflow_sub-stops : goal.overflow_sub-stops
overflow_sub-stops c =
    let bounds = up_bounds c.bits.result (omega arith) in
    let lowest = bit_at-trailing_zeros w64 (bit_or c.bits.result 9223372036854775808) bounds.0 bounds.1 in
    omega (arith, lowest.0)

pub returns : goal.returns
returns c =
    let n = c.bits.result in
    let bounds = up_bounds n (omega arith) in
    let lowest = bit_at-trailing_zeros w64 (bit_or n 9223372036854775808) bounds.0 bounds.1 in
    let f = trailing_zeros w64 (bit_or n 9223372036854775808) in
    c.common-2.ensures ∙ ap (set_common c.args.ray) (c.from_bits.ensures ∙ ap set_of_bits (up_mask f lowest.0))
    ∙ seen_up_is c.args.ray c.args.occupied n f (sym c.common.ensures ∙ c.bits.ensures.shown) lowest.0 lowest.1 lowest.2
