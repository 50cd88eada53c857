use Rattle.std.proofs.Common.{◌≡◌, ◌<◌, ◌-◌, ◌^◌, ◌*◌, ◌%◌, bit_or, sym, ap, ◌∙◌, arith}
use lib.Count.{count_leading_zeros}
use Rattle.std.proofs.lemmas.Nat.{leading_top}
use Rattle.cha_board.specs.SquareSets.{set_of_bits, set_common}
use Rattle.cha_board.proofs.Sliding.{down_bounds, down_mask, seen_down_is}
use Rattle.cha_board.proofs.aiming.seen_downwards.Goals as goal

pub overflow_sub-stops : goal.overflow_sub-stops
overflow_sub-stops c =
    let bounds = down_bounds c.bits-stops.result (omega arith) in
    let top = leading_top 64 (bit_or c.bits-stops.result 1) bounds.0 bounds.1 in
    omega (arith, top.1)

pub returns : goal.returns
returns c =
    let n = c.bits-stops.result in
    let bounds = down_bounds n (omega arith) in
    let top = leading_top 64 (bit_or n 1) bounds.0 bounds.1 in
    let f = top.0 in
    let small : f < 64 = omega (arith, top.1) in
    let e : 63 - count_leading_zeros 64 (bit_or n 1) ≡ f = omega (arith, top.1) in
    c.common-2.ensures ∙ ap (set_common c.args.ray) (c.from_bits.ensures ∙ ap set_of_bits (ap (λ k. 18446744073709551615 * 2 ^ k % 18446744073709551616) e ∙ down_mask f small))
    ∙ seen_down_is c.args.ray c.args.occupied n f (sym c.common.ensures ∙ c.bits-stops.ensures.shown) small top.2 top.3
