use Rattle.std.proofs.Common.{◌==◌, false, sym, ap, ◌∙◌}
use Rattle.std.specs.Int.{bit_at}
use Rattle.cha_board.specs.SquareSets.{set_placed}
use Rattle.cha_board.proofs.Moving.{set_stepped, set_stayed}
use Rattle.cha_board.proofs.placement.gone_on.Goals as goal

pub returns-then-so : goal.returns-then-so
returns-then-so c = λ from to.
    let set = c.args.set in
    let s = c.args.from in
    let t = c.args.to in
    c.with.ensures ∙ rw c.without.ensures (set_stepped set s t) ∙ ap (set_placed (set_placed set s false) t) (sym c.if-so.true)

pub returns-else-so : goal.returns-else-so
returns-else-so c = λ from to.
    let set = c.args.set in
    let s = c.args.from in
    let t = c.args.to in
    set_stayed set (λ u. bit_at c.bits-bits.result u == 1) s t c.bits-bits.ensures.shown (from c.if-so.false) (to c.if-so.false) ∙ ap (set_placed (set_placed set s false) t) (sym c.if-so.false)
