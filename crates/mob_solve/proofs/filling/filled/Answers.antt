use Rattle.std.proofs.Common.{◌≡◌, sym, ap, ◌∙◌, arith, false}
use Rattle.cha_board.specs.SquareSets.{is_subset}
use Rattle.mob_solve.specs.Reaching.{size_of}
use Rattle.mob_solve.proofs.Sizes.{joined_more, size_small}
use Rattle.mob_solve.proofs.Fills.{fills_begin, fills_more, fills_all}
use Rattle.mob_solve.proofs.filling.filled.Goals as goal

pub loop-side-init : goal.loop-side-init
loop-side-init c = fills_begin c.args.ground.now c.args.side c.args.kind c.args.from

pub loop-side-preserved : goal.loop-side-preserved
loop-side-preserved c =
    fills_more c.args.ground.now c.args.side c.args.kind c.args.from c.loop-side.squares c.comes-next.result c.joined-squares.result c.loop-side.invariant c.comes-next.ensures c.joined-squares.ensures

pub loop-side-smaller : goal.loop-side-smaller
loop-side-smaller c =
    let new : is_subset c.comes-next.result c.loop-side.squares ≡ false = sym c.within.ensures ∙ c.if-within.false in
    let more = joined_more c.loop-side.squares c.comes-next.result new in
    let size : size_of c.joined-squares.result ≡ _ = ap size_of c.joined-squares.ensures in
    let few = size_small c.joined-squares.result in
    omega (arith, more, size, few)

pub returns-then-within : goal.returns-then-within
returns-then-within c =
    fills_all c.args.ground.now c.args.side c.args.kind c.args.from c.loop-side.squares c.comes-next.result c.loop-side.invariant c.comes-next.ensures (sym c.within.ensures ∙ c.if-within.true)
