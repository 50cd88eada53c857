use Rattle.std.proofs.Common.{◌≡◌, true, inl, refl, ap, ◌∙◌}
use Rattle.cha_board.specs.Squares.{lies_between}
use Rattle.cha_board.specs.SquareSets.{set_of, has_square}
use Rattle.cha_moves.proofs.Uncovering.{aimers_left, line_added, alone_there, all_lines}
use Rattle.cha_moves.proofs.checks.lines_to.Goals as goal

pub loop-by-init : goal.loop-by-init
loop-by-init c u s small low aims lies alone =
    let q = c.args.position.now in
    inl (aimers_left q.side c.args.king q.men c.into_iter-by-iterator.result u small ((c.into_iter-by-iterator.ensures.into_iter_gives ∙ c.aimers-by-items.ensures) ∙ rw c.side.ensures refl) aims)

pub loop-by-preserved : goal.loop-by-preserved
loop-by-preserved c u s small low aims lies alone =
    let by = c.in-Some.by in
    let k = c.args.king in
    let men = c.args.position.now.men in
    let next = c.in-Some.ensures.steps.0 in
    let on_line : by ≡ u → has_square c.lone.result s ≡ true = λ here. (
    let line : c.squares_between.result ≡ set_of (lies_between u k) = c.squares_between.ensures ∙ ap (λ v. set_of (lies_between v k)) here in
    let there = alone_there men u k s c.squares_between.result c.occupied-occupied.result c.common-way.result low line c.occupied-occupied.ensures c.common-way.ensures lies alone in
    c.lone.ensures s there.0 there.1) in
    line_added c.loop-by.by-iterator c.next.new.self c.loop-by.lines c.joined-lines.result c.lone.result by u s low next on_line c.joined-lines.ensures (c.loop-by.invariant u s small low aims lies alone)

pub returns : goal.returns
returns c u s small low aims lies alone =
    all_lines c.loop-by.by-iterator u _ c.in-None.ensures.steps.0 (c.loop-by.invariant u s small low aims lies alone)
