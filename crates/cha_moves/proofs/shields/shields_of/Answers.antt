use Rattle.std.proofs.Common.{◌≡◌, ◌<◌, Bool, List, refl, sym, ap, ◌∙◌, arith}
use Rattle.cha_board.specs.Men.{other_color}
use Rattle.cha_board.specs.Squares.{lies_between}
use Rattle.cha_board.specs.Board.{man_at, king_of}
use Rattle.cha_board.specs.SquareSets.{set_of, has_square, has_no_square, set_common}
use Rattle.cha_moves.specs.Shields.{aims_as}
use Rattle.cha_moves.proofs.Facing.{way_from, none_faced, all_faced, way_is_clear, check_faced, pin_faced, first_in, none_left, answered, lone_there, every_square}
use Rattle.cha_moves.proofs.Goings.{joined_at}
use Rattle.cha_moves.proofs.shields.shields_of.Goals as goal

pub loop-by-init : goal.loop-by-init
loop-by-init c =
    let q = c.args.position.now in
    let all : c.into_iter-by-iterator.result ≡ set_of (λ u. aims_as (other_color q.side) (king_of q.men q.side) u (man_at q.men u)) = (c.into_iter-by-iterator.ensures.into_iter_gives ∙ c.aimers-by-items.ensures) ∙ rw (c.other.ensures, c.king-king.ensures, c.side-side.ensures) refl in
    none_faced q _ _ _ all (λ t small. ap (λ x. has_square x t) c.from_bits-answers.ensures ∙ every_square t small) c.known.ensures.size

pub loop-by-preserved-then-is_empty : goal.loop-by-preserved-then-is_empty
loop-by-preserved-then-is_empty c =
    let q = c.args.position.now in
    let u = c.in-Some.by in
    let k = king_of q.men q.side in
    let small : u < 64 = omega arith in
    let king : c.king-king.result ≡ k = c.king-king.ensures ∙ ap (king_of q.men) c.side-side.ensures in
    let inside : c.king-king.result < 64 = omega arith in
    let small' : k < 64 = rw king at inside in
    let next = c.in-Some.ensures.steps.0 in
    let here = first_in c.loop-by.by-iterator u _ next in
    let line : c.squares_between-line.result ≡ set_of (lies_between k u) = c.squares_between-line.ensures ∙ ap (λ x. set_of (lies_between x u)) king in
    let way : c.common-way.result ≡ way_from q u = c.common-way.ensures ∙ rw (line, c.occupied-occupied.ensures) refl in
    let clear = sym (way_is_clear q u small small') ∙ ap has_no_square (sym way) ∙ sym c.is_empty.ensures ∙ c.if-is_empty.true in
    rw c.in-Some.ensures.steps.1 (check_faced q c.loop-by.by-iterator c.loop-by.answers c.loop-by.screens c.common-answers.result u small here clear (λ t small''. ap (λ (x : List Bool). has_square x t) (c.common-answers.ensures ∙ ap (set_common c.loop-by.answers) c.with.ensures) ∙ answered c.loop-by.answers c.squares_between-line.result k u t line small'') c.loop-by.invariant)

pub loop-by-preserved : goal.loop-by-preserved
loop-by-preserved c =
    let q = c.args.position.now in
    let u = c.in-Some.by in
    let k = king_of q.men q.side in
    let small : u < 64 = omega arith in
    let king : c.king-king.result ≡ k = c.king-king.ensures ∙ ap (king_of q.men) c.side-side.ensures in
    let inside : c.king-king.result < 64 = omega arith in
    let small' : k < 64 = rw king at inside in
    let next = c.in-Some.ensures.steps.0 in
    let here = first_in c.loop-by.by-iterator u _ next in
    let line : c.squares_between-line.result ≡ set_of (lies_between k u) = c.squares_between-line.ensures ∙ ap (λ x. set_of (lies_between x u)) king in
    let way : c.common-way.result ≡ way_from q u = c.common-way.ensures ∙ rw (line, c.occupied-occupied.ensures) refl in
    let barred = ap has_no_square (sym way) ∙ sym c.is_empty.ensures ∙ c.if-is_empty.false in
    rw c.in-Some.ensures.steps.1 (pin_faced q c.loop-by.by-iterator c.loop-by.answers c.loop-by.screens c.joined-screens.result c.lone.result u small small' barred (lone_there q u c.common-way.result c.lone.result way barred c.lone.ensures) (λ s small''. ap (λ (x : List Bool). has_square x s) c.joined-screens.ensures ∙ joined_at c.loop-by.screens c.lone.result s small'') c.loop-by.invariant)

pub returns : goal.returns
returns c = all_faced c.args.position.now c.loop-by.by-iterator c.loop-by.answers c.loop-by.screens c.loop-by.invariant (none_left c.loop-by.by-iterator c.in-None.ensures.steps.0)
