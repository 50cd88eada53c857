use Rattle.std.proofs.Common.{◌≡◌, ◌++◌, append-nil, refl, sym, ap, ◌∙◌}
use Rattle.std.specs.List.{filter, flat_map}
use Rattle.cha_board.specs.Men.{is_of}
use Rattle.cha_board.specs.Board.{man_at}
use Rattle.cha_board.specs.SquareSets.{set_of, squares_in}
use Rattle.cha_moves.specs.Moves.{is_legal_in, moves_from, legal}
use Rattle.cha_moves.proofs.WayLaws.{legal_by_men, filter_next}
use Rattle.cha_moves.proofs.list.legal.Goals as goal

pub loop-from-init : goal.loop-from-init
loop-from-init c =
    let q = c.args.position.now in
    let own : c.into_iter-from-iterator.result ≡ set_of (λ s. is_of q.side (man_at q.men s)) = (c.into_iter-from-iterator.ensures.into_iter_gives ∙ c.of_side-from-items.ensures) ∙ rw (c.placement.ensures.value, c.side.ensures) refl in
    ap (λ xs. xs ++ filter (is_legal_in q) (flat_map moves_from (squares_in c.into_iter-from-iterator.result))) c.in_ok-moves.ensures.items
    ∙ ap (λ xs. filter (is_legal_in q) (flat_map moves_from (squares_in xs))) own ∙ legal_by_men q

pub loop-from-preserved : goal.loop-from-preserved
loop-from-preserved c =
    let q = c.args.position.now in
    let from = c.in-Some.from in
    let next = c.in-Some.ensures.steps.0 in
    filter_next (is_legal_in q) moves_from c.loop-from.moves.items c.add_from.new.moves.items (legal q) _ _ from c.loop-from.invariant next c.in_ok-add_from.ensures

pub returns : goal.returns
returns c =
    let q = c.args.position.now in
    let none = c.in-None.ensures.steps.0 in
    sym (append-nil c.loop-from.moves.items)
    ∙ ap (λ xs. c.loop-from.moves.items ++ filter (is_legal_in q) (flat_map moves_from xs)) (sym none)
    ∙ c.loop-from.invariant
