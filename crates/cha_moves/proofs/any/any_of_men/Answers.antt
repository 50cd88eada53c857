use Rattle.std.proofs.Common.{◌≡◌, refl, sym, ap, ◌∙◌}
use Rattle.std.proofs.lemmas.Bool.{OnTrue_at, OnFalse_at}
use Rattle.std.specs.List.{filter, flat_map}
use Rattle.cha_board.specs.Men.{is_of}
use Rattle.cha_board.specs.Board.{man_at}
use Rattle.cha_board.specs.SquareSets.{set_of, squares_in}
use Rattle.cha_moves.specs.Moves.{is_legal_in, moves_from, legal}
use Rattle.cha_moves.proofs.WayLaws.{legal_by_men, filter_found, filter_passed}
use Rattle.cha_moves.proofs.any.any_of_men.Goals as goal

pub loop-from-init : goal.loop-from-init
loop-from-init c =
    let q = c.args.position.now in
    let own : c.into_iter-from-iterator.result ≡ set_of (λ s. is_of q.side (man_at q.men s)) = (c.into_iter-from-iterator.ensures.into_iter_gives ∙ c.of_side-from-items.ensures) ∙ rw (c.placement.ensures.value, c.side.ensures) refl in
    sym (legal_by_men q) ∙ ap (λ xs. filter (is_legal_in q) (flat_map moves_from (squares_in xs))) (sym own)

pub returns-then-any_from-clause-some : goal.returns-then-any_from-clause-some
returns-then-any_from-clause-some c =
    let q = c.args.position.now in
    let next = c.in-Some.ensures.steps.0 in
    filter_found (is_legal_in q) moves_from (legal q) _ _ c.in-Some.from c.loop-from.invariant next (OnTrue_at c.if-any_from.true c.any_from.ensures.some)

pub loop-from-preserved : goal.loop-from-preserved
loop-from-preserved c =
    let q = c.args.position.now in
    let from = c.in-Some.from in
    let next = c.in-Some.ensures.steps.0 in
    filter_passed (is_legal_in q) moves_from (legal q) _ _ from c.loop-from.invariant next (OnFalse_at c.if-any_from.false c.any_from.ensures.none)

pub returns-clause-none : goal.returns-clause-none
returns-clause-none c =
    let q = c.args.position.now in
    let none = c.in-None.ensures.steps.0 in
    c.loop-from.invariant ∙ ap (λ xs. filter (is_legal_in q) (flat_map moves_from xs)) none
