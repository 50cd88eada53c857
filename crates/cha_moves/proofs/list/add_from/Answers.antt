use Rattle.std.proofs.Common.{◌++◌, append-nil, refl, sym, ap, ◌∙◌}
use Rattle.std.specs.List.{filter, flat_map}
use Rattle.cha_board.specs.Men.{is_of}
use Rattle.cha_board.specs.SquareSets.{squares_in}
use Rattle.cha_moves.specs.Moves.{is_legal_in, moves_between, moves_from}
use Rattle.cha_moves.proofs.Contained.{Contains-cons_here, Contains-cons_there}
use Rattle.cha_moves.proofs.WayLaws.{no_own_move, between_next}
use Rattle.cha_moves.proofs.GoingLegally.{legal_by_goings, each_goes}
use Rattle.cha_moves.proofs.list.add_from.Goals as goal

pub returns-in_default : goal.returns-in_default
returns-in_default c =
    let q = c.args.position.now in
    let none = no_own_move q c.args.from (ap (is_of q.side) (sym c.man.ensures ∙ c.in_default.is)) in
    sym (ap (λ xs. c.args.moves.now.items ++ xs) none ∙ append-nil c.args.moves.now.items)

pub loop-to-init : goal.loop-to-init
loop-to-init c =
    let q = c.args.position.now in
    record {
      so_far = ap (λ xs. c.args.moves.now.items ++ filter (is_legal_in q) (flat_map (moves_between c.args.from) (squares_in xs))) (c.into_iter-to-iterator.ensures.into_iter_gives ∙ c.legal_ways-to-items.ensures)
          ∙ ap (λ xs. c.args.moves.now.items ++ xs) (legal_by_goings q c.args.from);
      ways = λ t inside. each_goes q c.args.from t c.into_iter-to-iterator.result (c.into_iter-to-iterator.ensures.into_iter_gives ∙ c.legal_ways-to-items.ensures) inside;
    }

pub add_way-requires-clause-way : goal.add_way-requires-clause-way
add_way-requires-clause-way c =
    let next = c.in-Some-to.ensures.steps.0 in
    c.loop-to.invariant.ways c.in-Some-to.to (rw next (Contains-cons_here c.in-Some-to.to _ c.in-Some-to.to refl))

pub loop-to-preserved : goal.loop-to-preserved
loop-to-preserved c =
    let q = c.args.position.now in
    let to = c.in-Some-to.to in
    let next = c.in-Some-to.ensures.steps.0 in
    record {
      so_far = between_next q c.args.from to c.loop-to.moves.items c.add_way.new.moves.items (c.args.moves.now.items ++ filter (is_legal_in q) (moves_from c.args.from)) _ _ c.loop-to.invariant.so_far next c.in_ok-add_way.ensures;
      ways = λ t inside. c.loop-to.invariant.ways t (rw next (Contains-cons_there to (squares_in c.next.new.self) t inside));
    }

pub returns : goal.returns
returns c =
    let q = c.args.position.now in
    let none = c.in-None.ensures.steps.0 in
    sym (append-nil c.loop-to.moves.items)
    ∙ ap (λ xs. c.loop-to.moves.items ++ filter (is_legal_in q) (flat_map (moves_between c.args.from) xs)) (sym none)
    ∙ c.loop-to.invariant.so_far
