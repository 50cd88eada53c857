use Rattle.std.proofs.Common.{◌+◌, ◌<◌, length, refl, ap, ◌∙◌, arith}
use Rattle.cha_board.specs.SquareSets.{squares_in}
use Rattle.cha_moves.proofs.Contained.{Contains-cons_here, Contains-cons_there}
use Rattle.cha_moves.proofs.Counted.{counted_from, counted_next}
use Rattle.cha_moves.proofs.ByKind.{legal_from, men_of, each_man, few_of_kind}
use Rattle.cha_moves.proofs.count.count_kind.Goals as goal

pub loop-from-init : goal.loop-from-init
loop-from-init c =
    let q = c.args.position.now in
    record {
      so_far = (let all = ap (λ xs. length (legal_from q (squares_in xs))) (c.into_iter-from-iterator.ensures.into_iter_gives ∙ c.men-from-items.ensures) in omega (arith, all));
      men = λ t inside. each_man q c.args.side c.args.kind t c.into_iter-from-iterator.result (c.into_iter-from-iterator.ensures.into_iter_gives ∙ c.men-from-items.ensures) inside;
    }

pub legal_ways_by-ways-requires-clause-man : goal.legal_ways_by-ways-requires-clause-man
legal_ways_by-ways-requires-clause-man c =
    let next = c.in-Some.ensures.steps.0 in
    c.loop-from.invariant.men c.in-Some.from (rw next (Contains-cons_here c.in-Some.from _ c.in-Some.from refl))

pub loop-from-preserved : goal.loop-from-preserved
loop-from-preserved c =
    let q = c.args.position.now in
    let from = c.in-Some.from in
    let small : from < 64 = omega arith in
    let next = c.in-Some.ensures.steps.0 in
    let found = c.loop-from.invariant.men from (rw next (Contains-cons_here from _ from refl)) in
    let last = c.promoting-last.ensures ∙ rw c.requires.side refl in
    let here = c.moves_to-count.ensures.value ∙ counted_from q from (record { color = c.args.side; kind = c.args.kind }) c.legal_ways_by-ways.result c.promoting-last.result c.known.ensures small found c.legal_ways_by-ways.ensures last in
    record {
      so_far = counted_next q c.loop-from.count c.moves_to-count.result (c.loop-from.count + c.moves_to-count.result) (length (legal_from q (squares_in (men_of q c.args.side c.args.kind)))) _ _ from c.loop-from.invariant.so_far next here refl;
      men = λ t inside. c.loop-from.invariant.men t (rw next (Contains-cons_there from (squares_in c.next.new.self) t inside));
    }

pub overflow_add-count : goal.overflow_add-count
overflow_add-count c =
    let few = few_of_kind c.args.position.now c.args.side c.args.kind c.requires.side in
    let most = c.moves_to-count.ensures.bound in
    let so_far = c.loop-from.invariant.so_far in
    omega (arith, few, most, so_far)

pub returns : goal.returns
returns c =
    let q = c.args.position.now in
    let none = ap (λ xs. length (legal_from q xs)) c.in-None.ensures.steps.0 in
    let so_far = c.loop-from.invariant.so_far in
    omega (arith, none, so_far)
