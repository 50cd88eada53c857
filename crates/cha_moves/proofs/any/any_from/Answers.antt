use Rattle.std.proofs.Common.{refl, sym, ap, ◌∙◌}
use Rattle.std.specs.List.{filter, flat_map}
use Rattle.cha_board.specs.Men.{is_of}
use Rattle.cha_board.specs.SquareSets.{squares_in}
use Rattle.cha_board.proofs.SetLaws.{squares_from_first, no_first_square}
use Rattle.cha_moves.specs.Moves.{is_legal_in, moves_between, moves_from}
use Rattle.cha_moves.proofs.Contained.{Contains-cons_here}
use Rattle.cha_moves.proofs.WayLaws.{no_own_move, between_found}
use Rattle.cha_moves.proofs.GoingLegally.{legal_by_goings, each_goes, some_between}
use Rattle.cha_moves.proofs.any.any_from.Goals as goal

pub returns-in_default-clause-none : goal.returns-in_default-clause-none
returns-in_default-clause-none c =
    let q = c.args.position.now in
    no_own_move q c.args.from (ap (is_of q.side) (sym c.man.ensures ∙ c.in_default.is))

pub returns-in-None-clause-none : goal.returns-in-None-clause-none
returns-in-None-clause-none c =
    let q = c.args.position.now in
    let none = no_first_square c.legal_ways.result (sym c.first.ensures ∙ c.in-None.is) in
    sym (legal_by_goings q c.args.from) ∙ ap (λ xs. filter (is_legal_in q) (flat_map (moves_between c.args.from) xs)) (ap squares_in (sym c.legal_ways.ensures) ∙ none)

pub returns-in-Some-first-clause-some : goal.returns-in-Some-first-clause-some
returns-in-Some-first-clause-some c =
    let q = c.args.position.now in
    let t = c.in-Some-first._to in
    let next = squares_from_first c.legal_ways.result t (sym c.first.ensures ∙ c.in-Some-first.is) in
    let goes = each_goes q c.args.from t c.legal_ways.result c.legal_ways.ensures (rw next (Contains-cons_here t _ t refl)) in
    between_found q c.args.from t (filter (is_legal_in q) (moves_from c.args.from)) _ _
    (sym (legal_by_goings q c.args.from) ∙ ap (λ xs. filter (is_legal_in q) (flat_map (moves_between c.args.from) (squares_in xs))) (sym c.legal_ways.ensures)) next (some_between q c.args.from t goes)
