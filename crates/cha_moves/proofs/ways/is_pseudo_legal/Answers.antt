use Rattle.std.proofs.Common.{◌<◌, ◌&&◌, sym, ap, ◌∙◌}
use Rattle.std.proofs.lemmas.Bool.{and_left}
use Rattle.cha_board.specs.SquareSets.{set_of, has_square}
use Rattle.cha_moves.specs.Step.{Move}
use Rattle.cha_moves.specs.Moves.{promotes_well}
use Rattle.cha_moves.specs.Ways.{is_way}
use Rattle.cha_moves.proofs.Arriving.{is_pseudo, no_pseudo}
use Rattle.cha_moves.proofs.ways.is_pseudo_legal.Goals as goal

pub returns-in-None : goal.returns-in-None
returns-in-None c =
    let m : Move = record { from = c.m.inside.from; to = c.m.inside.to; promotion = c.m.inside.promotion } in
    rw (← c.m.view_is) (no_pseudo c.args.position.now m (sym c.man.ensures ∙ c.in-None.is))

pub returns-then-promotes_well : goal.returns-then-promotes_well
returns-then-promotes_well c =
    let q = c.args.position.now in
    let m : Move = record { from = c.m.inside.from; to = c.m.inside.to; promotion = c.m.inside.promotion } in
    let small : m.to < 64 = rw (← c.m.view_is) at c.known.ensures.to in
    let well = ap (λ x. promotes_well x c.in-Some.man.kind m.to m.promotion) (sym c.side.ensures) ∙ sym c.promotes_well.ensures ∙ c.if-promotes_well.true in
    let test = is_pseudo q m c.in-Some.man small (sym c.man.ensures ∙ c.in-Some.is) in
    rw (← c.m.view_is) (c.has.ensures ∙ rw c.ways_of.ensures (ap (λ b. b && has_square (set_of (is_way q m.from)) m.to) (sym well) ∙ test))

pub returns-else-promotes_well : goal.returns-else-promotes_well
returns-else-promotes_well c =
    let q = c.args.position.now in
    let m : Move = record { from = c.m.inside.from; to = c.m.inside.to; promotion = c.m.inside.promotion } in
    let small : m.to < 64 = rw (← c.m.view_is) at c.known.ensures.to in
    let unwell = ap (λ x. promotes_well x c.in-Some.man.kind m.to m.promotion) (sym c.side.ensures) ∙ sym c.promotes_well.ensures ∙ c.if-promotes_well.false in
    let test = is_pseudo q m c.in-Some.man small (sym c.man.ensures ∙ c.in-Some.is) in
    rw (← c.m.view_is) (c.if-promotes_well.false ∙ sym (and_left (promotes_well q.side c.in-Some.man.kind m.to m.promotion) (has_square (set_of (is_way q m.from)) m.to) unwell) ∙ test)
