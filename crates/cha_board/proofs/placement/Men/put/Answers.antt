use Rattle.std.proofs.Common.{◌≡◌, ◌<◌, length, slice_set, sym, ap, ◌∙◌, arith}
use Rattle.std.proofs.Common.{length-set}
use Rattle.cha_board.specs.SquareSets.{set_placed}
use Rattle.cha_board.specs.MenSets.{sets_of}
use Rattle.cha_board.specs.declared.placement.Men.TheInside.{Inside}
use Rattle.cha_board.proofs.Tidiness.{sets_are_tidy, sets_show, sets_put, tidy, length-men_in, placed_all, same_inside}
use Rattle.cha_board.proofs.placement.Men.put.Goals as goal
use Rattle.cha_board.proofs.placement.Men.put.Goals.{After-placed-8}

abbrev made : After-placed-8 → Inside
made c = record {
  white = c.placed.result;
  black = c.placed-2.result;
  pawns = c.placed-3.result;
  knights = c.placed-4.result;
  bishops = c.placed-5.result;
  rooks = c.placed-6.result;
  queens = c.placed-7.result;
  kings = c.placed-8.result;
}

size : (c : After-placed-8) → length c.args.self ≡ 64
size c = ap length (sym c.self.view_is) ∙ length-men_in c.self.inside

made_so : (c : After-placed-8) → made c ≡ placed_all c.self.inside c.args.at c.args.found
made_so c =
    same_inside (made c) (placed_all c.self.inside c.args.at c.args.found)
    (c.placed.ensures ∙ ap (set_placed c.self.inside.white c.args.at) c.is_of_side.ensures)
    (c.placed-2.ensures ∙ ap (set_placed c.self.inside.black c.args.at) c.is_of_side-2.ensures)
    (c.placed-3.ensures ∙ ap (set_placed c.self.inside.pawns c.args.at) c.is_of_kind.ensures)
    (c.placed-4.ensures ∙ ap (set_placed c.self.inside.knights c.args.at) c.is_of_kind-2.ensures)
    (c.placed-5.ensures ∙ ap (set_placed c.self.inside.bishops c.args.at) c.is_of_kind-3.ensures)
    (c.placed-6.ensures ∙ ap (set_placed c.self.inside.rooks c.args.at) c.is_of_kind-4.ensures)
    (c.placed-7.ensures ∙ ap (set_placed c.self.inside.queens c.args.at) c.is_of_kind-5.ensures)
    (c.placed-8.ensures ∙ ap (set_placed c.self.inside.kings c.args.at) c.is_of_kind-6.ensures)

new : (c : After-placed-8) → made c ≡ sets_of (slice_set c.args.self c.args.at c.args.found)
new c =
    let small : c.args.at < 64 = omega arith in
    let n = size c in
    made_so c ∙ sets_put c.self.inside c.args.self c.args.at c.args.found (omega (arith, small, n)) (tidy c.self.inside c.args.self c.self.view_is c.self.invariant)

pub invariant_of-result : goal.invariant_of-result
invariant_of-result c =
    sets_are_tidy (made c) (slice_set c.args.self c.args.at c.args.found) (length-set c.args.self c.args.at c.args.found ∙ size c) (new c)

pub returns : goal.returns
returns c =
    sets_show (made c) (slice_set c.args.self c.args.at c.args.found) (length-set c.args.self c.args.at c.args.found ∙ size c) (new c)
