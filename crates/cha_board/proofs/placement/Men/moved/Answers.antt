use Rattle.std.proofs.Common.{◌≡◌, ◌<◌, Bool, List, length, None, Some, slice_set, sym, ap, ◌∙◌, false, arith}
use Rattle.std.proofs.Common.{length-set}
use Rattle.cha_board.specs.SquareSets.{set_with, set_placed}
use Rattle.cha_board.specs.MenSets.{sets_of, set_changed}
use Rattle.cha_board.specs.declared.placement.Men.TheInside.{Inside}
use Rattle.cha_board.proofs.Tidiness.{sets_are_tidy, sets_show, tidy, length-men_in, placed_all, same_inside}
use Rattle.cha_board.proofs.Moving.{gone_of, onto_of, set_moved, sets_moved}
use Rattle.cha_board.proofs.placement.Men.moved.Goals as goal
use Rattle.cha_board.proofs.placement.Men.moved.Goals.{After-changed-8}

abbrev made : After-changed-8 → Inside
made c = record {
  white = c.changed.result;
  black = c.changed-2.result;
  pawns = c.changed-3.result;
  knights = c.changed-4.result;
  bishops = c.changed-5.result;
  rooks = c.changed-6.result;
  queens = c.changed-7.result;
  kings = c.changed-8.result;
}

size : (c : After-changed-8) → length c.args.self.now ≡ 64
size c = ap length (sym c.self.view_is) ∙ length-men_in c.self.inside

set_made : (c : After-changed-8) (set made : List Bool) (inside asked : Bool) → made ≡ set_changed set c.with-gone.result c.single-onto.result inside → inside ≡ asked
    → made ≡ set_placed (set_placed set c.args.from false) c.args.to asked
set_made c set made inside asked e i =
    let gone : c.with-gone.result ≡ gone_of c.args.from c.args.to = c.with-gone.ensures ∙ ap (λ x. set_with x c.args.to) c.single.ensures in
    e ∙ ap (λ x. set_changed set x c.single-onto.result inside) gone ∙ ap (λ x. set_changed set (gone_of c.args.from c.args.to) x inside) c.single-onto.ensures
    ∙ ap (set_changed set (gone_of c.args.from c.args.to) (onto_of c.args.to)) i ∙ set_moved set c.args.from c.args.to asked

made_so : (c : After-changed-8) → made c ≡ placed_all (placed_all c.self.inside c.args.from None) c.args.to (Some c.args.man)
made_so c =
    same_inside (made c) (placed_all (placed_all c.self.inside c.args.from None) c.args.to (Some c.args.man))
    (set_made c c.self.inside.white c.changed.result c.is.result _ c.changed.ensures c.is.ensures)
    (set_made c c.self.inside.black c.changed-2.result c.is-2.result _ c.changed-2.ensures c.is-2.ensures)
    (set_made c c.self.inside.pawns c.changed-3.result c.is-3.result _ c.changed-3.ensures c.is-3.ensures)
    (set_made c c.self.inside.knights c.changed-4.result c.is-4.result _ c.changed-4.ensures c.is-4.ensures)
    (set_made c c.self.inside.bishops c.changed-5.result c.is-5.result _ c.changed-5.ensures c.is-5.ensures)
    (set_made c c.self.inside.rooks c.changed-6.result c.is-6.result _ c.changed-6.ensures c.is-6.ensures)
    (set_made c c.self.inside.queens c.changed-7.result c.is-7.result _ c.changed-7.ensures c.is-7.ensures)
    (set_made c c.self.inside.kings c.changed-8.result c.is-8.result _ c.changed-8.ensures c.is-8.ensures)

new : (c : After-changed-8) → made c ≡ sets_of (slice_set (slice_set c.args.self.now c.args.from None) c.args.to (Some c.args.man))
new c =
    let n = size c in
    let from : c.args.from < 64 = omega arith in
    let to : c.args.to < 64 = omega arith in
    made_so c
    ∙ sets_moved c.self.inside c.args.self.now c.args.from c.args.to c.args.man (omega (arith, from, n)) (omega (arith, to, n)) (tidy c.self.inside c.args.self.now c.self.view_is c.self.invariant)

long : (c : After-changed-8) → length (slice_set (slice_set c.args.self.now c.args.from None) c.args.to (Some c.args.man)) ≡ 64
long c = length-set (slice_set c.args.self.now c.args.from None) c.args.to (Some c.args.man) ∙ length-set c.args.self.now c.args.from None ∙ size c

pub invariant_of-result : goal.invariant_of-result
invariant_of-result c = sets_are_tidy (made c) _ (long c) (new c)

pub returns : goal.returns
returns c = sets_show (made c) _ (long c) (new c)
