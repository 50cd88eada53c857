use Rattle.std.proofs.Common.{◌≡◌, ◌<◌, length, None, slice_set, sym, ap, ◌∙◌, arith}
use Rattle.std.proofs.Common.{length-set}
use Rattle.cha_board.specs.MenSets.{sets_of}
use Rattle.cha_board.specs.declared.placement.Men.TheInside.{Inside}
use Rattle.cha_board.proofs.Tidiness.{sets_are_tidy, sets_show, sets_put, tidy, length-men_in, placed_all, same_inside}
use Rattle.cha_board.proofs.SetBits.{put_out}
use Rattle.cha_board.proofs.placement.Men.lifted.Goals as goal
use Rattle.cha_board.proofs.placement.Men.lifted.Goals.{After-without-8}

abbrev made : After-without-8 → Inside
made c = record {
  white = c.without.result;
  black = c.without-2.result;
  pawns = c.without-3.result;
  knights = c.without-4.result;
  bishops = c.without-5.result;
  rooks = c.without-6.result;
  queens = c.without-7.result;
  kings = c.without-8.result;
}

size : (c : After-without-8) → length c.args.self.now ≡ 64
size c = ap length (sym c.self.view_is) ∙ length-men_in c.self.inside

made_so : (c : After-without-8) → made c ≡ placed_all c.self.inside c.args.at None
made_so c =
    same_inside (made c) (placed_all c.self.inside c.args.at None)
    (c.without.ensures ∙ put_out c.self.inside.white c.args.at)
    (c.without-2.ensures ∙ put_out c.self.inside.black c.args.at)
    (c.without-3.ensures ∙ put_out c.self.inside.pawns c.args.at)
    (c.without-4.ensures ∙ put_out c.self.inside.knights c.args.at)
    (c.without-5.ensures ∙ put_out c.self.inside.bishops c.args.at)
    (c.without-6.ensures ∙ put_out c.self.inside.rooks c.args.at)
    (c.without-7.ensures ∙ put_out c.self.inside.queens c.args.at)
    (c.without-8.ensures ∙ put_out c.self.inside.kings c.args.at)

new : (c : After-without-8) → made c ≡ sets_of (slice_set c.args.self.now c.args.at None)
new c =
    let small : c.args.at < 64 = omega arith in
    let n = size c in
    made_so c ∙ sets_put c.self.inside c.args.self.now c.args.at None (omega (arith, small, n)) (tidy c.self.inside c.args.self.now c.self.view_is c.self.invariant)

pub invariant_of-result : goal.invariant_of-result
invariant_of-result c =
    sets_are_tidy (made c) (slice_set c.args.self.now c.args.at None) (length-set c.args.self.now c.args.at None ∙ size c) (new c)

pub returns : goal.returns
returns c =
    sets_show (made c) (slice_set c.args.self.now c.args.at None) (length-set c.args.self.now c.args.at None ∙ size c) (new c)
