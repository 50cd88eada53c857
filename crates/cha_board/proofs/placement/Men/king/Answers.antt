use Rattle.std.proofs.Common.{◌≡◌, length, slice_get, sym, ap, ◌∙◌}
use Rattle.cha_board.specs.SquareSets.{squares_in}
use Rattle.cha_board.proofs.Tidiness.{king_first, king_somewhere, length-men_in}
use Rattle.cha_board.proofs.placement.Men.king.Goals as goal

pub returns : goal.returns
returns c =
    let size : length c.args.self.now ≡ 64 = ap length (sym c.self.view_is) ∙ length-men_in c.self.inside in
    let first = sym (ap (λ set. slice_get (squares_in set) 0) c.of_kind.ensures) ∙ sym c.first.ensures ∙ c.in-Some.is in
    king_first c.args.self.now c.args.of c.in-Some.at size first

pub unreachable-requires : goal.unreachable-requires
unreachable-requires c =
    let size : length c.args.self.now ≡ 64 = ap length (sym c.self.view_is) ∙ length-men_in c.self.inside in
    let none = sym (ap (λ set. slice_get (squares_in set) 0) c.of_kind.ensures) ∙ sym c.first.ensures ∙ c.in-None.is in
    king_somewhere c.args.self.now c.args.of size c.requires none
