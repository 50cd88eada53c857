use Rattle.std.proofs.Common.{◌≡◌, ◌==◌, length, sym, ap, ◌∙◌}
use Rattle.cha_board.specs.declared.men.Kind.TheVariants.{King}
use Rattle.cha_board.specs.Men.{is_man}
use Rattle.cha_board.specs.Board.{has_one_king}
use Rattle.cha_board.specs.SquareSets.{squares_in}
use Rattle.cha_board.proofs.Counting.{counted}
use Rattle.cha_board.proofs.Tidiness.{length-men_in}
use Rattle.cha_board.proofs.placement.Men.one_king.Goals as goal

pub returns : goal.returns
unfolding has_one_king
returns c =
    let size : length c.args.self.now ≡ 64 = ap length (sym c.self.view_is) ∙ length-men_in c.self.inside in
    ap (λ n. n == 1) (c.len.ensures.value ∙ ap (λ set. length (squares_in set)) c.of_kind.ensures ∙ counted c.args.self.now (is_man c.args.of King) size)
