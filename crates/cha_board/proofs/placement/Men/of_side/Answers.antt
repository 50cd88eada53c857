use Rattle.std.proofs.Common.{sym, ap, ◌∙◌}
use Rattle.cha_board.specs.Men.{is_of}
use Rattle.cha_board.specs.Board.{man_at}
use Rattle.cha_board.specs.SquareSets.{set_of}
use Rattle.cha_board.proofs.Tidiness.{tidy}
use Rattle.cha_board.proofs.placement.Men.of_side.Goals as goal

pub returns-in-White : goal.returns-in-White
returns-in-White c =
    ap (λ a. a.white) (tidy c.self.inside c.args.self.now c.self.view_is c.self.invariant)
    ∙ ap (λ k. set_of (λ s. is_of k (man_at c.args.self.now s))) (sym c.in-White.is)

pub returns-in-Black : goal.returns-in-Black
returns-in-Black c =
    ap (λ a. a.black) (tidy c.self.inside c.args.self.now c.self.view_is c.self.invariant)
    ∙ ap (λ k. set_of (λ s. is_of k (man_at c.args.self.now s))) (sym c.in-Black.is)
