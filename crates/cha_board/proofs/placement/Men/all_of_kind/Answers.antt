use Rattle.std.proofs.Common.{sym, ap, ◌∙◌}
use Rattle.cha_board.specs.Men.{is_kind}
use Rattle.cha_board.specs.Board.{man_at}
use Rattle.cha_board.specs.SquareSets.{set_of}
use Rattle.cha_board.proofs.Tidiness.{tidy}
use Rattle.cha_board.proofs.placement.Men.all_of_kind.Goals as goal

pub returns-in-Pawn : goal.returns-in-Pawn
returns-in-Pawn c =
    ap (λ a. a.pawns) (tidy c.self.inside c.args.self.now c.self.view_is c.self.invariant)
    ∙ ap (λ k. set_of (λ s. is_kind k (man_at c.args.self.now s))) (sym c.in-Pawn.is)

pub returns-in-Knight : goal.returns-in-Knight
returns-in-Knight c =
    ap (λ a. a.knights) (tidy c.self.inside c.args.self.now c.self.view_is c.self.invariant)
    ∙ ap (λ k. set_of (λ s. is_kind k (man_at c.args.self.now s))) (sym c.in-Knight.is)

pub returns-in-Bishop : goal.returns-in-Bishop
returns-in-Bishop c =
    ap (λ a. a.bishops) (tidy c.self.inside c.args.self.now c.self.view_is c.self.invariant)
    ∙ ap (λ k. set_of (λ s. is_kind k (man_at c.args.self.now s))) (sym c.in-Bishop.is)

pub returns-in-Rook : goal.returns-in-Rook
returns-in-Rook c =
    ap (λ a. a.rooks) (tidy c.self.inside c.args.self.now c.self.view_is c.self.invariant)
    ∙ ap (λ k. set_of (λ s. is_kind k (man_at c.args.self.now s))) (sym c.in-Rook.is)

pub returns-in-Queen : goal.returns-in-Queen
returns-in-Queen c =
    ap (λ a. a.queens) (tidy c.self.inside c.args.self.now c.self.view_is c.self.invariant)
    ∙ ap (λ k. set_of (λ s. is_kind k (man_at c.args.self.now s))) (sym c.in-Queen.is)

pub returns-in-King : goal.returns-in-King
returns-in-King c =
    ap (λ a. a.kings) (tidy c.self.inside c.args.self.now c.self.view_is c.self.invariant)
    ∙ ap (λ k. set_of (λ s. is_kind k (man_at c.args.self.now s))) (sym c.in-King.is)
