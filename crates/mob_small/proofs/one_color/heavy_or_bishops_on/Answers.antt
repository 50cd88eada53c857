-- The rooks and queens, and the bishops on squares of a colour.
use Rattle.std.proofs.Common.{ℕ, Bool, ◌||◌, ◌∙◌}
use Rattle.cha_board.specs.declared.men.Kind.TheVariants.{Rook, Queen}
use Rattle.cha_board.specs.Men.{is_man}
use Rattle.cha_board.specs.Board.{man_at}
use Rattle.mob_small.specs.Lone.{is_bishop_on}
use Rattle.cha_moves.proofs.Goings.{joined_of}
use Rattle.mob_small.proofs.one_color.heavy_or_bishops_on.Goals as goal

pub returns : goal.returns
returns c =
    let rook : ℕ → Bool = λ u. is_man c.args.of Rook (man_at c.args.position.now.men u) in
    let queen : ℕ → Bool = λ u. is_man c.args.of Queen (man_at c.args.position.now.men u) in
    let bishop : ℕ → Bool = λ u. is_bishop_on c.args.square c.args.of u (man_at c.args.position.now.men u) in
    c.joined-2.ensures ∙ rw (c.joined.ensures, c.men.ensures, c.men-2.ensures, c.bishops_on.ensures, joined_of rook queen) (joined_of (λ u. rook u || queen u) bishop)
