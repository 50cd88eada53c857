use Rattle.std.proofs.Common.{◌≡◌, sym, subst, ◌∙◌}
use Rattle.cha_board.specs.declared.men.Color.{Color}
use Rattle.cha_board.specs.Men.{same_color}
use Rattle.cha_board.specs.Squares.{color_of_square}
use Rattle.cha_board.specs.SquareSets.{set_of}
use Rattle.cha_board.proofs.Shifted.{colors_shown}
use Rattle.cha_board.proofs.sets.SquareSet.of_color.Goals as goal

pub returns-in-White : goal.returns-in-White
returns-in-White c =
    let P : Color → Type 0 = λ x. c.from_bits.result ≡ set_of (λ t. same_color (color_of_square t) x) in
    subst P (sym c.in-White.is) (c.from_bits.ensures ∙ colors_shown.0)

pub returns-in-Black : goal.returns-in-Black
returns-in-Black c =
    let P : Color → Type 0 = λ x. c.from_bits-in-Black.result ≡ set_of (λ t. same_color (color_of_square t) x) in
    subst P (sym c.in-Black.is) (c.from_bits-in-Black.ensures ∙ colors_shown.1)
