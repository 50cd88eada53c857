-- A side for which sets often show that it cannot mate (this project).
use Rattle.std.specs.Prelude.{Bool, not, ◌&&◌, List}
use Rattle.cha_board.specs.declared.men.Color.{Color}
use Rattle.cha_board.specs.declared.men.Kind.{Kind}
use Rattle.cha_board.specs.declared.men.Kind.TheVariants.{Pawn, Rook, Queen}
use Rattle.cha_board.specs.Men.{is_man}
use Rattle.cha_board.specs.Board.{Board, man_at, is_empty}
use Rattle.cha_board.specs.Shifts.{is_ahead}
use Rattle.cha_board.specs.SquareSets.{set_of, set_joined, set_minus, has_no_square}

-- the squares of the men of a side and a kind
abbrev pub men_as : Board → Color → Kind → List Bool
men_as p c k = set_of (λ s. is_man c k (man_at p.men s))

-- it has neither a queen nor a rook, nor a pawn with an empty square in front of it
unfoldable pub is_weak : Board → Color → Bool
is_weak p c =
    has_no_square (set_joined (men_as p c Queen) (men_as p c Rook))
    && has_no_square (set_minus (set_of (is_ahead c (men_as p c Pawn))) (set_of (λ s. not (is_empty p.men s))))
