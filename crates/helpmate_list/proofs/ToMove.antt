-- Who is to move after a number of moves (this project).
use Rattle.std.specs.Prelude.{ℕ, zero, suc}
use Rattle.cha_board.specs.declared.men.Color.{Color}
use Rattle.cha_board.specs.Men.{other_color}

abbrev pub mover_after : Color → ℕ → Color
mover_after c zero = c
mover_after c (suc n) = other_color (mover_after c n)
