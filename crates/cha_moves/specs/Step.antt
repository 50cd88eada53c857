-- A move.
use Rattle.std.specs.Prelude.{ℕ, Option}
use Rattle.cha_board.specs.declared.men.Kind.{Kind}

-- Where a man goes from and to, and what a pawn becomes. Castling is the king's move of two files.
pub record Move : Type 0 where
  pub from : ℕ
  pub to : ℕ
  pub promotion : Option Kind
