-- Mate, stalemate, and lines of legal moves that mate.
use Rattle.std.specs.Prelude.{◌≡◌, ℕ, ◌≤◌, not, List, [], ◌∷◌, length, IsTrue, Contains}
use Rattle.cha_board.specs.declared.men.Color.{Color}
use Rattle.cha_board.specs.Men.{other_color}
use Rattle.cha_board.specs.Board.{Board, in_check}
use Rattle.cha_moves.specs.Step.{Move}
use Rattle.cha_moves.specs.Moves.{after, legal}

-- the loser is to move, its king is attacked, and it has no legal move (Laws of Chess, Article 5.1.1)
pub record IsMated (q : Board) (loser : Color) : Type 0 where
  pub to_move : q.side ≡ loser
  pub check : IsTrue (in_check q.men loser)
  pub stuck : legal q ≡ []

-- the side to move is not attacked at its king and has no legal move (Article 5.2.1)
pub record IsStalemated (q : Board) : Type 0 where
  pub free : IsTrue (not (in_check q.men q.side))
  pub stuck : legal q ≡ []

-- a list of moves, each legal in its turn, after which the winner's opponent is mated: a helpmate
abbrev pub IsMatingLine : Board → Color → List Move → Type 0
IsMatingLine q winner [] = IsMated q (other_color winner)
IsMatingLine q winner (m ∷ rest) = Contains (legal q) m × IsMatingLine (after q m) winner rest

-- no series of legal moves mates for the winner (Articles 5.2.2 and 6.9)
abbrev pub IsUnwinnable : Board → Color → Type 0
IsUnwinnable q winner = (ms : List Move) → IsMatingLine q winner ms → ⊥

-- no list of at most d legal moves does
abbrev pub HasNoMateWithin : Board → Color → ℕ → Type 0
HasNoMateWithin q winner d = (ms : List Move) → length ms ≤ d → IsMatingLine q winner ms → ⊥
