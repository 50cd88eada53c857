-- Where a man may go as far as its way is concerned, and what it may become there.
use Rattle.std.specs.Prelude.{ℕ, ◌==◌, Bool, not, ◌&&◌, ◌||◌, List, filter}
use Rattle.cha_board.specs.declared.men.Color.{Color}
use Rattle.cha_board.specs.declared.men.Kind.{Kind}
use Rattle.cha_board.specs.declared.men.Kind.TheVariants.{Pawn, King}
use Rattle.cha_board.specs.Men.{same_kind}
use Rattle.cha_board.specs.Squares.{rank_of, last_rank, aims_at}
use Rattle.cha_board.specs.Board.{Board, man_at, is_empty, is_home}
use Rattle.cha_moves.specs.Step.{Move}
use Rattle.cha_moves.specs.Moves.{is_step, is_double_step, goes_as, may_enter, is_legal_in, moves_between}

-- what stands on s is of the side to move and may go to t, whatever it becomes there (Laws of Chess, Articles 3.1 to 3.8)
unfoldable pub is_way : Board → ℕ → ℕ → Bool
is_way q s t = goes_as q s t (man_at q.men s) && may_enter q.side (man_at q.men t)

-- a man of c and kind k is promoted on t (Article 3.7.3.3)
abbrev pub is_promoted : Color → Kind → ℕ → Bool
is_promoted c k t = same_kind k Pawn && (rank_of t == last_rank c)

-- the legal moves from s to t (this project)
unfoldable pub legal_between : Board → ℕ → ℕ → List Move
legal_between q s t = filter (is_legal_in q) (moves_between s t)

-- nobody stands on t, and it is the home of no king and no rook
abbrev pub is_free : Board → ℕ → Bool
is_free q t = is_empty q.men t && not (is_home t)

-- a man of kind k that goes from s to t goes quietly: it goes alone onto a free square, and it is not promoted (this project)
unfoldable pub is_quiet : Board → Kind → ℕ → ℕ → Bool
is_quiet q Pawn s t = (is_free q t && (is_step q s t || is_double_step q s t)) && not (is_promoted q.side Pawn t)
is_quiet q King s t = is_free q t && aims_at q.side King s t
is_quiet q k s t = is_free q t
