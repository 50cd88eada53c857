-- From which squares, and onto which, the move of a word may go (this project).
use Rattle.std.specs.Prelude.{ℕ, ◌==◌, Bool, not, ◌&&◌, ◌||◌}
use Rattle.cha_board.specs.declared.men.Color.{Color}
use Rattle.cha_board.specs.declared.men.Kind.{Kind}
use Rattle.cha_board.specs.declared.men.Kind.TheVariants.{Pawn, Rook, King}
use Rattle.cha_board.specs.declared.castling.Wing.TheVariants.{Kingside, Queenside}
use Rattle.cha_board.specs.Men.{other_color, same_kind, is_man}
use Rattle.cha_board.specs.Squares.{rank_of, aims_at}
use Rattle.cha_board.specs.Board.{Board, man_at, goal_of}
use Rattle.cha_moves.specs.Step.{Move}
use Rattle.cha_moves.specs.Moves.{is_legal_in}
use Rattle.cha_san.specs.declared.forms.Form.{Form}
use Rattle.cha_san.specs.declared.forms.Form.TheVariants.{Short, Long, Plain}
use Rattle.cha_san.specs.Fitting.{fits}

-- a legal move that fits
abbrev pub names : Board → Form → Move → Bool
names q form m = fits q form m && is_legal_in q m

-- the square that the move enters
abbrev pub target_of : Board → Form → ℕ
target_of q Short = goal_of q.side Kingside
target_of q Long = goal_of q.side Queenside
target_of q (Plain p) = p.to

-- s is on another rank of t's file, seen from t as a rook of the other side sees it
unfoldable pub comes_along : Color → ℕ → ℕ → Bool
comes_along c t s = aims_at (other_color c) Rook t s && not (rank_of s == rank_of t)

-- a man of c and kind k may come from s to t: one of the other side aims back from there, or it is a pawn that steps
unfoldable pub may_come : Color → Kind → ℕ → ℕ → Bool
may_come c k t s = aims_at (other_color c) k t s || (same_kind k Pawn && comes_along c t s)

-- the man on s may make the move
unfoldable pub is_source : Board → Form → ℕ → Bool
is_source q Short s = is_man q.side King (man_at q.men s)
is_source q Long s = is_man q.side King (man_at q.men s)
is_source q (Plain p) s = is_man q.side p.kind (man_at q.men s) && may_come q.side p.kind p.to s
