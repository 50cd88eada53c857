-- What a man aims at over squares of which some are occupied (Laws of Chess, Articles 3.1 to 3.8).
use Rattle.std.specs.Prelude.{ℕ, Bool, not, ◌&&◌, ◌||◌, List, Option, ltb}
use Rattle.std.specs.List.{list_all, list_any}
use Rattle.cha_board.specs.declared.men.Color.{Color}
use Rattle.cha_board.specs.declared.men.Kind.{Kind}
use Rattle.cha_board.specs.declared.men.Kind.TheVariants.{Pawn, Knight, Bishop, Rook, Queen, King}
use Rattle.cha_board.specs.declared.men.Man.{Man}
use Rattle.cha_board.specs.Men.{is_man}
use Rattle.cha_board.specs.Board.{man_at, is_clear}
use Rattle.cha_board.specs.Squares.{squares, aims_at, between}
use Rattle.cha_board.specs.SquareSets.{set_of, has_square}

-- no occupied square lies between two squares
unfoldable pub is_open : List Bool → ℕ → ℕ → Bool
is_open occupied s t = list_all (λ u. not (has_square occupied u)) (between s t)

-- a man of c and kind k on s aims at t, and no occupied square lies between them (Laws of Chess, Article 3.5)
unfoldable pub aims_over : Color → Kind → ℕ → List Bool → ℕ → Bool
aims_over c k s occupied t = aims_at c k s t && is_open occupied s t

-- the squares at which a man of c and kind k on s aims, where these squares are occupied
unfoldable pub aimed : Color → Kind → ℕ → List Bool → List Bool
aimed c k s occupied = set_of (aims_over c k s occupied)

-- u is an occupied square of a ray and comes before t
abbrev pub stops_before : List Bool → List Bool → ℕ → ℕ → Bool
stops_before ray occupied t u = ltb u t && (has_square ray u && has_square occupied u)

-- the squares of a ray up to the first occupied one, where the ray goes up in the order of squares
unfoldable pub seen_up : List Bool → List Bool → List Bool
seen_up ray occupied = set_of (λ t. has_square ray t && not (list_any (stops_before ray occupied t) squares))

-- u is an occupied square of a ray and comes behind t
abbrev pub stops_behind : List Bool → List Bool → ℕ → ℕ → Bool
stops_behind ray occupied t u = ltb t u && (has_square ray u && has_square occupied u)

-- the squares of a ray down to the first occupied one, where the ray goes down in the order of squares
unfoldable pub seen_down : List Bool → List Bool → List Bool
seen_down ray occupied = set_of (λ t. has_square ray t && not (list_any (stops_behind ray occupied t) squares))

-- a man of c and kind k on s attacks t (Laws of Chess, Article 3.1.2)
abbrev pub strikes_from : List (Option Man) → Color → Kind → ℕ → ℕ → Bool
strikes_from men c k t s = is_man c k (man_at men s) && (aims_at c k s t && is_clear men s t)

-- some man of c and kind k attacks t
unfoldable pub struck_by : List (Option Man) → Color → Kind → ℕ → Bool
struck_by men c k t = list_any (strikes_from men c k t) squares

-- men of c of some kind attack t
unfoldable pub struck_somehow : List (Option Man) → Color → ℕ → Bool
struck_somehow men c t =
    struck_by men c Pawn t || struck_by men c Knight t || struck_by men c King t || struck_by men c Bishop t || struck_by men c Rook t || struck_by men c Queen t
