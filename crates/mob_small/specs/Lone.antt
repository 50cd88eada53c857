-- Lone minor pieces: a knight beside queens, and bishops of one colour beside rooks, queens and such bishops (this project).
use Rattle.std.specs.Prelude.{◌≡◌, ℕ, Bool, true, ◌&&◌, ◌||◌, List, Option}
use Rattle.cha_board.specs.declared.men.Color.{Color}
use Rattle.cha_board.specs.declared.men.Kind.TheVariants.{Knight, Bishop, Rook, Queen}
use Rattle.cha_board.specs.declared.men.Man.{Man}
use Rattle.cha_board.specs.Men.{other_color, same_color, is_man, is_non_king}
use Rattle.cha_board.specs.Squares.{color_of_square}
use Rattle.cha_board.specs.Board.{Board, man_at}
use Rattle.cha_moves.specs.Ends.{IsMated}
use Rattle.mob_small.specs.Small.{HasOneBeside}

-- each man of c beside its king passes a test of its square and of what stands there
abbrev pub HasOnly : List (Option Man) → Color → (ℕ → Option Man → Bool) → Type 0
HasOnly men c test = (u : ℕ) → is_non_king c (man_at men u) ≡ true → test u (man_at men u) ≡ true

-- a queen of c
abbrev pub is_queen : Color → ℕ → Option Man → Bool
is_queen c u man = is_man c Queen man

-- a bishop of c on a square of this colour
abbrev pub is_bishop_on : Color → Color → ℕ → Option Man → Bool
is_bishop_on square c u man = is_man c Bishop man && same_color (color_of_square u) square

-- a rook or a queen of c, or a bishop of c on a square of this colour
abbrev pub is_heavy_or_bishop_on : Color → Color → ℕ → Option Man → Bool
is_heavy_or_bishop_on square c u man = is_man c Rook man || is_man c Queen man || is_bishop_on square c u man

-- w has beside its king only bishops, on squares of this colour, and the other side only rooks, queens, and bishops on squares
-- of this colour; neither need have any
abbrev pub HasMenOn : Color → List (Option Man) → Color → Type 0
HasMenOn square men w = HasOnly men w (is_bishop_on square w) × HasOnly men (other_color w) (is_heavy_or_bishop_on square (other_color w))

-- this is so for one of the two colours of squares
abbrev pub HasOneColor : List (Option Man) → Color → Type 0
HasOneColor men w = (square : Color) × HasMenOn square men w

-- Lone minor pieces with which w cannot mate. Only the men named here stand beside the kings, so there is no pawn, and no kind
-- will ever change.
pub data IsLoneUnwinnable (p : Board) (w : Color) : Type 0 where
  -- w has one knight and no other man, and the other side queens or none,
  LoneKnight : HasOneBeside p.men w Knight → HasOnly p.men (other_color w) (is_queen (other_color w)) → IsLoneUnwinnable p w
  -- or the bishops of both sides stand on squares of one colour, and w has not mated already
  OneColor : HasOneColor p.men w → (IsMated p (other_color w) → ⊥) → IsLoneUnwinnable p w
