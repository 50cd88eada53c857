-- What stands on the squares, as one set of squares for each colour and one for each kind (this project).
use Rattle.std.specs.Prelude.{◌≡◌, ℕ, Bool, List, Option, Some, None, map, if◌then◌else◌}
use Rattle.cha_board.specs.declared.men.Color.TheVariants.{White, Black}
use Rattle.cha_board.specs.declared.men.Kind.{Kind}
use Rattle.cha_board.specs.declared.men.Kind.TheVariants.{Pawn, Knight, Bishop, Rook, Queen, King}
use Rattle.cha_board.specs.declared.men.Man.{Man}
use Rattle.cha_board.specs.declared.placement.Men.TheInside.{Inside}
use Rattle.cha_board.specs.Men.{is_of, is_kind}
use Rattle.cha_board.specs.Board.{man_at}
use Rattle.cha_board.specs.Squares.{squares}
use Rattle.cha_board.specs.SquareSets.{set_of, has_square, set_joined, set_minus}

-- the first kind whose set has a square, a king where no other has it
abbrev pub first_kind : Bool → Bool → Bool → Bool → Bool → Kind
first_kind pawn knight bishop rook queen =
    if pawn then Pawn else (if knight then Knight else (if bishop then Bishop else (if rook then Rook else (if queen then Queen else King))))

-- the man on a square of the white or of the black set
abbrev pub man_of : Bool → Bool → Kind → Option Man
man_of white black kind =
    if white then Some (record { color = White; kind = kind }) else (if black then Some (record { color = Black; kind = kind }) else None)

-- what the sets show on a square
unfoldable pub man_in : Inside → ℕ → Option Man
man_in a s =
    man_of (has_square a.white s) (has_square a.black s)
    (first_kind (has_square a.pawns s) (has_square a.knights s) (has_square a.bishops s) (has_square a.rooks s) (has_square a.queens s))

-- the men that the sets show
abbrev pub men_in : Inside → List (Option Man)
men_in a = map (man_in a) squares

-- a set without the squares that are gone, and with others where they are inside
abbrev pub set_changed : List Bool → List Bool → List Bool → Bool → List Bool
set_changed set gone onto inside = if inside then set_joined (set_minus set gone) onto else set_minus set gone

-- the squares of the men of a kind
abbrev pub kind_set : List (Option Man) → Kind → List Bool
kind_set men k = set_of (λ s. is_kind k (man_at men s))

-- the sets of men
abbrev pub sets_of : List (Option Man) → Inside
sets_of men = record {
  white = set_of (λ s. is_of White (man_at men s));
  black = set_of (λ s. is_of Black (man_at men s));
  pawns = kind_set men Pawn;
  knights = kind_set men Knight;
  bishops = kind_set men Bishop;
  rooks = kind_set men Rook;
  queens = kind_set men Queen;
  kings = kind_set men King;
}

-- The sets are those of the men that they show.
pub record AreTidy (a : Inside) : Type 0 where
  pub same : sets_of (men_in a) ≡ a
