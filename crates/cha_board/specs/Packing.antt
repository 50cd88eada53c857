-- Positions as five words of 64 bits (this project).
use Rattle.std.specs.Prelude.{◌≡◌, length, ℕ, ◌+◌, ◌*◌, ◌/◌, ◌%◌, ◌^◌, slice_index, Bool, ◌||◌, List, [], ◌∷◌, Option, Some, None, if◌then◌else◌}
use Rattle.cha_board.specs.declared.men.Color.{Color}
use Rattle.cha_board.specs.declared.men.Color.TheVariants.{White, Black}
use Rattle.cha_board.specs.declared.men.Kind.{Kind}
use Rattle.cha_board.specs.declared.men.Kind.TheVariants.{Pawn, Knight, Bishop, Rook, Queen, King}
use Rattle.cha_board.specs.declared.men.Man.{Man}
use Rattle.cha_board.specs.declared.position.Rights.{Rights}
use Rattle.cha_board.specs.Men.{is_of, is_kind}
use Rattle.cha_board.specs.Board.{Board, man_at}
use Rattle.cha_board.specs.SquareSets.{set_of, bits_of_set}

-- a man of one of three kinds stands there
abbrev pub is_of_three : Kind → Kind → Kind → Option Man → Bool
is_of_three a b c found = is_kind a found || is_kind b found || is_kind c found

-- the squares on which a man passes a test, as the bits of a number
abbrev pub bits_where : (Option Man → Bool) → List (Option Man) → ℕ
bits_where p men = bits_of_set (set_of (λ s. p (man_at men s)))

abbrev pub color_code : Color → ℕ
color_code White = 0
color_code Black = 1

abbrev pub bit_of : Bool → ℕ
bit_of b = if b then 1 else 0

abbrev pub target_code : Option ℕ → ℕ
target_code None = 0
target_code (Some s) = s + 1

-- the side, the rights and the target as one number
unfoldable pub state_number : Color → Rights → Option ℕ → ℕ
state_number side rights target =
    color_code side + 2 * (bit_of rights.white_king + 2 * (bit_of rights.white_queen + 2 * (bit_of rights.black_king + 2 * (bit_of rights.black_queen + 2 * target_code target))))

-- the five words of a position: the squares of Black's men, those where the first, the second and the third bit of the
-- kind's number is 1 (pawn 1, knight 2, bishop 3, rook 4, queen 5, king 6), and the rest
unfoldable pub words_of : Board → List ℕ
words_of q =
    bits_where (is_of Black) q.men ∷ bits_where (is_of_three Pawn Bishop Queen) q.men
    ∷ bits_where (is_of_three Knight Bishop King) q.men ∷ bits_where (is_of_three Rook Queen King) q.men
    ∷ state_number q.side q.rights q.target ∷ []

-- Four sets show these men: the squares of Black's, and those where the first, the second and the third bit of the kind's number
-- is 1.
pub record AreShown (black first second third : List Bool) (men : List (Option Man)) : Type 0 where
  pub size : length men ≡ 64
  pub black_men : black ≡ set_of (λ s. is_of Black (man_at men s))
  pub first_bit : first ≡ set_of (λ s. is_of_three Pawn Bishop Queen (man_at men s))
  pub second_bit : second ≡ set_of (λ s. is_of_three Knight Bishop King (man_at men s))
  pub third_bit : third ≡ set_of (λ s. is_of_three Rook Queen King (man_at men s))

-- a number with one word more: a product by an odd number whose bits are spread, its own upper half, and the word
unfoldable pub stirred_with : ℕ → ℕ → ℕ
stirred_with number word = (((number * 11400714819323198485) % 2 ^ 64 + number / 2 ^ 32) % 2 ^ 64 + word) % 2 ^ 64

-- five words as one number
unfoldable pub mixed_of : List ℕ → ℕ
mixed_of words =
    stirred_with (stirred_with (stirred_with (stirred_with (slice_index words 0) (slice_index words 1)) (slice_index words 2)) (slice_index words 3)) (slice_index words 4)
