-- The words of a valid position show its men, and its state.
use Rattle.std.proofs.Common.{◌≡◌, ℕ, ◌/◌, ◌<◌, Bool, true, false, ◌&&◌, List, Option, Some, None, get_or, refl, sym, ap, subst, ◌∙◌, arith}
use Rattle.std.proofs.lemmas.Bool.{eqb-true}
use Rattle.cha_board.specs.declared.men.Color.{Color}
use Rattle.cha_board.specs.declared.men.Color.TheVariants.{White, Black}
use Rattle.cha_board.specs.declared.men.Kind.TheVariants.{Pawn, Knight, Bishop, Rook, Queen, King}
use Rattle.cha_board.specs.declared.men.Man.{Man}
use Rattle.cha_board.specs.declared.position.Rights.{Rights}
use Rattle.cha_board.specs.Men.{is_of}
use Rattle.cha_board.specs.Board.{Board, man_at, target_fits, IsValid}
use Rattle.cha_board.specs.SquareSets.{set_of, set_of_bits}
use Rattle.cha_board.specs.Packing.{is_of_three, bits_where, target_code, state_number, words_of, AreShown}
use Rattle.cha_board.proofs.PackedWords.{color_small, bit_small, state_tells}
use Rattle.cha_board.proofs.SetLaws.{set_of_bits-bits_of_set}

first_of_four : (a b c d : Bool) → (a && b && c && d) ≡ true → a ≡ true
first_of_four true b c d h = refl
first_of_four false b c d h = h

fits_small : (men : List (Option Man)) (c : Color) (s : ℕ) → target_fits men c s ≡ true → s < 64
unfolding target_fits
fits_small men White s h = let e : s / 8 ≡ 5 = eqb-true (s / 8) 5 (first_of_four _ _ _ _ h) in omega arith
fits_small men Black s h = let e : s / 8 ≡ 2 = eqb-true (s / 8) 2 (first_of_four _ _ _ _ h) in omega arith

-- the target of a valid position is a square
pub small_target : (q : Board) (s : ℕ) → IsValid q → q.target ≡ Some s → s < 64
small_target q s v e = fits_small q.men q.side s (rw e at v.target)

-- the squares that a word of a position shows
word_shows : (p : Option Man → Bool) (q : Board) (words : List ℕ) (n : ℕ) (set : List Bool) → set ≡ set_of_bits (get_or words n 0) → words ≡ words_of q
    → get_or (words_of q) n 0 ≡ bits_where p q.men → set ≡ set_of (λ s. p (man_at q.men s))
word_shows p q words n set shown e at =
    shown ∙ ap (λ ws. set_of_bits (get_or ws n 0)) e ∙ ap set_of_bits at ∙ set_of_bits-bits_of_set (λ s. p (man_at q.men s))

-- four words show the men
pub words_show : (q : Board) (words : List ℕ) (black first second third : List Bool) → IsValid q → words ≡ words_of q
    → black ≡ set_of_bits (get_or words 0 0) → first ≡ set_of_bits (get_or words 1 0) → second ≡ set_of_bits (get_or words 2 0) → third ≡ set_of_bits (get_or words 3 0)
    → AreShown black first second third q.men
unfolding words_of
words_show q words black first second third valid e b x y z = record {
  size = valid.size;
  black_men = word_shows (is_of Black) q words 0 black b e refl;
  first_bit = word_shows (is_of_three Pawn Bishop Queen) q words 1 first x e refl;
  second_bit = word_shows (is_of_three Knight Bishop King) q words 2 second y e refl;
  third_bit = word_shows (is_of_three Rook Queen King) q words 3 third z e refl;
}

target_bound : (q : Board) (t : Option ℕ) → IsValid q → q.target ≡ t → target_code t < 65
target_bound q None valid e = omega arith
target_bound q (Some s) valid e = (let small = small_target q s valid e in omega (arith, small))

-- the number of the state is small
state_small : (q : Board) → IsValid q → state_number q.side q.rights q.target < 2080
unfolding state_number
state_small q valid =
    omega (arith, color_small q.side, bit_small q.rights.white_king, bit_small q.rights.white_queen, bit_small q.rights.black_king, bit_small q.rights.black_queen, target_bound q q.target valid refl)

pub word_small : (q : Board) (words : List ℕ) → IsValid q → words ≡ words_of q → get_or words 4 0 < 2080
unfolding words_of
word_small q words valid e = subst (λ ws. get_or ws 4 0 < 2080) (sym e) (state_small q valid)

-- what its five words show is the position
pub shown_again : (q : Board) (words : List ℕ) (men : List (Option Man)) (side : Color) (rights : Rights) (target : Option ℕ) → words ≡ words_of q → men ≡ q.men
    → state_number side rights target ≡ get_or words 4 0 → record { men = men; side = side; rights = rights; target = target } ≡ q
unfolding words_of
shown_again q words men side rights target e same told =
    let rest = state_tells side q.side rights q.rights target q.target (told ∙ ap (λ ws. get_or ws 4 0) e) in
    λ i. record { men = same i; side = rest.0 i; rights = rest.1 i; target = rest.2 i }
