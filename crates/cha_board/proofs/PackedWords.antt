-- The words of a position tell the position.
use Rattle.std.proofs.Common.{◌≡◌, ℕ, ◌+◌, ◌*◌, ◌<◌, Bool, true, false, ◌||◌, List, Option, Some, None, length, get_or, refl, sym, ap, ◌∙◌, arith}
use Rattle.std.proofs.lemmas.List.{ext_get_or}
use Rattle.cha_board.specs.declared.men.Color.{Color}
use Rattle.cha_board.specs.declared.men.Color.TheVariants.{White, Black}
use Rattle.cha_board.specs.declared.men.Kind.{Kind}
use Rattle.cha_board.specs.declared.men.Kind.TheVariants.{Pawn, Knight, Bishop, Rook, Queen, King}
use Rattle.cha_board.specs.declared.men.Man.{Man}
use Rattle.cha_board.specs.declared.position.Rights.{Rights}
use Rattle.cha_board.specs.Men.{is_of}
use Rattle.cha_board.specs.Board.{Board, man_at, IsValid}
use Rattle.cha_board.specs.SquareSets.{set_of, has_square, set_of_bits, set_joined}
use Rattle.cha_board.proofs.SetLaws.{same_set, has-set_of, set_of_bits-bits_of_set}
use Rattle.cha_board.specs.Packing.{is_of_three, bits_where, color_code, bit_of, target_code, state_number, words_of}

-- what the four bits of a square show
kind_shown : Bool → Bool → Bool → Option Kind
kind_shown true false false = Some Pawn
kind_shown false true false = Some Knight
kind_shown true true false = Some Bishop
kind_shown false false true = Some Rook
kind_shown true false true = Some Queen
kind_shown false true true = Some King
kind_shown _ _ _ = None

color_shown : Bool → Color
color_shown true = Black
color_shown false = White

man_shown : Color → Option Kind → Option Man
man_shown c None = None
man_shown c (Some k) = Some (record { color = c; kind = k })

abbrev shown : Bool → Bool → Bool → Bool → Option Man
shown b x y z = man_shown (color_shown b) (kind_shown x y z)

-- the man that a square's four bits show
abbrev shown_of : Option Man → Option Man
shown_of found = shown (is_of Black found) (is_of_three Pawn Bishop Queen found) (is_of_three Knight Bishop King found) (is_of_three Rook Queen King found)

shown_at : (c : Color) (k : Kind) → shown_of (Some (record { color = c; kind = k })) ≡ Some (record { color = c; kind = k })
unfolding kind_shown color_shown man_shown
shown_at White Pawn = refl
shown_at White Knight = refl
shown_at White Bishop = refl
shown_at White Rook = refl
shown_at White Queen = refl
shown_at White King = refl
shown_at Black Pawn = refl
shown_at Black Knight = refl
shown_at Black Bishop = refl
shown_at Black Rook = refl
shown_at Black Queen = refl
shown_at Black King = refl

shown_itself : (found : Option Man) → shown_of found ≡ found
unfolding kind_shown color_shown man_shown
shown_itself None = refl
shown_itself (Some man) = shown_at man.color man.kind

-- a word tells of each square whether its man passes the test
word_tells : (p : Option Man → Bool) (a b : List (Option Man)) → bits_where p a ≡ bits_where p b → (s : ℕ) → s < 64 → p (man_at a s) ≡ p (man_at b s)
word_tells p a b e s small =
    let sets = sym (set_of_bits-bits_of_set (λ s. p (man_at a s))) ∙ ap set_of_bits e ∙ set_of_bits-bits_of_set (λ s. p (man_at b s)) in
    sym (has-set_of (λ s. p (man_at a s)) s small) ∙ ap (λ set. has_square set s) sets ∙ has-set_of (λ s. p (man_at b s)) s small

-- four words tell the men
men_tell : (a b : List (Option Man)) → length a ≡ 64 → length b ≡ 64
    → bits_where (is_of Black) a ≡ bits_where (is_of Black) b
    → bits_where (is_of_three Pawn Bishop Queen) a ≡ bits_where (is_of_three Pawn Bishop Queen) b
    → bits_where (is_of_three Knight Bishop King) a ≡ bits_where (is_of_three Knight Bishop King) b
    → bits_where (is_of_three Rook Queen King) a ≡ bits_where (is_of_three Rook Queen King) b → a ≡ b
men_tell a b long long' black first second third =
    ext_get_or None a b (long ∙ sym long') (λ s inside.
    let small : s < 64 = omega (arith, inside, long) in
    let side = word_tells (is_of Black) a b black s small in
    let one = word_tells (is_of_three Pawn Bishop Queen) a b first s small in
    let two = word_tells (is_of_three Knight Bishop King) a b second s small in
    let three = word_tells (is_of_three Rook Queen King) a b third s small in
    sym (shown_itself (man_at a s)) ∙ (λ i. shown (side i) (one i) (two i) (three i)) ∙ shown_itself (man_at b s))

color_tells : (a b : Color) → color_code a ≡ color_code b → a ≡ b
color_tells White White e = refl
color_tells Black Black e = refl
color_tells White Black e = absurd (omega (arith, e))
color_tells Black White e = absurd (omega (arith, e))

pub color_small : (c : Color) → color_code c < 2
color_small White = omega arith
color_small Black = omega arith

bit_tells : (a b : Bool) → bit_of a ≡ bit_of b → a ≡ b
bit_tells true true e = refl
bit_tells false false e = refl
bit_tells true false e = absurd (omega (arith, e))
bit_tells false true e = absurd (omega (arith, e))

pub bit_small : (b : Bool) → bit_of b < 2
bit_small true = omega arith
bit_small false = omega arith

target_tells : (a b : Option ℕ) → target_code a ≡ target_code b → a ≡ b
target_tells None None e = refl
target_tells (Some s) (Some t) e = (let same : s ≡ t = omega (arith, e) in ap Some same)
target_tells None (Some t) e = absurd (omega (arith, e))
target_tells (Some s) None e = absurd (omega (arith, e))

halves : (a b x y : ℕ) → a < 2 → b < 2 → a + 2 * x ≡ b + 2 * y → (a ≡ b) × (x ≡ y)
halves a b x y small small' e = (omega arith, omega arith)

rights_same : (r s : Rights) → r.white_king ≡ s.white_king → r.white_queen ≡ s.white_queen → r.black_king ≡ s.black_king → r.black_queen ≡ s.black_queen → r ≡ s
rights_same r s e f g h = λ i. record { white_king = e i; white_queen = f i; black_king = g i; black_queen = h i }

-- the number of the rest tells the rest
pub state_tells : (c d : Color) (r s : Rights) (t u : Option ℕ) → state_number c r t ≡ state_number d s u → (c ≡ d) × (r ≡ s) × (t ≡ u)
unfolding state_number
state_tells c d r s t u e =
    let one = halves _ _ _ _ (color_small c) (color_small d) e in
    let two = halves _ _ _ _ (bit_small r.white_king) (bit_small s.white_king) one.1 in
    let three = halves _ _ _ _ (bit_small r.white_queen) (bit_small s.white_queen) two.1 in
    let four = halves _ _ _ _ (bit_small r.black_king) (bit_small s.black_king) three.1 in
    let five = halves _ _ _ _ (bit_small r.black_queen) (bit_small s.black_queen) four.1 in
    (color_tells c d one.0, rights_same r s (bit_tells _ _ two.0) (bit_tells _ _ three.0) (bit_tells _ _ four.0) (bit_tells _ _ five.0), target_tells t u five.1)

-- equal words are words of one position
pub words_tell : (a b : Board) → IsValid a → IsValid b → words_of a ≡ words_of b → a ≡ b
unfolding words_of
words_tell a b valid valid' e =
    let word = λ (n : ℕ). ap (λ ws. get_or ws n 0) e in
    let men = men_tell a.men b.men valid.size valid'.size (word 0) (word 1) (word 2) (word 3) in
    let rest = state_tells a.side b.side a.rights b.rights a.target b.target (word 4) in
    λ i. record { men = men i; side = rest.0 i; rights = rest.1 i; target = rest.2 i }

-- the squares of any of three sets
pub three_joined : (p q r : ℕ → Bool) → set_joined (set_joined (set_of p) (set_of q)) (set_of r) ≡ set_of (λ s. p s || q s || r s)
unfolding set_joined
three_joined p q r =
    same_set (λ s. has_square (set_of (λ s. has_square (set_of p) s || has_square (set_of q) s)) s || has_square (set_of r) s) (λ s. p s || q s || r s) (λ s small.
    rw (has-set_of (λ s. has_square (set_of p) s || has_square (set_of q) s) s small, has-set_of p s small, has-set_of q s small, has-set_of r s small) refl)
