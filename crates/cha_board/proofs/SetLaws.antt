-- Laws of sets of squares.
use Rattle.std.specs.Prelude.{ℕ, ◌==◌, ◌<◌, ◌≤◌, Bool, true, false, not, ◌&&◌, cond, List, [], ◌∷◌, length, filter, Some, None, slice_get, refl}
use Rattle.std.specs.List.{range_with_len}
use Rattle.std.specs.Int.{bit_at}
use Rattle.std.proofs.Common.{◌≡◌, ◌+◌, ◌∙◌, sym, ap, arith, zero, suc}
use Rattle.std.proofs.lemmas.Bool.{eq-eqb, ne_eqb}
use Rattle.std.proofs.lemmas.List.{ext_get_or}
use Rattle.cha_board.specs.Squares.{squares}
pub use Rattle.cha_board.specs.SetNumbers.{one_if, length-set_of, has-set_of, bit_at-bits_of_set, bits_of_set-set_of_bits}
use Rattle.cha_board.specs.SquareSets.{set_of, has_square, set_of_bits, bits_of_set, squares_in, set_without}

-- two lists of 64 truth values with the same squares are one set
pub same_squares : (a b : List Bool) → length a ≡ 64 → length b ≡ 64 → ((s : ℕ) → s < 64 → has_square a s ≡ has_square b s) → a ≡ b
same_squares a b long long' same = ext_get_or false a b (long ∙ sym long') (λ s inside. same s (omega arith))

-- two tests that agree at each square make one set
pub same_set : (p q : ℕ → Bool) → ((s : ℕ) → s < 64 → p s ≡ q s) → set_of p ≡ set_of q
same_set p q same =
    same_squares (set_of p) (set_of q) (length-set_of p) (length-set_of q) (λ s small. has-set_of p s small ∙ same s small ∙ sym (has-set_of q s small))

pub test_of_one_if : (b : Bool) → (one_if b == 1) ≡ b
test_of_one_if true = refl
test_of_one_if false = refl

-- the set of the bits of a set's number is that set
pub set_of_bits-bits_of_set : (p : ℕ → Bool) → set_of_bits (bits_of_set (set_of p)) ≡ set_of p
set_of_bits-bits_of_set p =
    same_set (λ s. bit_at (bits_of_set (set_of p)) s == 1) p (λ s small.
    ap (λ n. n == 1) (bit_at-bits_of_set (set_of p) s) ∙ test_of_one_if (has_square (set_of p) s) ∙ has-set_of p s small)

-- tests that agree from a number on keep the same of what comes from there on
pub kept_alike : (p q : ℕ → Bool) (a n : ℕ) → ((k : ℕ) → a ≤ k → k < a + n → p k ≡ q k) → filter p (range_with_len a n) ≡ filter q (range_with_len a n)
kept_alike p q a zero same = refl
kept_alike p q a (suc n) same =
    let rest = kept_alike p q (a + 1) n (λ k low high. same k (omega (arith, low)) (omega (arith, high))) in
    rw (same a (omega arith) (omega arith), rest) refl

and_no : (b : Bool) → (not b && false) ≡ false
and_no true = refl
and_no false = refl

first_split : (p q : ℕ → Bool) (a n s : ℕ) (b : Bool) → p a ≡ b → ((k : ℕ) → a ≤ k → k < a + suc n → q k ≡ (not (k == s) && p k))
    → (slice_get (filter p (range_with_len (a + 1) n)) 0 ≡ Some s → filter p (range_with_len (a + 1) n) ≡ s ∷ filter q (range_with_len (a + 1) n))
    → slice_get (cond b (a ∷ filter p (range_with_len (a + 1) n)) (filter p (range_with_len (a + 1) n))) 0 ≡ Some s
    → cond b (a ∷ filter p (range_with_len (a + 1) n)) (filter p (range_with_len (a + 1) n)) ≡ s ∷ cond (q a) (a ∷ filter q (range_with_len (a + 1) n)) (filter q (range_with_len (a + 1) n))
first_split p q a n s true here less rest first =
    let same : a ≡ s = cc in
    let out : q a ≡ false = less a (omega arith) (omega arith) ∙ rw (same, eq-eqb s s refl) refl in
    let alike = kept_alike p q (a + 1) n (λ k low high. rw (less k (omega (arith, low)) (omega (arith, high)), ne_eqb k s (λ e. omega (arith, e, same, low))) refl) in
    rw (out, alike) (ap (λ k. k ∷ filter q (range_with_len (a + 1) n)) same)
first_split p q a n s false here less rest first =
    let out : q a ≡ false = less a (omega arith) (omega arith) ∙ rw here (and_no (a == s)) in
    rw out (rest first)

first_of_range : (p q : ℕ → Bool) (a n s : ℕ) → ((k : ℕ) → a ≤ k → k < a + n → q k ≡ (not (k == s) && p k)) → slice_get (filter p (range_with_len a n)) 0 ≡ Some s
    → filter p (range_with_len a n) ≡ s ∷ filter q (range_with_len a n)
first_of_range p q a zero s less first = cc
first_of_range p q a (suc n) s less first =
    first_split p q a n s (p a) refl less (first_of_range p q (a + 1) n s (λ k low high. less k (omega (arith, low)) (omega (arith, high)))) first

pub squares_are : squares ≡ range_with_len 0 64
unfolding squares
squares_are = refl

first_of_list : (p q : ℕ → Bool) (n s : ℕ) (xs : List ℕ) → xs ≡ range_with_len 0 n → ((k : ℕ) → k < n → q k ≡ (not (k == s) && p k)) → slice_get (filter p xs) 0 ≡ Some s
    → filter p xs ≡ s ∷ filter q xs
first_of_list p q n s xs e less first =
    rw e (first_of_range p q 0 n s (λ k _ small. less k (omega (arith, small))) (rw e at first))

-- the squares of a set are its first square and those of the set without it
pub squares_from_first : (set : List Bool) (s : ℕ) → slice_get (squares_in set) 0 ≡ Some s → squares_in set ≡ s ∷ squares_in (set_without set s)
unfolding set_without
squares_from_first set s first =
    first_of_list (has_square set) (has_square (set_without set s)) 64 s squares squares_are (λ k small. has-set_of (λ k. not (k == s) && has_square set k) k small) first

no_head : (xs : List ℕ) → slice_get xs 0 ≡ None → xs ≡ []
no_head [] none = refl
no_head (x ∷ xs) none = cc

-- a set with no first square has none
pub no_first_square : (set : List Bool) → slice_get (squares_in set) 0 ≡ None → squares_in set ≡ []
no_first_square set none = no_head (squares_in set) none
