-- Words that a text says somewhere.
use Rattle.std.proofs.Common.{◌≡◌, ℕ, zero, suc, ◌<◌, min, true, List, [], ◌∷◌, length, take, refl, ap, sym, ◌∙◌, arith}
use Rattle.std.specs.Str.{str_eq_ignore_ascii_case}
use Rattle.pgn_games.specs.Fields.{speaks_of}

take_none : (n : ℕ) → take {A = ℕ} n [] ≡ []
take_none zero = refl
take_none (suc n) = refl

-- no more elements are taken than there are
take_least : (xs : List ℕ) (n : ℕ) → take (min n (length xs)) xs ≡ take n xs
take_least [] n = take_none (min n 0) ∙ sym (take_none n)
take_least (x ∷ xs) zero = let none : min 0 (suc (length xs)) ≡ 0 = omega arith in rw none refl
take_least (x ∷ xs) (suc n) = let more : min (suc n) (suc (length xs)) ≡ suc (min n (length xs)) = omega arith in rw more (ap (λ ys. x ∷ ys) (take_least xs n))

-- a text says the words with which it begins
pub begins_so : (wanted rest front : List ℕ) (size : ℕ) → 0 < length rest → size ≡ min (length wanted) (length rest) → front ≡ take size rest → str_eq_ignore_ascii_case front wanted ≡ true → true ≡ speaks_of wanted rest
unfolding speaks_of
begins_so wanted [] front size some size_is front_is same = absurd (omega (arith, some))
begins_so wanted (b ∷ bs) front size some size_is front_is same =
    let whole : front ≡ take (length wanted) (b ∷ bs) = front_is ∙ ap (λ n. take n (b ∷ bs)) size_is ∙ take_least (b ∷ bs) (length wanted) in
    let says : str_eq_ignore_ascii_case (take (length wanted) (b ∷ bs)) wanted ≡ true = ap (λ f. str_eq_ignore_ascii_case f wanted) (sym whole) ∙ same in
    rw says refl
