-- Runs of bytes without a line feed, and what they are of a text.
use Rattle.std.proofs.Common.{◌≡◌, ℕ, zero, suc, ◌+◌, ◌-◌, ◌==◌, ◌<◌, ◌≤◌, Bool, true, false, not, ◌||◌, if◌then◌else◌, nat_lt, List, [], ◌∷◌, ◌++◌, length, take, drop, refl, sym, ap, ◌∙◌, arith, drop-drop}
use Rattle.std.specs.List.{prefix_len}
use Rattle.std.proofs.lemmas.Bool.{eqb-true}
use Rattle.std.proofs.lemmas.Bool.Decides.{nat_tests}
use Rattle.cha_list.specs.declared.classes.Class.TheVariants.{NotLineFeed}
use Rattle.cha_list.specs.Bytes.{in_class}
use Rattle.text_lines.specs.Lines.{ended_size}

zero_more : (n : ℕ) → n ≡ 0 + n
zero_more n = omega arith

one_more : (n : ℕ) → 1 + n ≡ suc n
one_more n = omega arith

-- a run is what is passed of it and what follows
run_step : (n k rest : ℕ) (v : Bool) → suc k ≤ (if v then 1 + n else 0) → (k ≤ n → n ≡ k + rest) → (if v then 1 + n else 0) ≡ suc k + rest
run_step n k rest true g ih = omega (arith, ih (omega (arith, g)))
run_step n k rest false g ih = absurd (omega (arith, g))

run_from : (p : ℕ → Bool) (xs : List ℕ) (k : ℕ) → k ≤ prefix_len p xs → prefix_len p xs ≡ k + prefix_len p (drop k xs)
run_from p [] zero h = zero_more 0
run_from p [] (suc k) h = absurd (omega (arith, h))
run_from p (x ∷ xs) zero h = zero_more (prefix_len p (x ∷ xs))
run_from p (x ∷ xs) (suc k) h = run_step (prefix_len p xs) k (prefix_len p (drop k xs)) (p x) h (run_from p xs k)

-- the end of a run, where a part of it was passed before
pub found_at : (p : ℕ → Bool) (xs : List ℕ) (used scanned : ℕ) → used ≤ scanned → scanned ≤ used + prefix_len p (drop used xs) → scanned + prefix_len p (drop scanned xs) ≡ used + prefix_len p (drop used xs)
found_at p xs used scanned a b =
    let k = scanned - used in
    let whole : used + k ≡ scanned = omega (arith, a) in
    let run = run_from p (drop used xs) k (omega (arith, a, b)) in
    let there : prefix_len p (drop k (drop used xs)) ≡ prefix_len p (drop scanned xs) = ap (prefix_len p) (drop-drop k used xs ∙ ap (λ i. drop i xs) whole) in
    omega (arith, run, there, whole)

-- the run in front stays the same, whatever follows its end
front_step : (p : ℕ → Bool) (x : ℕ) (xs later : List ℕ) (v : Bool) → p x ≡ v → (if v then 1 + prefix_len p xs else 0) < suc (length xs)
    → (prefix_len p xs < length xs → prefix_len p (take (suc (prefix_len p xs)) xs ++ later) ≡ prefix_len p xs)
    → prefix_len p (take (suc (if v then 1 + prefix_len p xs else 0)) (x ∷ xs) ++ later) ≡ (if v then 1 + prefix_len p xs else 0)
front_step p x xs later true e g ih = rw e (ap (λ k. 1 + k) (ap (λ i. prefix_len p (take i xs ++ later)) (one_more (prefix_len p xs)) ∙ ih (omega (arith, g))))
front_step p x xs later false e g ih = rw e refl

pub front_run : (p : ℕ → Bool) (rest later : List ℕ) → prefix_len p rest < length rest → prefix_len p (take (suc (prefix_len p rest)) rest ++ later) ≡ prefix_len p rest
front_run p [] later small = absurd (omega (arith, small))
front_run p (x ∷ xs) later small = front_step p x xs later (p x) refl small (front_run p xs later)

-- the byte behind the run is a line feed
feed_step : (b n : ℕ) (bs : List ℕ) (v : Bool) → (b == 10) ≡ v → (if not v then 1 + n else 0) < suc (length bs)
    → (n < length bs → take (suc n) bs ≡ take n bs ++ 10 ∷ [])
    → take (suc (if not v then 1 + n else 0)) (b ∷ bs) ≡ take (if not v then 1 + n else 0) (b ∷ bs) ++ 10 ∷ []
feed_step b n bs true e g ih = let same : b ≡ 10 = eqb-true b 10 e in rw same refl
feed_step b n bs false e g ih = rw (one_more n) (ap (λ ys. b ∷ ys) (ih (omega (arith, g))))

pub feed_at : (rest : List ℕ) → prefix_len (in_class NotLineFeed) rest < length rest → take (suc (prefix_len (in_class NotLineFeed) rest)) rest ≡ take (prefix_len (in_class NotLineFeed) rest) rest ++ 10 ∷ []
unfolding in_class
feed_at [] small = absurd (omega (arith, small))
feed_at (b ∷ bs) small = feed_step b (prefix_len (in_class NotLineFeed) bs) bs (b == 10) refl small (feed_at bs)

-- a text that ends in a line feed ends there
size_step : (v : Bool) (k n : ℕ) → k ≡ suc n → (if v || nat_lt 0 k then suc k else 0) ≡ suc (suc n)
size_step true k n e = ap suc e
size_step false k n e = let t : nat_lt 0 k ≡ true = grind (arith, nat_tests, e) in rw t (ap suc e)

pub ended_feed : (xs : List ℕ) → ended_size (xs ++ 10 ∷ []) ≡ suc (length xs)
unfolding ended_size
ended_feed [] = refl
ended_feed (x ∷ xs) = size_step (x == 10) (ended_size (xs ++ 10 ∷ [])) (length xs) (ended_feed xs)

-- and bytes without one change nothing
none_step : (v : Bool) (n size k : ℕ) → (if not v then 1 + n else 0) ≡ suc size → (n ≡ size → k ≡ 0) → (if v || nat_lt 0 k then suc k else 0) ≡ 0
none_step true n size k g ih = absurd (omega (arith, g))
none_step false n size k g ih = rw (ih (omega (arith, g))) refl

ended_none : (ys : List ℕ) → prefix_len (in_class NotLineFeed) ys ≡ length ys → ended_size ys ≡ 0
unfolding ended_size in_class
ended_none [] e = refl
ended_none (y ∷ ys) e = none_step (y == 10) (prefix_len (in_class NotLineFeed) ys) (length ys) (ended_size ys) e (ended_none ys)

pub ended_still : (xs ys : List ℕ) → prefix_len (in_class NotLineFeed) ys ≡ length ys → ended_size (xs ++ ys) ≡ ended_size xs
unfolding ended_size
ended_still [] ys e = ended_none ys e
ended_still (x ∷ xs) ys e = rw (ended_still xs ys e) refl

-- and more bytes take no line feed away
grown_step : (v : Bool) (k m : ℕ) → k ≤ m → (if v || nat_lt 0 k then suc k else 0) ≤ (if v || nat_lt 0 m then suc m else 0)
grown_step true k m e = omega (arith, e)
grown_step false zero m e = omega arith
grown_step false (suc k) m e = let t : nat_lt 0 m ≡ true = grind (arith, nat_tests, e) in let u : nat_lt 0 (suc k) ≡ true = grind (arith, nat_tests) in rw (t, u) (omega (arith, e))

pub ended_grown : (xs ys : List ℕ) → ended_size xs ≤ ended_size (xs ++ ys)
unfolding ended_size
ended_grown [] ys = omega arith
ended_grown (x ∷ xs) ys = grown_step (x == 10) (ended_size xs) (ended_size (xs ++ ys)) (ended_grown xs ys)

-- nothing has no first elements
pub take_none : {X : Type 0} (n : ℕ) → take {A = X} n [] ≡ []
take_none zero = refl
take_none (suc n) = refl

-- the first elements, in two parts
pub take_two : {X : Type 0} (a b : ℕ) (xs : List X) → take (a + b) xs ≡ take a xs ++ take b (drop a xs)
take_two zero b xs = ap (λ n. take n xs) (omega arith)
take_two (suc a) b [] = take_none (suc a + b) ∙ sym (take_none b)
take_two (suc a) b (x ∷ xs) = let more : suc a + b ≡ suc (a + b) = omega arith in rw more (ap (λ ys. x ∷ ys) (take_two a b xs))

-- a run goes on through what follows
pub run_through : (p : ℕ → Bool) (xs ys : List ℕ) → prefix_len p xs ≡ length xs → length xs ≤ prefix_len p (xs ++ ys)
run_through p [] ys e = omega arith
run_through p (x ∷ xs) ys e = through_step (p x) (prefix_len p xs) (length xs) (prefix_len p (xs ++ ys)) e (run_through p xs ys)
  where
    through_step : (v : Bool) (n size m : ℕ) → (if v then 1 + n else 0) ≡ suc size → (n ≡ size → size ≤ m) → suc size ≤ (if v then 1 + m else 0)
    through_step true n size m g ih = omega (arith, ih (omega (arith, g)))
    through_step false n size m g ih = absurd (omega (arith, g))
