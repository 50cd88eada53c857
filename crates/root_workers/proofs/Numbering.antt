-- Which of the numbers are one worker's.
use Rattle.std.proofs.Common.{◌≡◌, ℕ, zero, suc, ◌+◌, ◌*◌, ◌/◌, ◌%◌, ◌<◌, ◌≤◌, ◌⊎◌, inl, inr, refl, ◌∙◌, ap, arith}
use Rattle.std.proofs.lemmas.Bool.{cases_lt}
use Rattle.std.proofs.lemmas.Nat.{div-add-mod'}
use Rattle.std.proofs.Math.Nat.{add-mod_right, suc-mul, mod-eq_of_lt}

one_multiple : (a b c : ℕ) → 0 < c → b * c ≤ a * c → a * c < b * c + c → a ≡ b
one_multiple zero zero c some least most = refl
one_multiple zero (suc b) c some least most = (let e = suc-mul b c in absurd (omega arith))
one_multiple (suc a) zero c some least most = (let e = suc-mul a c in absurd (omega arith))
one_multiple (suc a) (suc b) c some least most =
    let e = suc-mul a c in
    let f = suc-mul b c in
    ap suc (one_multiple a b c some (omega arith) (omega arith))

-- between a worker's number and the next one there is none of its own
pub none_between : (i k c n : ℕ) → 0 < c → k % c ≡ n → i % c ≡ n → k ≤ i → i < k + c → i ≡ k
none_between i k c n some own also least most =
    let a = div-add-mod' i c in
    let b = div-add-mod' k c in
    let e : i / c ≡ k / c = one_multiple (i / c) (k / c) c some (omega arith) (omega arith) in
    let f = ap (λ m. m * c) e in
    omega arith

lower_or_here : (i k c n : ℕ) → 0 < c → k % c ≡ n → i % c ≡ n → i < k + c → (i < k) ⊎ (k ≤ i) → (i < k) ⊎ (i ≡ k)
lower_or_here i k c n some own also most (inl less) = inl less
lower_or_here i k c n some own also most (inr least) = inr (none_between i k c n some own also least most)

-- up to a worker's next number, its own are those before its number and this one
pub before_or_here : (i k c n : ℕ) → 0 < c → k % c ≡ n → i % c ≡ n → i < k + c → (i < k) ⊎ (i ≡ k)
before_or_here i k c n some own also most = lower_or_here i k c n some own also most (cases_lt i k)

-- the next number is the worker's own too
pub next_own : (k c n : ℕ) → k % c ≡ n → (k + c) % c ≡ n
next_own k c n own = add-mod_right k c ∙ own

-- below a worker's number none is its own
pub none_below : (i c n : ℕ) → n < c → i % c ≡ n → i < n → ⊥
none_below i c n few own less = (let e : i % c ≡ i = mod-eq_of_lt (omega (arith, few, less)) in omega arith)
