-- Lines, one at a time.
use Rattle.std.proofs.Common.{◌≡◌, ◌≢◌, ℕ, zero, suc, ◌+◌, ◌<◌, ◌==◌, Bool, true, false, not, ◌&&◌, if◌then◌else◌, List, [], ◌∷◌, length, take, drop, get_or, refl, sym, ap, arith}
use Rattle.std.specs.List.{prefix_len}
use Rattle.std.proofs.lemmas.Bool.{and_parts, eqb-true}
use Rattle.std.proofs.lemmas.Bool.Decides.{nat_tests}
use Rattle.cha_list.specs.declared.classes.Class.TheVariants.{NotLineFeed}
use Rattle.cha_list.specs.Bytes.{in_class}
use Rattle.text_lines.specs.Lines.{begins_with_line_feed, onto_first, lines, without_return}

-- a line that ends in a carriage return is without it
pub return_dropped : (xs : List ℕ) (n : ℕ) → n + 1 ≡ length xs → get_or xs n 0 ≡ 13 → take n xs ≡ without_return xs
unfolding without_return
return_dropped [] n size e = absurd (omega arith)
return_dropped (b ∷ []) zero size e = let t : (b == 13) ≡ true = grind (arith, nat_tests) in rw t refl
return_dropped (b ∷ []) (suc n) size e = absurd (omega arith)
return_dropped (b ∷ c ∷ bs) zero size e = absurd (omega arith)
return_dropped (b ∷ c ∷ bs) (suc n) size e = ap (λ ys. b ∷ ys) (return_dropped (c ∷ bs) n (omega arith) e)

-- and another line stays
pub no_return : (xs : List ℕ) (n : ℕ) → n + 1 ≡ length xs → get_or xs n 0 ≢ 13 → xs ≡ without_return xs
unfolding without_return
no_return [] n size e = absurd (omega arith)
no_return (b ∷ []) zero size e = let t : (b == 13) ≡ false = grind (arith, nat_tests) in rw t refl
no_return (b ∷ []) (suc n) size e = absurd (omega arith)
no_return (b ∷ c ∷ bs) zero size e = absurd (omega arith)
no_return (b ∷ c ∷ bs) (suc n) size e = ap (λ ys. b ∷ ys) (no_return (c ∷ bs) n (omega arith) e)

-- as does the empty one
pub empty_stays : (xs : List ℕ) → length xs ≡ 0 → xs ≡ without_return xs
unfolding without_return
empty_stays [] e = refl
empty_stays (b ∷ bs) e = absurd (omega arith)

-- where no line feed comes, none begins the text
feedless : (bs : List ℕ) → prefix_len (in_class NotLineFeed) bs ≡ length bs → begins_with_line_feed bs ≡ false
unfolding in_class
feedless [] e = refl
feedless (b ∷ bs) e = feedless_step (b == 10) refl e
  where
    feedless_step : (v : Bool) → (b == 10) ≡ v → (if not v then 1 + prefix_len (in_class NotLineFeed) bs else 0) ≡ length (b ∷ bs) → (b == 10) ≡ false
    feedless_step true t e = absurd (omega arith)
    feedless_step false t e = t

last_step : (b : ℕ) (bs : List ℕ) (v w : Bool) → (if not v then 1 + prefix_len (in_class NotLineFeed) bs else 0) ≡ length (b ∷ bs)
    → (prefix_len (in_class NotLineFeed) bs ≡ length bs → onto_first b (lines bs) ≡ (b ∷ bs) ∷ []) → (prefix_len (in_class NotLineFeed) bs ≡ length bs → begins_with_line_feed bs ≡ false)
    → (if w && begins_with_line_feed bs then lines bs else (if v then [] ∷ lines bs else onto_first b (lines bs))) ≡ (b ∷ bs) ∷ []
last_step b bs true w e one none = absurd (omega arith)
last_step b bs false true e one none = let t : prefix_len (in_class NotLineFeed) bs ≡ length bs = omega arith in rw (none t) (one t)
last_step b bs false false e one none = one (omega arith)

-- a text without a line feed is one line
pub last_line : (bs : List ℕ) → 0 < length bs → prefix_len (in_class NotLineFeed) bs ≡ length bs → lines bs ≡ bs ∷ []
unfolding lines in_class
last_line [] some e = absurd (omega arith)
last_line (b ∷ []) some e = last_step b [] (b == 10) (b == 13) e (λ _. refl) (λ _. refl)
last_line (b ∷ c ∷ bs) some e = last_step b (c ∷ bs) (b == 10) (b == 13) e (λ t. ap (onto_first b) (last_line (c ∷ bs) (omega arith) t)) (feedless (c ∷ bs))

-- what stands in front of a line feed keeps its first byte, but for a carriage return right before it
zero_step : (c : ℕ) (n : ℕ) (v w : Bool) → 0 ≡ (if not v then 1 + n else 0) → (w && v) ≡ false → w ≡ false
zero_step c n true true e other = other
zero_step c n true false e other = refl
zero_step c n false w e other = absurd (omega arith)

front_of_line : (b : ℕ) (bs : List ℕ) (m : ℕ) → ((b == 13) && begins_with_line_feed bs) ≡ false → m ≡ prefix_len (in_class NotLineFeed) bs → m < length bs
    → without_return (b ∷ take m bs) ≡ b ∷ without_return (take m bs)
unfolding without_return in_class
front_of_line b [] m other e small = absurd (omega arith)
front_of_line b (c ∷ bs) zero other e small = rw (zero_step c (prefix_len (in_class NotLineFeed) bs) (c == 10) (b == 13) e other) refl
front_of_line b (c ∷ bs) (suc m) other e small = refl

-- right before a line feed nothing else stands
feed_next : (bs : List ℕ) (m : ℕ) → begins_with_line_feed bs ≡ true → m ≡ prefix_len (in_class NotLineFeed) bs → m ≡ 0
unfolding in_class
feed_next [] m h e = e
feed_next (b ∷ bs) m h e = rw h at e

first_step : (b : ℕ) (bs : List ℕ) (n : ℕ) (v w : Bool) → (b == 10) ≡ v → ((b == 13) && begins_with_line_feed bs) ≡ w → n ≡ (if not v then 1 + prefix_len (in_class NotLineFeed) bs else 0) → n < length (b ∷ bs)
    → ((m : ℕ) → m ≡ prefix_len (in_class NotLineFeed) bs → m < length bs → lines bs ≡ without_return (take m bs) ∷ lines (drop (m + 1) bs))
    → (if w then lines bs else (if v then [] ∷ lines bs else onto_first b (lines bs))) ≡ without_return (take n (b ∷ bs)) ∷ lines (drop (n + 1) (b ∷ bs))
unfolding without_return
first_step b bs n true true is_feed is_return e small ih =
    let feed : b ≡ 10 = eqb-true b 10 is_feed in
    let carriage : b ≡ 13 = eqb-true b 13 (and_parts (b == 13) (begins_with_line_feed bs) is_return).0 in
    absurd (omega arith)
first_step b bs n true false is_feed is_return e small ih = rw e refl
first_step b bs n false true is_feed is_return e small ih =
    let m = prefix_len (in_class NotLineFeed) bs in
    let both = and_parts (b == 13) (begins_with_line_feed bs) is_return in
    let none : m ≡ 0 = feed_next bs m both.1 refl in
    let n_is : n ≡ 1 = omega arith in
    let line = ih m refl (omega arith) in
    rw (n_is, both.0) (rw none at line)
first_step b bs n false false is_feed is_return e small ih =
    let m = prefix_len (in_class NotLineFeed) bs in
    let n_is : n ≡ suc m = omega arith in
    let more : suc m + 1 ≡ suc (m + 1) = omega arith in
    let inside : m < length bs = omega arith in
    rw (n_is, more, ih m refl inside) (ap (λ xs. xs ∷ lines (drop (m + 1) bs)) (sym (front_of_line b bs m is_return refl inside)))

-- the first line ends at the first line feed
pub next_line_is : (bs : List ℕ) (n : ℕ) → n ≡ prefix_len (in_class NotLineFeed) bs → n < length bs → lines bs ≡ without_return (take n bs) ∷ lines (drop (n + 1) bs)
unfolding lines in_class
next_line_is [] n e small = absurd (omega arith)
next_line_is (b ∷ bs) n e small = first_step b bs n (b == 10) ((b == 13) && begins_with_line_feed bs) refl refl e small (next_line_is bs)
