-- A text cut at its line feeds.
use Rattle.std.proofs.Common.{◌≡◌, ◌≢◌, ℕ, suc, ◌+◌, ◌<◌, ◌≤◌, ◌==◌, Bool, true, false, List, [], ◌∷◌, length, take, drop, refl, sym, ap, ◌∙◌, arith}
use Rattle.std.specs.List.{prefix_len}
use Rattle.std.proofs.lemmas.List.{drop-drop}
use Rattle.cha_list.specs.declared.classes.Class.TheVariants.{NotLineFeed}
use Rattle.cha_list.specs.Bytes.{in_class}
use Rattle.cert_text.specs.TextLines.{lines_of, tail_of}

-- how many bytes stand before the first line feed
abbrev line_len : List ℕ → ℕ
line_len bs = prefix_len (in_class NotLineFeed) bs

len_feed : (b : ℕ) (bs : List ℕ) → (b == 10) ≡ true → line_len (b ∷ bs) ≡ 0
unfolding in_class
len_feed b bs t = rw t refl

len_other : (b : ℕ) (bs : List ℕ) → (b == 10) ≡ false → line_len (b ∷ bs) ≡ suc (line_len bs)
unfolding in_class
len_other b bs t = rw t (omega arith)

line_step : (b : ℕ) (bs : List ℕ) (v : Bool) → (b == 10) ≡ v
    → (line_len bs < length bs → lines_of bs ≡ take (line_len bs) bs ∷ lines_of (drop (suc (line_len bs)) bs))
    → line_len (b ∷ bs) < length (b ∷ bs) → lines_of (b ∷ bs) ≡ take (line_len (b ∷ bs)) (b ∷ bs) ∷ lines_of (drop (suc (line_len (b ∷ bs))) (b ∷ bs))
unfolding lines_of
line_step b bs true t ih less = rw (len_feed b bs t, t) refl
line_step b bs false t ih less =
    let e = len_other b bs t in
    let rest = ih (omega (arith, e, less)) in
    rw (e, t, rest) refl

first_line : (bs : List ℕ) → line_len bs < length bs → lines_of bs ≡ take (line_len bs) bs ∷ lines_of (drop (suc (line_len bs)) bs)
first_line [] less = absurd (omega (arith, less))
first_line (b ∷ bs) less = line_step b bs (b == 10) refl (first_line bs) less

tail_step : (b : ℕ) (bs : List ℕ) (v : Bool) → (b == 10) ≡ v → (line_len bs < length bs → tail_of bs ≡ tail_of (drop (suc (line_len bs)) bs))
    → line_len (b ∷ bs) < length (b ∷ bs) → tail_of (b ∷ bs) ≡ tail_of (drop (suc (line_len (b ∷ bs))) (b ∷ bs))
unfolding tail_of
tail_step b bs true t ih less = rw (len_feed b bs t, t) refl
tail_step b bs false t ih less =
    let e = len_other b bs t in
    let inside : line_len bs < length bs = omega (arith, e, less) in
    rw (e, t, first_line bs inside) (ih inside)

first_tail : (bs : List ℕ) → line_len bs < length bs → tail_of bs ≡ tail_of (drop (suc (line_len bs)) bs)
first_tail [] less = absurd (omega (arith, less))
first_tail (b ∷ bs) less = tail_step b bs (b == 10) refl (first_tail bs) less

none_step : (b : ℕ) (bs : List ℕ) (v : Bool) → (b == 10) ≡ v → (line_len bs ≡ length bs → (lines_of bs ≡ []) × (tail_of bs ≡ bs))
    → line_len (b ∷ bs) ≡ length (b ∷ bs) → (lines_of (b ∷ bs) ≡ []) × (tail_of (b ∷ bs) ≡ b ∷ bs)
unfolding lines_of tail_of
none_step b bs true t ih e = (let z = len_feed b bs t in absurd (omega (arith, z, e)))
none_step b bs false t ih e =
    let z = len_other b bs t in
    let rest = ih (omega (arith, z, e)) in
    (rw (t, rest.0) refl, rw (t, rest.0, rest.1) refl)

none_all : (bs : List ℕ) → line_len bs ≡ length bs → (lines_of bs ≡ []) × (tail_of bs ≡ bs)
unfolding lines_of tail_of
none_all [] e = (refl, refl)
none_all (b ∷ bs) e = none_step b bs (b == 10) refl (none_all bs) e

-- where so many bytes are read, and the line that is next has so many
behind : (bytes : List ℕ) (at end : ℕ) → drop (suc end) (drop at bytes) ≡ drop (at + end + 1) bytes
behind bytes at end = drop-drop (suc end) at bytes ∙ ap (λ k. drop k bytes) (omega arith)

pub line_at : (bytes : List ℕ) (at end : ℕ) → end ≡ line_len (drop at bytes) → end < length (drop at bytes)
    → lines_of (drop at bytes) ≡ take end (drop at bytes) ∷ lines_of (drop (at + end + 1) bytes)
line_at bytes at end e less =
    let inside : line_len (drop at bytes) < length (drop at bytes) = omega (arith, e, less) in
    first_line (drop at bytes) inside ∙ ap (λ k. take k (drop at bytes) ∷ lines_of (drop (suc k) (drop at bytes))) (sym e) ∙ ap (λ rest. take end (drop at bytes) ∷ lines_of rest) (behind bytes at end)

pub tail_at : (bytes : List ℕ) (at end : ℕ) → end ≡ line_len (drop at bytes) → end < length (drop at bytes) → tail_of (drop (at + end + 1) bytes) ≡ tail_of (drop at bytes)
tail_at bytes at end e less =
    let inside : line_len (drop at bytes) < length (drop at bytes) = omega (arith, e, less) in
    sym (first_tail (drop at bytes) inside ∙ ap (λ k. tail_of (drop (suc k) (drop at bytes))) (sym e) ∙ ap tail_of (behind bytes at end))

pub no_line_at : (bs : List ℕ) (end : ℕ) → end ≡ line_len bs → end ≡ length bs → (lines_of bs ≡ []) × (tail_of bs ≡ bs)
no_line_at bs end e all = none_all bs (sym e ∙ all)

less_than : (end n : ℕ) → end ≤ n → end ≢ n → end < n
less_than end n few other = omega (arith, few, other)

-- the next line of what is left
pub line_here : (bytes rest line : List ℕ) (at end : ℕ) → rest ≡ drop at bytes → end ≡ line_len rest → end ≤ length rest → end ≢ length rest
    → line ≡ take end rest → lines_of (drop at bytes) ≡ line ∷ lines_of (drop (at + end + 1) bytes)
line_here bytes rest line at end b e few other f =
    line_at bytes at end (e ∙ ap line_len b) (rw b at (less_than end (length rest) few other)) ∙ ap (λ l. l ∷ lines_of (drop (at + end + 1) bytes)) (sym (f ∙ ap (take end) b))

pub tail_here : (bytes rest : List ℕ) (at end : ℕ) → rest ≡ drop at bytes → end ≡ line_len rest → end ≤ length rest → end ≢ length rest
    → tail_of (drop (at + end + 1) bytes) ≡ tail_of (drop at bytes)
tail_here bytes rest at end b e few other = tail_at bytes at end (e ∙ ap line_len b) (rw b at (less_than end (length rest) few other))

pub none_here : (rest bs : List ℕ) (end : ℕ) → rest ≡ bs → end ≡ line_len rest → end ≡ length rest → (lines_of bs ≡ []) × (tail_of bs ≡ bs)
none_here rest bs end b e all = no_line_at bs end (e ∙ ap line_len b) (all ∙ ap length b)
