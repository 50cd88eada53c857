-- Men that are added, piece by piece.
use Rattle.std.proofs.Common.{◌≡◌, ℕ, ◌+◌, ◌-◌, ◌<◌, ◌≤◌, ◌==◌, Bool, true, false, if◌then◌else◌, List, [], ◌∷◌, ◌++◌, Option, Some, None, length, drop, refl, sym, ap, ◌∙◌, arith, append_assoc, length-append, nat_le, add-one, drop-cons, get_or, append-nil}
use Rattle.std.proofs.lemmas.List.{drop_all}
use Rattle.std.proofs.lemmas.Bool.{eqb-true, false_from_ne_true}
use Rattle.std.proofs.lemmas.Bool.Decides.{nat_tests}
use Rattle.cha_board.specs.declared.men.Man.{Man}
use Rattle.cha_fen.specs.Placement.{joined, if_size, squares_of, row_squares, men_upward, men_of_rows}
use Rattle.cha_fen.specs.Adding.{Adds, if_room}

pub joined_adds : (x y : Option (List (Option Man))) (old mid out : List (Option Man)) (r : Bool) → Adds true old mid x → Adds r mid out y → Adds r old out (joined x y)
joined_adds None y old mid out r h k = cc (h.1)
joined_adds (Some a) None old mid out true h k = cc (k.1)
joined_adds (Some a) None old mid out false h k = refl
joined_adds (Some a) (Some b) old mid out true h k =
    let e : h.0 ≡ a = cc (h.1) in
    let f : k.0 ≡ b = cc (k.1) in
    (a ++ b, refl, k.2 ∙ ap (λ m. m ++ k.0) h.2 ∙ append_assoc old h.0 k.0 ∙ ap (λ x. old ++ (x ++ k.0)) e ∙ ap (λ x. old ++ (a ++ x)) f)
joined_adds (Some a) (Some b) old mid out false h k = cc

pub joined_none : (x y : Option (List (Option Man))) → x ≡ None → joined x y ≡ None
joined_none None y e = refl
joined_none (Some a) y e = cc

same_test : (a b c d : ℕ) → a ≡ b + 1 → c ≡ d + 1 → (a == c) ≡ (b == d)
same_test a b c d e f = grind (arith, nat_tests)

cons_step : (v : Bool) (x y : Option (List (Option Man))) → (if v then joined x y else None) ≡ joined (if v then x else None) y
cons_step true x y = refl
cons_step false x y = refl

rows_cons : (count less : ℕ) (row : List ℕ) (rs : List (List ℕ)) → count ≡ less + 1 → men_of_rows count (row ∷ rs) ≡ joined (men_of_rows less rs) (if_size 8 (row_squares row))
unfolding men_of_rows men_upward
rows_cons count less row rs e =
    rw (same_test (length (row ∷ rs)) (length rs) count less (omega arith) e) (cons_step (length rs == less) (men_upward rs) (if_size 8 (row_squares row)))

pub rows_both : (count less : ℕ) (row : List ℕ) (rs all : List (List ℕ)) (old mid out : List (Option Man)) (r : Bool) → count ≡ less + 1 → all ≡ row ∷ rs
    → Adds true old mid (men_of_rows less rs) → Adds r mid out (if_size 8 (row_squares row)) → Adds r old out (men_of_rows count all)
rows_both count less row rs all old mid out r e f h k = rw (f, rows_cons count less row rs e) (joined_adds _ _ old mid out r h k)

pub rows_none : (count less : ℕ) (row : List ℕ) (rs all : List (List ℕ)) → count ≡ less + 1 → all ≡ row ∷ rs → men_of_rows less rs ≡ None → men_of_rows count all ≡ None
rows_none count less row rs all e f h = rw (f, rows_cons count less row rs e) (joined_none _ _ h)

front : (x : Option (List (Option Man))) → joined (Some []) x ≡ x
front None = refl
front (Some a) = refl

pub one_row : (row : List ℕ) (all : List (List ℕ)) (count : ℕ) → count ≡ 1 → all ≡ row ∷ [] → men_of_rows count all ≡ if_size 8 (row_squares row)
unfolding men_of_rows men_upward
one_row row all count e f = rw (e, f) (front (if_size 8 (row_squares row)))

not_if : (v : Bool) (x : Option (List (Option Man))) → v ≡ false → (if v then x else None) ≡ None
not_if v x e = rw e refl

pub wrong_count : (all : List (List ℕ)) (count : ℕ) → (length all ≡ count → ⊥) → men_of_rows count all ≡ None
unfolding men_of_rows
wrong_count all count h = not_if (length all == count) (men_upward all) (false_from_ne_true (length all == count) (λ e. h (eqb-true (length all) count e)))

-- one byte of a row, and what follows it
sized : (a b : List (Option Man)) (room left : ℕ) → length a + left ≡ room → (length (a ++ b) == room) ≡ (length b == left)
sized a b room left e = let f = length-append a b in grind (arith, nat_tests)

size_adds : (v : Bool) (w : Bool) (a b old mid out : List (Option Man)) (r : Bool) → v ≡ w → mid ≡ old ++ a → Adds r mid out (if w then Some b else None) → Adds r old out (if v then Some (a ++ b) else None)
size_adds true true a b old mid out true e f h =
    let g : h.0 ≡ b = cc (h.1) in
    (a ++ b, refl, h.2 ∙ ap (λ m. m ++ h.0) f ∙ append_assoc old a h.0 ∙ ap (λ x. old ++ (a ++ x)) g)
size_adds true true a b old mid out false e f h = cc
size_adds true false a b old mid out r e f h = cc
size_adds false true a b old mid out r e f h = cc
size_adds false false a b old mid out true e f h = cc (h.1)
size_adds false false a b old mid out false e f h = refl

some_room : (v : Bool) (a x : List (Option Man)) → (if v then Some a else None) ≡ Some x → a ≡ x
some_room true a x e = cc
some_room false a x e = cc

pub row_step : (x y : Option (List (Option Man))) (room left : ℕ) (old mid out : List (Option Man)) (r : Bool)
    → Adds true old mid (if_room room x) → length mid + left ≡ length old + room → Adds r mid out (if_size left y) → Adds r old out (if_size room (joined x y))
row_step None y room left old mid out r h e k = cc (h.1)
row_step (Some a) None room left old mid out true h e k = cc (k.1)
row_step (Some a) None room left old mid out false h e k = refl
row_step (Some a) (Some b) room left old mid out r h e k =
    let g = some_room (nat_le (length a) room) a h.0 h.1 in
    let f : mid ≡ old ++ a = h.2 ∙ ap (λ z. old ++ z) (sym g) in
    let n : length a + left ≡ room = omega (arith, ap length f, length-append old a) in
    size_adds (length (a ++ b) == room) (length b == left) a b old mid out r (sized a b room left n) f k

-- a byte whose squares do not fit makes no row
no_room : (v : Bool) (x : List (Option Man)) (y : Option (List (Option Man))) → y ≡ None → (if v then Some x else None) ≡ y → v ≡ false
no_room true x y f e = cc
no_room false x y f e = refl

too_long : (a b : List (Option Man)) (room : ℕ) → nat_le (length a) room ≡ false → (length (a ++ b) == room) ≡ false
too_long a b room e = let f = length-append a b in grind (arith, nat_tests)

pub row_fails : (x y : Option (List (Option Man))) (room : ℕ) → if_room room x ≡ None → if_size room (joined x y) ≡ None
row_fails None y room h = refl
row_fails (Some a) None room h = refl
row_fails (Some a) (Some b) room h = not_if (length (a ++ b) == room) (Some (a ++ b)) (too_long a b room (no_room (nat_le (length a) room) a None refl h))

pub row_at : (bytes : List ℕ) (i d : ℕ) → i < length bytes → row_squares (drop i bytes) ≡ joined (squares_of (get_or bytes i d)) (row_squares (drop (i + 1) bytes))
unfolding row_squares
row_at bytes i d small = rw (add-one, drop-cons bytes i d) refl

pub row_past : (bytes : List ℕ) (i : ℕ) → length bytes ≤ i → row_squares (drop i bytes) ≡ Some []
unfolding row_squares
row_past bytes i large = rw (drop_all i bytes large) refl

-- nothing is left, and the row is as long as it is to be
pub row_ends : (v : Bool) (room : ℕ) (men : List (Option Man)) → v ≡ (0 == room) → Adds v men men (if v then Some [] else None)
row_ends true room men e = ([], refl, sym (append-nil men))
row_ends false room men e = refl

-- the same at a place of the row
pub row_fails_at : (bytes : List ℕ) (i room room' : ℕ) → i < length bytes → room' ≡ room → if_room room' (squares_of (get_or bytes i 0)) ≡ None → if_size room (row_squares (drop i bytes)) ≡ None
row_fails_at bytes i room room' small e h = rw (row_at bytes i 0 small, ← e) (row_fails (squares_of (get_or bytes i 0)) (row_squares (drop (i + 1) bytes)) room' h)

pub row_step_at : (bytes : List ℕ) (i room room' left : ℕ) (old mid out : List (Option Man)) (r : Bool) → i < length bytes → room' ≡ room
    → Adds true old mid (if_room room' (squares_of (get_or bytes i 0))) → length mid + left ≡ length old + room → Adds r mid out (if_size left (row_squares (drop (i + 1) bytes))) → Adds r old out (if_size room (row_squares (drop i bytes)))
row_step_at bytes i room room' left old mid out r small e h f k =
    let h' = rw e at h in
    rw (row_at bytes i 0 small) (row_step (squares_of (get_or bytes i 0)) (row_squares (drop (i + 1) bytes)) room left old mid out r h' f k)

pub row_end_at : (bytes : List ℕ) (i room : ℕ) (v : Bool) (men : List (Option Man)) → length bytes ≤ i → v ≡ (0 == room) → Adds v men men (if_size room (row_squares (drop i bytes)))
row_end_at bytes i room v men large e = rw (row_past bytes i large, ← e) (row_ends v room men e)

pub end_test : (a b n : ℕ) → a ≡ n → n ≤ b → (a == b) ≡ (0 == b - n)
end_test a b n e small = grind (arith, nat_tests)
