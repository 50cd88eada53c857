-- What is written is read again.
use Rattle.std.proofs.Common.{◌≡◌, ℕ, zero, suc, ◌+◌, ◌-◌, ◌*◌, ◌/◌, ◌%◌, ◌<◌, ◌≤◌, ◌==◌, Bool, true, false, ◌&&◌, nat_lt, nat_le, List, [], ◌∷◌, ◌++◌, Option, Some, None, length, take, drop, replicate, refl, sym, ap, ◌∙◌, arith, append_assoc, append-nil, length-drop, take-add}
use Rattle.std.specs.List.{list_all}
use Rattle.std.proofs.lemmas.Bool.{and_parts, and_from}
use Rattle.std.proofs.lemmas.Bool.Decides.{nat_tests}
use Rattle.std.proofs.lemmas.List.{take_all, length-take, replicate_more}
use Rattle.std.proofs.lemmas.List.Folds.{list_all-append}
use Rattle.cha_list.specs.Bytes.{is_from}
use Rattle.cha_board.specs.declared.men.Color.{Color}
use Rattle.cha_board.specs.declared.men.Color.TheVariants.{White, Black}
use Rattle.cha_board.specs.declared.men.Kind.{Kind}
use Rattle.cha_board.specs.declared.men.Kind.TheVariants.{Pawn, Knight, Bishop, Rook, Queen, King}
use Rattle.cha_board.specs.declared.men.Man.{Man}
use Rattle.cha_board.specs.declared.position.Rights.{Rights}
use Rattle.cha_board.specs.Letters.{kind_of, man_of, square_text}
use Rattle.cha_fen.specs.Placement.{rows, squares_of, row_squares, if_size, men_upward, men_of_rows, placement_of}
use Rattle.cha_fen.specs.Fen.{side_of, are_rights, rights_of, target_of}
use Rattle.cha_board.specs.Letters.{letter_of}
use Rattle.cha_fen.specs.Written.{run_text, row_text_after, rank_men, ranks_text, side_text, rights_text, target_text}

-- Every byte of a field is above the slash.
unfoldable pub above : ℕ → Bool
above b = nat_lt 47 b

no_slash : (b : ℕ) → nat_lt 47 b ≡ true → (b == 47) ≡ false
no_slash b h = grind (arith, nat_tests)

-- squares and letters
letter_read_at : (c : Color) (k : Kind) → squares_of (letter_of (record { color = c; kind = k })) ≡ Some (Some (record { color = c; kind = k }) ∷ [])
unfolding squares_of man_of kind_of letter_of
letter_read_at White Pawn = refl
letter_read_at White Knight = refl
letter_read_at White Bishop = refl
letter_read_at White Rook = refl
letter_read_at White Queen = refl
letter_read_at White King = refl
letter_read_at Black Pawn = refl
letter_read_at Black Knight = refl
letter_read_at Black Bishop = refl
letter_read_at Black Rook = refl
letter_read_at Black Queen = refl
letter_read_at Black King = refl

letter_above_at : (c : Color) (k : Kind) → above (letter_of (record { color = c; kind = k })) ≡ true
unfolding above letter_of
letter_above_at White Pawn = refl
letter_above_at White Knight = refl
letter_above_at White Bishop = refl
letter_above_at White Rook = refl
letter_above_at White Queen = refl
letter_above_at White King = refl
letter_above_at Black Pawn = refl
letter_above_at Black Knight = refl
letter_above_at Black Bishop = refl
letter_above_at Black Rook = refl
letter_above_at Black Queen = refl
letter_above_at Black King = refl

digit_tests : (n : ℕ) → 0 < n → n ≤ 8 → is_from 49 56 (n + 48) ≡ true
digit_tests n some few = and_from (nat_le 49 (n + 48)) (nat_le (n + 48) 56) (grind (arith, nat_tests)) (grind (arith, nat_tests))

run_read : (n : ℕ) → 0 < n → n ≤ 8 → squares_of (n + 48) ≡ Some (replicate n None)
unfolding squares_of
run_read n some few =
    let size : n + 48 - 48 ≡ n = omega arith in
    rw (digit_tests n some few, size) refl

not_zero : (m : ℕ) → (suc m == 0) ≡ false
not_zero m = grind (arith, nat_tests)

run_front : (n : ℕ) (bs : List ℕ) (men : List (Option Man)) → n ≤ 8 → row_squares bs ≡ Some men → row_squares (run_text n ++ bs) ≡ Some (replicate n None ++ men)
unfolding row_squares
run_front zero bs men few h = h
run_front (suc m) bs men few h = rw (not_zero m, run_read (suc m) (omega arith) few, h) refl

row_read : (n : ℕ) (men : List (Option Man)) → n + length men ≤ 8 → row_squares (row_text_after n men) ≡ Some (replicate n None ++ men)
unfolding row_squares row_text_after
row_read n [] few = ap row_squares (sym (append-nil (run_text n))) ∙ run_front n [] [] (omega arith) refl
row_read n (None ∷ men) few =
    row_read (n + 1) men (omega arith) ∙ ap (λ x. Some (x ++ men)) (sym (replicate_more n None)) ∙ ap Some (append_assoc (replicate n None) (None ∷ []) men)
row_read n (Some man ∷ men) few =
    let rest = row_read 0 men (omega arith) in
    run_front n (letter_of man ∷ row_text_after 0 men) (Some man ∷ men) (omega arith) (rw (letter_read_at man.color man.kind, rest) refl)

run_above : (n : ℕ) → list_all above (run_text n) ≡ true
unfolding above
run_above zero = refl
run_above (suc m) = rw (not_zero m) (and_from (nat_lt 47 (suc m + 48)) true (grind (arith, nat_tests)) refl)

pub row_above : (n : ℕ) (men : List (Option Man)) → list_all above (row_text_after n men) ≡ true
unfolding row_text_after
row_above n [] = run_above n
row_above n (None ∷ men) = row_above (n + 1) men
row_above n (Some man ∷ men) =
    list_all-append above (run_text n) (letter_of man ∷ row_text_after 0 men)
    ∙ and_from (list_all above (run_text n)) _ (run_above n) (and_from (above (letter_of man)) _ (letter_above_at man.color man.kind) (row_above 0 men))

-- rows
rows_one : (w : List ℕ) → list_all above w ≡ true → rows w ≡ w ∷ []
unfolding rows above
rows_one [] h = refl
rows_one (b ∷ bs) h =
    let both = and_parts (nat_lt 47 b) (list_all above bs) h in
    rw (no_slash b both.0, rows_one bs both.1) refl

rows_more : (w rest : List ℕ) → list_all above w ≡ true → rows (w ++ 47 ∷ rest) ≡ w ∷ rows rest
unfolding rows above
rows_more [] rest h = refl
rows_more (b ∷ bs) rest h =
    let both = and_parts (nat_lt 47 b) (list_all above bs) h in
    rw (no_slash b both.0, rows_more bs rest both.1) refl

rank_list : ℕ → List (Option Man) → List (List ℕ)
rank_list zero men = []
rank_list (suc n) men = row_text_after 0 (rank_men men n) ∷ rank_list n men

rows_ranks : (n : ℕ) (men : List (Option Man)) → rows (ranks_text (suc n) men) ≡ rank_list (suc n) men
unfolding rank_list ranks_text
rows_ranks zero men =
    let row = row_text_after 0 (rank_men men 0) in
    ap rows (append-nil row) ∙ rows_one row (row_above 0 (rank_men men 0))
rows_ranks (suc n) men =
    let row = row_text_after 0 (rank_men men (suc n)) in
    rows_more row (ranks_text (suc n) men) (row_above 0 (rank_men men (suc n))) ∙ ap (λ x. row ∷ x) (rows_ranks n men)

rank_count : (n : ℕ) (men : List (Option Man)) → length (rank_list n men) ≡ n
unfolding rank_list
rank_count zero men = refl
rank_count (suc n) men = ap suc (rank_count n men)

eight : (xs : List (Option Man)) → length xs ≡ 8 → if_size 8 (Some xs) ≡ Some xs
eight xs e = let t : (length xs == 8) ≡ true = grind (arith, nat_tests) in rw t refl

ranks_read : (n : ℕ) (men : List (Option Man)) → 8 * n ≤ length men → men_upward (rank_list n men) ≡ Some (take (8 * n) men)
unfolding rank_list men_upward
ranks_read zero men few = refl
ranks_read (suc n) men few =
    let size : length (rank_men men n) ≡ 8 = omega (arith, length-take 8 (drop (8 * n) men), length-drop (8 * n) men) in
    let more : 8 * suc n ≡ 8 * n + 8 = omega arith in
    let row : row_squares (row_text_after 0 (rank_men men n)) ≡ Some (rank_men men n) = row_read 0 (rank_men men n) (omega arith) in
    rw (ranks_read n men (omega arith), row, eight (rank_men men n) size, more) (ap Some (sym (take-add (8 * n) 8 men)))

pub men_read : (men : List (Option Man)) → length men ≡ 64 → placement_of (ranks_text 8 men) ≡ Some men
unfolding men_of_rows
men_read men size =
    let t : (length (rank_list 8 men) == 8) ≡ true = (let e = rank_count 8 men in grind (arith, nat_tests)) in
    rw (rows_ranks 7 men, t) (ranks_read 8 men (omega arith) ∙ ap Some (take_all 64 men (omega arith)))

-- the other fields
pub side_read : (c : Color) → side_of (side_text c) ≡ Some c
unfolding side_of
side_read White = refl
side_read Black = refl

rights_read_at : (a b c d : Bool) → rights_of (rights_text (record { white_king = a; white_queen = b; black_king = c; black_queen = d })) ≡ Some (record { white_king = a; white_queen = b; black_king = c; black_queen = d })
unfolding rights_of are_rights rights_text
rights_read_at true true true true = refl
rights_read_at true true true false = refl
rights_read_at true true false true = refl
rights_read_at true true false false = refl
rights_read_at true false true true = refl
rights_read_at true false true false = refl
rights_read_at true false false true = refl
rights_read_at true false false false = refl
rights_read_at false true true true = refl
rights_read_at false true true false = refl
rights_read_at false true false true = refl
rights_read_at false true false false = refl
rights_read_at false false true true = refl
rights_read_at false false true false = refl
rights_read_at false false false true = refl
rights_read_at false false false false = refl

pub rights_read : (r : Rights) → rights_of (rights_text r) ≡ Some r
rights_read r = rights_read_at r.white_king r.white_queen r.black_king r.black_queen

square_tests : (s : ℕ) → s < 64 → (is_from 97 104 (s % 8 + 97) && is_from 49 56 (s / 8 + 49)) ≡ true
square_tests s small =
    and_from (is_from 97 104 (s % 8 + 97)) (is_from 49 56 (s / 8 + 49))
    (and_from (nat_le 97 (s % 8 + 97)) (nat_le (s % 8 + 97) 104) (grind (arith, nat_tests)) (grind (arith, nat_tests)))
    (and_from (nat_le 49 (s / 8 + 49)) (nat_le (s / 8 + 49) 56) (grind (arith, nat_tests)) (grind (arith, nat_tests)))

pub target_read : (t : Option ℕ) → ((s : ℕ) → t ≡ Some s → s < 64) → target_of (target_text t) ≡ Some t
unfolding target_of target_text square_text
target_read None small = refl
target_read (Some s) small =
    let back : (s % 8 + 97 - 97) + 8 * (s / 8 + 49 - 49) ≡ s = omega arith in
    rw (square_tests s (small s refl), back) refl
