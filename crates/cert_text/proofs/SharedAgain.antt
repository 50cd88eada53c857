-- Each line of version 2 that is written is read again.
use Rattle.std.proofs.Common.{◌≡◌, ℕ, suc, ◌+◌, ◌%◌, ◌^◌, ◌<◌, ◌≤◌, nat_lt, nat_le, true, false, List, [], ◌∷◌, ◌++◌, length, drop, take, Option, Some, decimal, refl, ap, ◌∙◌, arith}
use Rattle.std.specs.List.{list_all}
use Rattle.std.proofs.Math.Seq.{take-append_seam, drop-append-add}
use Rattle.std.proofs.lemmas.Bool.{and_from, or_from}
use Rattle.std.proofs.lemmas.Bool.Decides.{nat_tests}
use Rattle.std.proofs.lemmas.Fmt.{decimal_by_steps, decimal_nonempty, length-decimal-le}
use Rattle.std.proofs.lemmas.List.{length-append}
use Rattle.std.proofs.lemmas.List.Folds.{list_all-append}
use Rattle.cha_list.specs.Bytes.{is_from}
use Rattle.cha_board.specs.Board.{Board, IsValid}
use Rattle.cha_fen.specs.Fen.{fen}
use Rattle.cha_fen.specs.Written.{fen_text}
use Rattle.cha_fen.proofs.WrittenRead.{written_is_read}
use Rattle.cha_cert.specs.declared.shared.SharedPart.{SharedPart}
use Rattle.cha_cert.specs.declared.shared.SharedPart.TheVariants.{Inner, Leaf, Men}
use Rattle.cha_cert.specs.Shared.{Names}
use Rattle.cert_text.specs.Digits.{value_of}
use Rattle.cert_text.specs.declared.labels.Label.TheVariants as labels
use Rattle.cert_text.specs.Labels.{label_of}
use Rattle.cert_text.specs.SharedSpelled.{sets_line, shared_leaf_line, shared_part_lines}
use Rattle.cert_text.specs.Texts.{kept, position_if, wanted, found}
use Rattle.cert_text.specs.SharedTexts.{small_number, sets_of, number_len, leaf_if, shared_leaf_of, shared_node_of}
use Rattle.cert_text.specs.declared.faults.CertKind.TheVariants as kinds
use Rattle.cert_text.proofs.Numbers.{decimal_read}
use Rattle.cert_text.proofs.LinesAgain.{less_test, no_more, kept_again, text_same, position_again}
use Rattle.cert_text.proofs.LabelsAgain.{solid, solid_over, run_ends, label_again, line_labelled}

-- the number of sets
number_again : (n : ℕ) → n < 4294967296 → small_number n ≡ Some n
number_again n high = rw (less_test n 4294967296 high) refl

sets_size : (d : ℕ) → 0 < d → d ≤ 10 → is_from 6 15 (5 + d) ≡ true
sets_size d low high = and_from (nat_le 6 (5 + d)) (nat_le (5 + d) 15) (grind (arith, nat_tests)) (grind (arith, nat_tests))

pub sets_again : (n : ℕ) → n < 4294967296 → sets_of (sets_line n) ≡ Some n
unfolding sets_of sets_line
sets_again n high =
    let some = decimal_nonempty n (omega arith) in
    let few = length-decimal-le 10 n (omega arith) (omega arith) (omega arith) in
    let size : length (sets_line n) ≡ 5 + length (decimal n) = omega arith in
    let fits : is_from 6 15 (length (sets_line n)) ≡ true = ap (is_from 6 15) size ∙ sets_size (length (decimal n)) some few in
    let value : small_number (value_of 10 (decimal n)) ≡ Some n = ap small_number (decimal_read n (omega arith)) ∙ number_again n high in
    rw fits (kept_again sets_line (small_number (value_of 10 (decimal n))) n value)

-- a decimal number has no blank in it
digit_solid : (m : ℕ) → list_all solid ((48 + m) ∷ []) ≡ true
digit_solid m = and_from (solid (48 + m)) true (solid_over (48 + m) (less_test 32 (48 + m) (omega arith))) refl

decimal_solid : (n : ℕ) → n < 2 ^ 64 → list_all solid (decimal n) ≡ true
decimal_solid n small =
    decimal_by_steps (λ m ds. list_all solid ds ≡ true) (λ m few. digit_solid m)
    (λ m ds big rest. list_all-append solid ds ((48 + m % 10) ∷ []) ∙ and_from (list_all solid ds) (list_all solid ((48 + m % 10) ∷ [])) rest (digit_solid (m % 10))) n small

-- the line of a leaf
line_drop : (ds rest : List ℕ) → drop (length ds + 6) (108 ∷ 101 ∷ 97 ∷ 102 ∷ 32 ∷ (ds ++ 32 ∷ rest)) ≡ rest
line_drop ds rest =
    let size : length ds + 6 ≡ suc (suc (suc (suc (suc (length ds + 1))))) = omega arith in
    ap (λ n. drop n (108 ∷ 101 ∷ 97 ∷ 102 ∷ 32 ∷ (ds ++ 32 ∷ rest))) size ∙ drop-append-add ds (32 ∷ rest) 1

leaf_value : (m i : ℕ) (q : Board) (fenned : Option Board) (named : ℕ) → named ≡ i → fenned ≡ Some q → i < m
    → leaf_if m named (kept (shared_leaf_line named) (shared_leaf_line i q) fenned) ≡ Some (record { position = q; part = Leaf i })
leaf_value m i q fenned named e f low =
    rw (e, f) (rw (text_same (shared_leaf_line i q)) (rw (less_test i m low) refl))

pub shared_leaf_again : (m i : ℕ) (q : Board) → IsValid q → i < m → m < 4294967296 → shared_leaf_of m (shared_leaf_line i q) ≡ Some (record { position = q; part = Leaf i })
unfolding shared_leaf_of shared_leaf_line
shared_leaf_again m i q valid low high =
    let ds = decimal i in
    let line = shared_leaf_line i q in
    let few = length-decimal-le 10 i (omega arith) (omega arith) (omega arith) in
    let len : number_len line ≡ length ds = run_ends ds (fen_text q) (decimal_solid i (omega arith)) in
    let size : length line ≡ 5 + (length ds + (1 + length (fen_text q))) = omega (arith, length-append ds (32 ∷ fen_text q)) in
    let long : nat_lt (length line) (number_len line + 6) ≡ false = no_more (number_len line + 6) (length line) (omega (arith, len, size)) in
    let short : nat_lt 10 (number_len line) ≡ false = no_more (number_len line) 10 (omega (arith, len, few)) in
    let named : value_of 10 (take (number_len line) (ds ++ 32 ∷ fen_text q)) ≡ i =
    ap (λ n. value_of 10 (take n (ds ++ 32 ∷ fen_text q))) len ∙ ap (value_of 10) (take-append_seam ds (32 ∷ fen_text q)) ∙ decimal_read i (omega arith) in
    let text : drop (number_len line + 6) line ≡ fen_text q = ap (λ n. drop (n + 6) line) len ∙ line_drop ds (fen_text q) in
    let fenned : position_if (fen (drop (number_len line + 6) line)) ≡ Some q = ap (λ t. position_if (fen t)) text ∙ ap position_if (written_is_read q valid) in
    rw (or_from (nat_lt (length line) (number_len line + 6)) (nat_lt 10 (number_len line)) long short)
    (leaf_value m i q (position_if (fen (drop (number_len line + 6) line))) (value_of 10 (take (number_len line) (drop 5 line))) named fenned low)

leaf_labelled : (i : ℕ) (q : Board) → label_of (shared_leaf_line i q) ≡ Some labels.Leaf
unfolding shared_leaf_line
leaf_labelled i q = label_again labels.Leaf (decimal i ++ 32 ∷ fen_text q)

-- the line of a node
pub node_line_again : (m : ℕ) (q : Board) (part : SharedPart) (n : ℕ) (rest : List (List ℕ)) → m < 4294967296 → IsValid q → Names m part
    → wanted (shared_node_of m) kinds.Node n (shared_part_lines q part ++ rest) ≡ found (record { position = q; part = part }) (n + 1) rest
unfolding wanted shared_node_of
node_line_again m q Inner n rest high valid named = rw (line_labelled labels.Inner q, position_again labels.Inner q valid) refl
node_line_again m q (Leaf i) n rest high valid named = rw (leaf_labelled i q, shared_leaf_again m i q valid named high) refl
node_line_again m q (Men reason) n rest high valid named = rw (line_labelled (labels.Men reason) q, position_again (labels.Men reason) q valid) refl
