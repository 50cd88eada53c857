-- No line has a line feed in it.
use Rattle.std.proofs.Common.{◌≡◌, ℕ, zero, suc, ◌+◌, ◌/◌, ◌%◌, ◌^◌, ◌<◌, ◌≤◌, nat_lt, Bool, true, false, length, List, [], ◌∷◌, ◌++◌, map, Option, Some, None, codes, decimal, refl, ◌∙◌, arith, inl, inr}
use Rattle.std.specs.List.{list_all, flat_map}
use Rattle.std.proofs.lemmas.Bool.{and_parts, and_from, cases_lt}
use Rattle.std.proofs.lemmas.Bool.Decides.{nat_tests}
use Rattle.std.proofs.lemmas.Fmt.{decimal_by_steps}
use Rattle.std.proofs.lemmas.List.Folds.{list_all-append}
use Rattle.cha_board.specs.declared.men.Color.{Color}
use Rattle.cha_board.specs.declared.men.Color.TheVariants.{White, Black}
use Rattle.cha_board.specs.declared.men.Kind.{Kind}
use Rattle.cha_board.specs.declared.men.Kind.TheVariants.{Pawn, Knight, Bishop, Rook, Queen, King}
use Rattle.cha_board.specs.declared.men.Man.{Man}
use Rattle.cha_board.specs.Squares.{file_of, rank_of}
use Rattle.cha_board.specs.Board.{Board}
use Rattle.cha_board.specs.SquareSets.{bits_of_set}
use Rattle.cha_board.specs.Letters.{kind_letter, square_text}
use Rattle.cha_fen.specs.Written.{row_text_after, rank_men, ranks_text, side_text, rights_text, target_text, fen_text}
use Rattle.cha_fen.proofs.RoundTrip.{above, row_above}
use Rattle.mob_sets.specs.Rows.{Row, SetRows}
use Rattle.cha_cert.specs.declared.nodes.Node.{Node}
use Rattle.cha_cert.specs.declared.nodes.Part.{Part}
use Rattle.cha_cert.specs.declared.nodes.Part.TheVariants.{Inner, Leaf, Men}
use Rattle.cert_text.specs.declared.labels.Label.{Label}
use Rattle.cert_text.specs.declared.labels.Label.TheVariants as labels
use Rattle.cert_text.specs.Labels.{label_word}
use Rattle.cert_text.proofs.LabelsAgain.{all_within, word_big}
use Rattle.cert_text.specs.Digits.{hex_digit, hex_digits}
use Rattle.cert_text.specs.Spelled.{set_text, end_line, winner_line, count_line, loose_line, row_line, position_line, part_lines, node_lines, cert_lines}

-- a byte above the line feed
abbrev pub plain : ℕ → Bool
plain b = nat_lt 10 b

over : (b : ℕ) → 11 ≤ b → plain b ≡ true
over b big = grind (arith, nat_tests)

pub both_plain : (a b : List ℕ) → list_all plain a ≡ true → list_all plain b ≡ true → list_all plain (a ++ b) ≡ true
both_plain a b p q = list_all-append plain a b ∙ and_from (list_all plain a) (list_all plain b) p q

pub one_plain : (b : ℕ) (bs : List ℕ) → 11 ≤ b → list_all plain bs ≡ true → list_all plain (b ∷ bs) ≡ true
one_plain b bs big rest = and_from (plain b) (list_all plain bs) (over b big) rest

lower : (b : ℕ) → nat_lt 47 b ≡ true → 11 ≤ b
lower b t = grind (arith, nat_tests)

row_plain : (w : List ℕ) → list_all above w ≡ true → list_all plain w ≡ true
unfolding above
row_plain [] t = refl
row_plain (b ∷ bs) t = (let both = and_parts (nat_lt 47 b) (list_all above bs) t in one_plain b bs (lower b both.0) (row_plain bs both.1))

ranks_plain : (n : ℕ) (men : List (Option Man)) → list_all plain (ranks_text n men) ≡ true
unfolding ranks_text
ranks_plain zero men = refl
ranks_plain (suc zero) men =
    let row = row_text_after 0 (rank_men men 0) in
    both_plain row [] (row_plain row (row_above 0 (rank_men men 0))) refl
ranks_plain (suc (suc n)) men =
    let row = row_text_after 0 (rank_men men (suc n)) in
    both_plain row (47 ∷ ranks_text (suc n) men) (row_plain row (row_above 0 (rank_men men (suc n)))) (one_plain 47 (ranks_text (suc n) men) (omega arith) (ranks_plain (suc n) men))

side_plain : (c : Color) → list_all plain (side_text c) ≡ true
side_plain White = refl
side_plain Black = refl

rights_plain_at : (a b c d : Bool) → list_all plain (rights_text (record { white_king = a; white_queen = b; black_king = c; black_queen = d })) ≡ true
unfolding rights_text
rights_plain_at true true true true = refl
rights_plain_at true true true false = refl
rights_plain_at true true false true = refl
rights_plain_at true true false false = refl
rights_plain_at true false true true = refl
rights_plain_at true false true false = refl
rights_plain_at true false false true = refl
rights_plain_at true false false false = refl
rights_plain_at false true true true = refl
rights_plain_at false true true false = refl
rights_plain_at false true false true = refl
rights_plain_at false true false false = refl
rights_plain_at false false true true = refl
rights_plain_at false false true false = refl
rights_plain_at false false false true = refl
rights_plain_at false false false false = refl

target_plain : (t : Option ℕ) → list_all plain (target_text t) ≡ true
unfolding target_text square_text
target_plain None = refl
target_plain (Some s) = one_plain (s % 8 + 97) ((s / 8 + 49) ∷ []) (omega arith) (one_plain (s / 8 + 49) [] (omega arith) refl)

pub fen_plain : (q : Board) → list_all plain (fen_text q) ≡ true
unfolding fen_text
fen_plain q =
    let a = ranks_text 8 q.men in
    let b = side_text q.side in
    let r = rights_text q.rights in
    let t = target_text q.target in
    both_plain ((a ++ (32 ∷ b)) ++ (32 ∷ r)) (32 ∷ t)
    (both_plain (a ++ (32 ∷ b)) (32 ∷ r) (both_plain a (32 ∷ b) (ranks_plain 8 q.men) (one_plain 32 b (omega arith) (side_plain q.side)))
    (one_plain 32 r (omega arith) (rights_plain_at q.rights.white_king q.rights.white_queen q.rights.black_king q.rights.black_queen)))
    (one_plain 32 t (omega arith) (target_plain q.target))

hex_big : (d : ℕ) → 11 ≤ hex_digit d
hex_big d =
    elim (cases_lt d 10) [
      | inl low ↦ (let test : nat_lt d 10 ≡ true = grind (arith, nat_tests) in rw test (omega arith))
      | inr high ↦ (let test : nat_lt d 10 ≡ false = grind (arith, nat_tests) in rw test (omega arith))
    ]

hex_plain : (k n : ℕ) → list_all plain (hex_digits k n) ≡ true
unfolding hex_digits
hex_plain zero n = refl
hex_plain (suc k) n = both_plain (hex_digits k (n / 16)) (hex_digit (n % 16) ∷ []) (hex_plain k (n / 16)) (one_plain (hex_digit (n % 16)) [] (hex_big (n % 16)) refl)

pub decimal_plain : (n : ℕ) → n < 2 ^ 64 → list_all plain (decimal n) ≡ true
decimal_plain n small =
    decimal_by_steps (λ m ds. list_all plain ds ≡ true) (λ m few. one_plain (48 + m) [] (omega arith) refl)
    (λ m ds big rest. both_plain ds ((48 + m % 10) ∷ []) rest (one_plain (48 + m % 10) [] (omega arith) refl)) n small

letter_big : (k : Kind) → 11 ≤ kind_letter k
letter_big Pawn = omega arith
letter_big Knight = omega arith
letter_big Bishop = omega arith
letter_big Rook = omega arith
letter_big Queen = omega arith
letter_big King = omega arith

-- lines without line feeds
abbrev pub ArePlain : List (List ℕ) → Type 0
ArePlain [] = Unit {0}
ArePlain (line ∷ lines) = (list_all plain line ≡ true) × ArePlain lines

pub plain_append : (a b : List (List ℕ)) → ArePlain a → ArePlain b → ArePlain (a ++ b)
plain_append [] b p q = q
plain_append (line ∷ lines) b p q = (p.0, plain_append lines b p.1 q)

row_line_plain : (row : Row) → list_all plain (row_line row) ≡ true
unfolding row_line square_text
row_line_plain row =
    let hex = set_text row.squares in
    let after_kind = one_plain 32 hex (omega arith) (hex_plain 16 (bits_of_set row.squares)) in
    let kind = one_plain (kind_letter row.kind) (32 ∷ hex) (letter_big row.kind) after_kind in
    let space = one_plain 32 (kind_letter row.kind ∷ 32 ∷ hex) (omega arith) kind in
    let rank = one_plain (rank_of row.origin + 49) (32 ∷ kind_letter row.kind ∷ 32 ∷ hex) (omega arith) space in
    let file = one_plain (file_of row.origin + 97) ((rank_of row.origin + 49) ∷ 32 ∷ kind_letter row.kind ∷ 32 ∷ hex) (omega arith) rank in
    both_plain (codes "reach ") ((file_of row.origin + 97) ∷ (rank_of row.origin + 49) ∷ 32 ∷ kind_letter row.kind ∷ 32 ∷ hex) refl file

rows_plain : (rows : List Row) → ArePlain (map row_line rows)
rows_plain [] = tt
rows_plain (row ∷ rows) = (row_line_plain row, rows_plain rows)

pub sets_plain : (sets : SetRows) → ArePlain (loose_line sets.loose ∷ map row_line sets.rows)
unfolding loose_line
sets_plain sets = (both_plain (codes "loose ") (set_text sets.loose) refl (hex_plain 16 (bits_of_set sets.loose)), rows_plain sets.rows)

below_blank : (b : ℕ) → nat_lt 32 b ≡ true → plain b ≡ true
below_blank b t = grind (arith, nat_tests)

pub position_plain : (label : Label) (q : Board) → list_all plain (position_line label q) ≡ true
unfolding position_line
position_plain label q =
    both_plain (label_word label) (32 ∷ fen_text q) (all_within (λ b. nat_lt 32 b) plain below_blank (label_word label) (word_big label)) (one_plain 32 (fen_text q) (omega arith) (fen_plain q))

part_plain : (q : Board) (part : Part) → ArePlain (part_lines q part)
part_plain q Inner = (position_plain labels.Inner q, tt)
part_plain q (Leaf sets) = (position_plain labels.Leaf q, sets_plain sets)
part_plain q (Men reason) = (position_plain (labels.Men reason) q, tt)

nodes_plain : (nodes : List Node) → ArePlain (flat_map node_lines nodes)
nodes_plain [] = tt
nodes_plain (node ∷ nodes) = plain_append (node_lines node) (flat_map node_lines nodes) (part_plain node.position node.part) (nodes_plain nodes)

pub winner_plain : (w : Color) → list_all plain (winner_line w) ≡ true
unfolding winner_line
winner_plain White = refl
winner_plain Black = refl

pub count_plain : (n : ℕ) → n < 2 ^ 64 → list_all plain (count_line n) ≡ true
unfolding count_line
count_plain n small = both_plain (codes "nodes ") (decimal n) refl (decimal_plain n small)

pub cert_plain : (w : Color) (nodes : List Node) → length nodes < 2 ^ 64 → ArePlain (cert_lines w nodes)
unfolding cert_lines
cert_plain w nodes few = (refl, (winner_plain w, (count_plain (length nodes) few, plain_append (flat_map node_lines nodes) (end_line ∷ []) (nodes_plain nodes) (refl, tt))))
