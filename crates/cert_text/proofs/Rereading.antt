-- What is written is read again.
use Rattle.std.proofs.Common.{◌≡◌, ◌≢◌, ℕ, suc, ◌+◌, ◌^◌, ◌<◌, ◌==◌, nat_lt, Bool, true, false, not, List, [], ◌∷◌, ◌++◌, map, length, get_or, Result, Ok, Err, IfErr, refl, sym, ap, subst, ◌∙◌, arith, append_assoc, append-nil}
use Rattle.std.specs.List.{list_all, flat_map, All}
use Rattle.std.specs.Int.{bit_at}
use Rattle.std.proofs.lemmas.Bool.{and_from}
use Rattle.std.proofs.lemmas.List.{length-append, get_or_append_left, get_or_at}
use Rattle.std.proofs.lemmas.Nat.Bits.{bit_at-zero}
use Rattle.cha_board.specs.declared.men.Color.{Color}
use Rattle.cha_board.specs.Board.{Board, IsValid}
use Rattle.cha_board.specs.SquareSets.{empty_set, set_of_bits, bits_of_set}
use Rattle.cha_board.proofs.SetLaws.{same_set}
use Rattle.mob_sets.specs.Rows.{Row, row_place}
use Rattle.mob_sets.specs.Tidy.{AreTidy, IsFull}
use Rattle.cha_cert.specs.declared.nodes.Node.{Node}
use Rattle.cha_cert.specs.declared.nodes.Part.{Part}
use Rattle.cha_cert.specs.declared.nodes.Part.TheVariants.{Inner, Leaf, Men}
use Rattle.cert_text.specs.declared.faults.CertKind.TheVariants as kinds
use Rattle.cert_text.specs.declared.labels.Label.TheVariants as labels
use Rattle.cert_text.specs.Spelled.{header_line, end_line, winner_line, count_line, row_line, position_line, part_lines, node_lines, cert_lines, cert_text}
use Rattle.cert_text.specs.TextLines.{lines_of, tail_of}
use Rattle.cert_text.specs.Texts.{found, fixed_of, follows, wanted, begins_reach, rows_after, leaf_after, node_after, nodes_after, ended, cert_of}
use Rattle.cert_text.specs.declared.faults.CertFault.{CertFault}
use Rattle.cert_text.specs.Writable.{IsWritable, IsWritablePart, IsCertText}
use Rattle.cert_text.proofs.Parts.{parts_read}
use Rattle.cert_text.proofs.Plain.{cert_plain}
use Rattle.cert_text.proofs.LinesAgain.{not_zero, less_test, lines_again, no_tail, fixed_again, winner_again, count_again, set_again, loose_again, row_again, position_again}
use Rattle.cert_text.proofs.LabelsAgain.{line_labelled}

-- lines of which the first does not begin as a row
unfoldable pub NotRow : List (List ℕ) → Type 0
NotRow [] = Unit {0}
NotRow (line ∷ lines) = begins_reach line ≡ false

row_begins : (row : Row) → begins_reach (row_line row) ≡ true
unfolding row_line
row_begins row = refl

-- a row of tidy rows follows those before it
all_before : (p : Row → Bool) (rows : List Row) → ((k : ℕ) (d : Row) → k < length rows → p (get_or rows k d) ≡ true) → list_all p rows ≡ true
all_before p [] each = refl
all_before p (row ∷ rows) each = and_from (p row) (list_all p rows) (each 0 row (omega arith)) (all_before p rows (λ k d inside. each (suc k) d (omega arith)))

nothing_shown : set_of_bits 0 ≡ empty_set
nothing_shown = same_set (λ s. bit_at 0 s == 1) (λ _. false) (λ s small. ap (λ x. x == 1) (bit_at-zero s))

full_bits : (set : List Bool) → length set ≡ 64 → set ≢ empty_set → not (bits_of_set set == 0) ≡ true
full_bits set width some = not_zero (bits_of_set set) (λ e. some (sym (set_again set width) ∙ ap set_of_bits e ∙ nothing_shown))

follows_all : (rows : List Row) (row : Row) (more : List Row) → AreTidy (rows ++ row ∷ more) → follows rows row ≡ true
follows_all rows row more tidy =
    let here = λ (d : Row). get_or_at rows row more d (length rows) refl in
    let full = subst IsFull (here row) (tidy.full (length rows) row (omega (arith, length-append rows (row ∷ more)))) in
    and_from (not (bits_of_set row.squares == 0)) _ (full_bits row.squares full.width full.some)
    (all_before (λ r. nat_lt (row_place r) (row_place row)) rows (λ k d inside.
    let up = tidy.ordered k (length rows) d inside (omega (arith, length-append rows (row ∷ more))) in
    let low : row_place (get_or rows k d) < row_place row = rw (get_or_append_left rows (row ∷ more) d k inside, here d) at up in
    less_test (row_place (get_or rows k d)) (row_place row) low))

row_width : (rows : List Row) (row : Row) (more : List Row) → AreTidy (rows ++ row ∷ more) → length row.squares ≡ 64
row_width rows row more tidy =
    (subst IsFull (get_or_at rows row more row (length rows) refl) (tidy.full (length rows) row (omega (arith, length-append rows (row ∷ more))))).width

-- rows are read again
rows_end : (tail : List ℕ) (rows : List Row) (n : ℕ) (rest : List (List ℕ)) → begins_reach tail ≡ false → NotRow rest → rows_after tail rows n rest ≡ found rows n rest
unfolding rows_after NotRow
rows_end tail rows n [] t none = rw t refl
rows_end tail rows n (line ∷ lines) t none = rw none refl

pub rows_again : (rows more : List Row) (n : ℕ) (rest : List (List ℕ)) → AreTidy (rows ++ more) → All (λ row. row.origin < 64) more → NotRow rest
    → (m : ℕ) × (rows_after [] rows n (map row_line more ++ rest) ≡ found (rows ++ more) m rest)
unfolding rows_after
rows_again rows [] n rest tidy known none = (n, rows_end [] rows n rest refl none ∙ ap (λ rs. found rs n rest) (sym (append-nil rows)))
rows_again rows (row ∷ more) n rest tidy known none =
    let behind = follows_all rows row more tidy in
    let read = row_again rows row behind (known 0 row (omega arith)) (row_width rows row more tidy) in
    let together : (rows ++ row ∷ []) ++ more ≡ rows ++ row ∷ more = append_assoc rows (row ∷ []) more in
    let next = rows_again (rows ++ row ∷ []) more (n + 1) rest (subst AreTidy (sym together) tidy) (λ k d inside. known (suc k) d (omega arith)) none in
    (next.0, rw (row_begins row, read) (next.1 ∙ ap (λ rs. found rs next.0 rest) together))

-- a node is read again
part_again : (q : Board) (part : Part) (n : ℕ) (rest : List (List ℕ)) → IsValid q → IsWritablePart part → NotRow rest
    → (m : ℕ) × (node_after [] n (part_lines q part ++ rest) ≡ found (record { position = q; part = part }) m rest)
unfolding node_after leaf_after wanted
part_again q (Men reason) n rest valid ok none = absurd ok
part_again q Inner n rest valid ok none = (n + 1, rw (line_labelled labels.Inner q, position_again labels.Inner q valid) refl)
part_again q (Leaf sets) n rest valid ok none =
    let rows = rows_again [] sets.rows (n + 1 + 1) rest ok.0 ok.1 none in
    (rows.0, rw (line_labelled labels.Leaf q, position_again labels.Leaf q valid, loose_again sets.loose ok.2, rows.1) refl)

part_no_row : (q : Board) (part : Part) (a b : List (List ℕ)) → IsWritablePart part → NotRow ((part_lines q part ++ a) ++ b)
unfolding NotRow position_line
part_no_row q Inner a b ok = refl
part_no_row q (Leaf sets) a b ok = refl
part_no_row q (Men reason) a b ok = absurd ok

first_no_row : (nodes : List Node) → All IsWritable nodes → NotRow (flat_map node_lines nodes ++ end_line ∷ [])
unfolding NotRow
first_no_row [] ok = refl
first_no_row (node ∷ nodes) ok = part_no_row node.position node.part (flat_map node_lines nodes) (end_line ∷ []) (ok 0 node (omega arith)).part

nodes_again : (nodes more : List Node) (n : ℕ) → All IsWritable more
    → (m : ℕ) × (nodes_after [] (length more) nodes n (flat_map node_lines more ++ end_line ∷ []) ≡ found (nodes ++ more) m (end_line ∷ []))
unfolding nodes_after
nodes_again nodes [] n ok = (n, ap (λ ns. found ns n (end_line ∷ [])) (sym (append-nil nodes)))
nodes_again nodes (node ∷ more) n ok =
    let here = ok 0 node (omega arith) in
    let read = part_again node.position node.part n (flat_map node_lines more ++ end_line ∷ []) here.position here.part (first_no_row more (λ k d inside. ok (suc k) d (omega arith))) in
    let next = nodes_again (nodes ++ node ∷ []) more read.0 (λ k d inside. ok (suc k) d (omega arith)) in
    let cut = append_assoc (node_lines node) (flat_map node_lines more) (end_line ∷ []) in
    (next.0, rw (cut, read.1) (next.1 ∙ ap (λ ns. found ns next.0 (end_line ∷ [])) (append_assoc nodes (node ∷ []) more)))

pub text_again : (w : Color) (nodes : List Node) (text : List ℕ) → text ≡ cert_text w nodes → 0 < length nodes → length nodes < 2 ^ 32 → All IsWritable nodes → cert_of text ≡ Ok (record { winner = w; cert = nodes })
unfolding wanted cert_lines
text_again w nodes text e some few ok =
    let flat = cert_plain w nodes (omega (arith, few)) in
    let lines : lines_of text ≡ cert_lines w nodes = ap lines_of e ∙ lines_again (cert_lines w nodes) flat in
    let tail : tail_of text ≡ [] = ap tail_of e ∙ no_tail (cert_lines w nodes) flat in
    let body = nodes_again [] nodes 4 ok in
    let inside = flat_map node_lines nodes ++ end_line ∷ [] in
    parts_read text [] w (length nodes) nodes 2 3 4 body.0 (body.0 + 1) (winner_line w ∷ count_line (length nodes) ∷ inside) (count_line (length nodes) ∷ inside) inside (end_line ∷ []) [] (Ok (record { winner = w; cert = nodes }))
    (ap (wanted (fixed_of header_line) kinds.Header 1) lines ∙ rw (fixed_again header_line) refl)
    (rw (winner_again w) refl)
    (rw (count_again (length nodes) some few) refl)
    (sym tail) body.1
    (rw (fixed_again end_line) refl)
    (ap (λ t. ended (body.0 + 1) [] t (record { winner = w; cert = nodes })) tail)

-- what is said is not two things
pub one_saying : {X : Type 0} (x : X) (said : Result X CertFault) (fault : CertFault) → said ≡ Ok x → said ≡ Err fault → ⊥
one_saying x said fault ok err = cc

-- a text of which a fault is said is that of no certificate
pub no_text : (bytes : List ℕ) (fault : CertFault) → cert_of bytes ≡ Err fault → (w : Color) (nodes : List Node) → IsCertText w nodes bytes → ⊥
no_text bytes fault says w nodes text =
    one_saying (record { winner = w; cert = nodes }) (cert_of bytes) fault (text_again w nodes bytes (sym text.spelled) text.some text.few text.writable) says

pub none_refused : {X : Type 0} (bytes : List ℕ) (r : Result X CertFault) → IfErr r (λ fault. fault.kind ≢ kinds.NoMemory → cert_of bytes ≡ Err fault)
    → IfErr r (λ fault. fault.kind ≢ kinds.NoMemory → (w : Color) (nodes : List Node) → IsCertText w nodes bytes → ⊥)
none_refused bytes (Ok x) said = said
none_refused bytes (Err fault) said = λ kind w nodes text. no_text bytes fault (said kind) w nodes text
