-- What is written of version 2 is read again.
use Rattle.std.proofs.Common.{◌≡◌, ◌≢◌, ℕ, suc, ◌+◌, ◌^◌, ◌<◌, Bool, true, false, List, [], ◌∷◌, ◌++◌, length, Result, Ok, Err, IfErr, refl, sym, ap, ◌∙◌, codes, decimal, arith, append_assoc, append-nil}
use Rattle.std.specs.List.{list_all, flat_map, All}
use Rattle.cha_board.specs.declared.men.Color.{Color}
use Rattle.cha_board.specs.Board.{Board}
use Rattle.cha_fen.specs.Written.{fen_text}
use Rattle.mob_sets.specs.Rows.{SetRows}
use Rattle.cha_cert.specs.declared.shared.SharedNode.{SharedNode}
use Rattle.cha_cert.specs.declared.shared.SharedPart.{SharedPart}
use Rattle.cha_cert.specs.declared.shared.SharedPart.TheVariants.{Inner, Leaf, Men}
use Rattle.cha_cert.specs.Shared.{Shared, Names, AreNamed}
use Rattle.cert_text.specs.declared.faults.CertFault.{CertFault}
use Rattle.cert_text.specs.declared.faults.CertKind.TheVariants as kinds
use Rattle.cert_text.specs.declared.labels.Label.TheVariants as labels
use Rattle.cert_text.specs.Spelled.{end_line, winner_line, count_line, loose_line}
use Rattle.cert_text.specs.SharedSpelled.{sets_line, shared_leaf_line, set_lines, shared_part_lines, shared_node_lines, shared_header_line, shared_lines, shared_text}
use Rattle.cert_text.specs.TextLines.{lines_of, tail_of}
use Rattle.cert_text.specs.Texts.{found, fixed_of, wanted, begins_reach, ended}
use Rattle.cert_text.specs.SharedTexts.{sets_after, shared_node_of, many_after, shared_cert_of}
use Rattle.cert_text.specs.Writable.{IsWritableSets, HasValidPosition, IsSharedText}
use Rattle.cert_text.proofs.SharedParts.{shared_parts_read}
use Rattle.cert_text.proofs.Plain.{plain, ArePlain, both_plain, one_plain, fen_plain, decimal_plain, position_plain, winner_plain, count_plain, sets_plain, plain_append}
use Rattle.cert_text.proofs.LinesAgain.{lines_again, no_tail, fixed_again, winner_again, count_again, loose_again}
use Rattle.cert_text.proofs.Rereading.{NotRow, rows_again, one_saying}
use Rattle.cert_text.proofs.SharedAgain.{sets_again, node_line_again}

-- no line has a line feed in it
sets_line_plain : (n : ℕ) → n < 2 ^ 64 → list_all plain (sets_line n) ≡ true
unfolding sets_line
sets_line_plain n small = both_plain (codes "sets ") (decimal n) refl (decimal_plain n small)

node_plain : (m : ℕ) (q : Board) (part : SharedPart) → m < 2 ^ 64 → Names m part → ArePlain (shared_part_lines q part)
unfolding shared_leaf_line
node_plain m q Inner small named = (position_plain labels.Inner q, tt)
node_plain m q (Men reason) small named = (position_plain (labels.Men reason) q, tt)
node_plain m q (Leaf i) small named =
    (both_plain (codes "leaf ") (decimal i ++ 32 ∷ fen_text q) refl (both_plain (decimal i) (32 ∷ fen_text q) (decimal_plain i (omega (arith, small, named))) (one_plain 32 (fen_text q) (omega arith) (fen_plain q))), tt)

nodes_plain : (m : ℕ) (nodes : List SharedNode) → m < 2 ^ 64 → All (λ node. Names m node.part) nodes → ArePlain (flat_map shared_node_lines nodes)
nodes_plain m [] small named = tt
nodes_plain m (node ∷ nodes) small named =
    plain_append (shared_node_lines node) (flat_map shared_node_lines nodes) (node_plain m node.position node.part small (named 0 node (omega arith))) (nodes_plain m nodes small (λ k d inside. named (suc k) d (omega arith)))

all_sets_plain : (all : List SetRows) → ArePlain (flat_map set_lines all)
all_sets_plain [] = tt
all_sets_plain (sets ∷ all) = plain_append (set_lines sets) (flat_map set_lines all) (sets_plain sets) (all_sets_plain all)

shared_plain : (w : Color) (c : Shared) → length c.sets < 2 ^ 64 → length c.nodes < 2 ^ 64 → AreNamed c → ArePlain (shared_lines w c)
unfolding shared_lines
shared_plain w c few_sets few named = (
  refl,
  (
    winner_plain w,
    (
      sets_line_plain (length c.sets) few_sets,
      plain_append (flat_map set_lines c.sets ++ count_line (length c.nodes) ∷ []) (flat_map shared_node_lines c.nodes ++ end_line ∷ [])
          (plain_append (flat_map set_lines c.sets) (count_line (length c.nodes) ∷ []) (all_sets_plain c.sets) (count_plain (length c.nodes) few, tt))
          (plain_append (flat_map shared_node_lines c.nodes) (end_line ∷ []) (nodes_plain (length c.sets) c.nodes few_sets named) (refl, tt)),
    ),
  ),
)

-- sets are read again
loose_no_row : (set : List Bool) → begins_reach (loose_line set) ≡ false
unfolding loose_line
loose_no_row set = refl

count_no_row : (n : ℕ) → begins_reach (count_line n) ≡ false
unfolding count_line
count_no_row n = refl

one_again : (sets : SetRows) (n : ℕ) (rest : List (List ℕ)) → IsWritableSets sets → NotRow rest → (m : ℕ) × (sets_after [] n (set_lines sets ++ rest) ≡ found sets m rest)
unfolding sets_after wanted
one_again sets n rest ok none =
    let rows = rows_again [] sets.rows (n + 1) rest ok.0 ok.1 none in
    (rows.0, rw (loose_again sets.loose ok.2, rows.1) refl)

next_no_row : (all : List SetRows) (k : ℕ) (rest : List (List ℕ)) → NotRow (flat_map set_lines all ++ count_line k ∷ rest)
unfolding NotRow
next_no_row [] k rest = count_no_row k
next_no_row (sets ∷ all) k rest = loose_no_row sets.loose

all_sets_again : (all more : List SetRows) (n k : ℕ) (rest : List (List ℕ)) → All IsWritableSets more
    → (m : ℕ) × (many_after (sets_after []) (length more) all n (flat_map set_lines more ++ count_line k ∷ rest) ≡ found (all ++ more) m (count_line k ∷ rest))
unfolding many_after
all_sets_again all [] n k rest ok = (n, ap (λ xs. found xs n (count_line k ∷ rest)) (sym (append-nil all)))
all_sets_again all (sets ∷ more) n k rest ok =
    let behind = flat_map set_lines more ++ count_line k ∷ rest in
    let read = one_again sets n behind (ok 0 sets (omega arith)) (next_no_row more k rest) in
    let next = all_sets_again (all ++ sets ∷ []) more read.0 k rest (λ j d inside. ok (suc j) d (omega arith)) in
    let cut = append_assoc (set_lines sets) (flat_map set_lines more) (count_line k ∷ rest) in
    (next.0, rw (cut, read.1) (next.1 ∙ ap (λ xs. found xs next.0 (count_line k ∷ rest)) (append_assoc all (sets ∷ []) more)))

-- nodes are read again
all_nodes_again : (m : ℕ) (nodes more : List SharedNode) (n : ℕ) (rest : List (List ℕ)) → m < 4294967296 → All HasValidPosition more → All (λ node. Names m node.part) more
    → (i : ℕ) × (many_after (wanted (shared_node_of m) kinds.Node) (length more) nodes n (flat_map shared_node_lines more ++ rest) ≡ found (nodes ++ more) i rest)
unfolding many_after
all_nodes_again m nodes [] n rest high valid named = (n, ap (λ xs. found xs n rest) (sym (append-nil nodes)))
all_nodes_again m nodes (node ∷ more) n rest high valid named =
    let read = node_line_again m node.position node.part n (flat_map shared_node_lines more ++ rest) high (valid 0 node (omega arith)) (named 0 node (omega arith)) in
    let next = all_nodes_again m (nodes ++ node ∷ []) more (n + 1) rest high (λ j d inside. valid (suc j) d (omega arith)) (λ j d inside. named (suc j) d (omega arith)) in
    let cut = append_assoc (shared_node_lines node) (flat_map shared_node_lines more) rest in
    (next.0, rw (cut, read) (next.1 ∙ ap (λ xs. found xs next.0 rest) (append_assoc nodes (node ∷ []) more)))

pub shared_again : (w : Color) (c : Shared) (text : List ℕ) → text ≡ shared_text w c → 0 < length c.nodes → length c.nodes < 2 ^ 32 → length c.sets < 2 ^ 32 → AreNamed c → All HasValidPosition c.nodes
    → All IsWritableSets c.sets → shared_cert_of text ≡ Ok (record { winner = w; cert = c })
unfolding wanted shared_lines
shared_again w c text e some few few_sets named valid ok =
    let flat = shared_plain w c (omega (arith, few_sets)) (omega (arith, few)) named in
    let last = end_line ∷ [] in
    let nodes_lines = flat_map shared_node_lines c.nodes ++ last in
    let count_lines = count_line (length c.nodes) ∷ nodes_lines in
    let sets_lines = flat_map set_lines c.sets ++ count_lines in
    let cut : shared_lines w c ≡ shared_header_line ∷ winner_line w ∷ sets_line (length c.sets) ∷ sets_lines =
    ap (λ ls. shared_header_line ∷ winner_line w ∷ sets_line (length c.sets) ∷ ls) (append_assoc (flat_map set_lines c.sets) (count_line (length c.nodes) ∷ []) nodes_lines) in
    let lines : lines_of text ≡ shared_header_line ∷ winner_line w ∷ sets_line (length c.sets) ∷ sets_lines = ap lines_of e ∙ lines_again (shared_lines w c) flat ∙ cut in
    let tail : tail_of text ≡ [] = ap tail_of e ∙ no_tail (shared_lines w c) flat in
    let sets = all_sets_again [] c.sets 4 (length c.nodes) nodes_lines ok in
    let nodes = all_nodes_again (length c.sets) [] c.nodes (sets.0 + 1) last (omega (arith, few_sets)) valid named in
    shared_parts_read text [] w (length c.sets) (length c.nodes) c.sets c.sets c.nodes 2 3 4 sets.0 (sets.0 + 1) nodes.0 (nodes.0 + 1)
    (winner_line w ∷ sets_line (length c.sets) ∷ sets_lines) (sets_line (length c.sets) ∷ sets_lines) sets_lines count_lines nodes_lines last [] (Ok (record { winner = w; cert = c }))
    (ap (wanted (fixed_of shared_header_line) kinds.Header 1) lines ∙ rw (fixed_again shared_header_line) refl)
    (rw (winner_again w) refl)
    (rw (sets_again (length c.sets) (omega (arith, few_sets))) refl)
    (sym tail) sets.1
    (rw (count_again (length c.nodes) some (omega (arith, few))) refl)
    nodes.1
    (rw (fixed_again end_line) refl)
    refl
    (ap (λ t. ended (nodes.0 + 1) [] t (record { winner = w; cert = c })) tail)

-- a text of which a fault is said is that of no shared certificate
pub no_shared_text : (bytes : List ℕ) (fault : CertFault) → shared_cert_of bytes ≡ Err fault → (w : Color) (c : Shared) → IsSharedText w c bytes → ⊥
no_shared_text bytes fault says w c text =
    one_saying (record { winner = w; cert = c }) (shared_cert_of bytes) fault (shared_again w c bytes (sym text.spelled) text.some text.few text.few_sets text.named text.positions text.sets) says

pub none_shared_refused : {X : Type 0} (bytes : List ℕ) (r : Result X CertFault) → IfErr r (λ fault. fault.kind ≢ kinds.NoMemory → shared_cert_of bytes ≡ Err fault)
    → IfErr r (λ fault. fault.kind ≢ kinds.NoMemory → (w : Color) (c : Shared) → IsSharedText w c bytes → ⊥)
none_shared_refused bytes (Ok x) said = said
none_shared_refused bytes (Err fault) said = λ kind w c text. no_shared_text bytes fault (said kind) w c text
