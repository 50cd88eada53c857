-- What is read is spelled so.
use Rattle.std.proofs.Common.{◌≡◌, ℕ, zero, suc, ◌+◌, ◌<◌, ◌==◌, nat_lt, nat_le, Bool, true, false, ◌&&◌, if◌then◌else◌, List, [], ◌∷◌, ◌++◌, map, length, drop, Option, Some, None, Result, Ok, Err, refl, sym, ap, ◌∙◌, arith, append_assoc, append-nil}
use Rattle.std.specs.List.{flat_map}
use Rattle.std.proofs.lemmas.Bool.{and_parts}
use Rattle.std.proofs.lemmas.Bool.Decides.{Decides-eqb, nat_tests}
use Rattle.std.proofs.lemmas.Slice.Eq.{slice_eq-Decides}
use Rattle.cha_list.specs.Bytes.{is_from}
use Rattle.cha_board.specs.declared.men.Color.{Color}
use Rattle.cha_board.specs.declared.men.Color.TheVariants.{White, Black}
use Rattle.cha_board.specs.Board.{Board}
use Rattle.cha_board.specs.SquareSets.{set_of_bits}
use Rattle.mob_sets.specs.Rows.{Row}
use Rattle.cha_cert.specs.declared.nodes.Node.{Node}
use Rattle.cha_cert.specs.declared.nodes.Part.TheVariants.{Inner, Leaf}
use Rattle.cert_text.specs.declared.faults.CertFault.{CertFault}
use Rattle.cert_text.specs.declared.faults.CertKind.{CertKind}
use Rattle.cert_text.specs.declared.faults.CertKind.TheVariants as kinds
use Rattle.cert_text.specs.declared.reader.Certificate.{Certificate}
use Rattle.cert_text.specs.Digits.{value_of}
use Rattle.cert_text.specs.declared.labels.Label.{Label}
use Rattle.cert_text.specs.declared.labels.Label.TheVariants as labels
use Rattle.cert_text.specs.Labels.{label_word, label_of}
use Rattle.cert_text.specs.Spelled.{header_line, end_line, winner_line, count_line, loose_line, row_line, position_line, node_lines, cert_lines, lines_text, cert_text}
use Rattle.cert_text.specs.TextLines.{lines_of, tail_of}
use Rattle.cert_text.specs.Texts.{Parsed, found, misfit, is_text, kept, fixed_of, winner_of, small_count, count_of, loose_of, follows, following, row_of, position_of, and_then, on_some, wanted, begins_reach, rows_after, leaf_after, node_labelled, node_after, nodes_after, ended, cert_of}

-- a text is its lines and what is behind them
join_step : (b : ℕ) (bs : List ℕ) (v : Bool) (lines : List (List ℕ)) → (b == 10) ≡ v → lines_of bs ≡ lines → lines_text lines ++ tail_of bs ≡ bs → lines_text (lines_of (b ∷ bs)) ++ tail_of (b ∷ bs) ≡ b ∷ bs
unfolding lines_of tail_of lines_text
join_step b bs true lines t e ih = (let feed : 10 ≡ b = grind (arith, nat_tests) in rw (t, e) ((λ i. feed i ∷ ih i)))
join_step b bs false [] t e ih = rw (t, e) (ap (λ rest. b ∷ rest) ih)
join_step b bs false (line ∷ lines) t e ih = rw (t, e) (ap (λ rest. b ∷ rest) ih)

pub joined : (bs : List ℕ) → lines_text (lines_of bs) ++ tail_of bs ≡ bs
unfolding lines_of tail_of lines_text
joined [] = refl
joined (b ∷ bs) = join_step b bs (b == 10) (lines_of bs) refl refl (joined bs)

-- what the steps of a reader say when they succeed
pub record Chained {A B : Type 0} (r : Result A CertFault) (next : A → Result B CertFault) (b : B) : Type 0 where
  pub value : A
  pub first : r ≡ Ok value
  pub last : next value ≡ Ok b

pub then_ok : {A B : Type 0} (r : Result A CertFault) (next : A → Result B CertFault) (b : B) → and_then r next ≡ Ok b → Chained r next b
then_ok (Ok a) next b e = record { value = a; first = refl; last = e }
then_ok (Err fault) next b e = cc

pub record Taken {A : Type 0} (read : List ℕ → Option A) (lines : List (List ℕ)) (f : Parsed A) : Type 0 where
  pub line : List ℕ
  pub is : lines ≡ line ∷ f.lines
  pub says : read line ≡ Some f.value

some_ok : {A : Type 0} (read : List ℕ → Option A) (kind : CertKind) (n : ℕ) (line : List ℕ) (lines : List (List ℕ)) (f : Parsed A) (o : Option A) → read line ≡ o
    → on_some o (misfit n kind) (λ a. found a (n + 1) lines) ≡ Ok f → Taken read (line ∷ lines) f
some_ok read kind n line lines f None r e = cc
some_ok read kind n line lines f (Some a) r e =
    let found_is : record { value = a; number = n + 1; lines = lines } ≡ f = cc in
    record { line = line; is = ap (λ g. line ∷ g.lines) found_is; says = r ∙ ap (λ g. Some g.value) found_is }

pub wanted_ok : {A : Type 0} (read : List ℕ → Option A) (kind : CertKind) (n : ℕ) (lines : List (List ℕ)) (f : Parsed A) → wanted read kind n lines ≡ Ok f → Taken read lines f
unfolding wanted
wanted_ok read kind n [] f e = cc
wanted_ok read kind n (line ∷ lines) f e = some_ok read kind n line lines f (read line) refl e

same_text : (a b : List ℕ) → is_text a b ≡ true → a ≡ b
same_text a b t = (slice_eq-Decides Decides-eqb a b (is_text a b) refl).0 t

pub if_some : {A : Type 0} (t : Bool) (a x : A) → (if t then Some a else None) ≡ Some x → (t ≡ true) × (a ≡ x)
if_some true a x e = (refl, cc)
if_some false a x e = cc

pub if_kept : {A : Type 0} (t : Bool) (o : Option A) (x : A) → (if t then o else None) ≡ Some x → o ≡ Some x
if_kept true o x e = e
if_kept false o x e = cc

pub if_left : {A : Type 0} (t : Bool) (o : Option A) (x : A) → (if t then None else o) ≡ Some x → o ≡ Some x
if_left true o x e = cc
if_left false o x e = e

pub kept_ok : {A : Type 0} (text : A → List ℕ) (line : List ℕ) (o : Option A) (x : A) → kept text line o ≡ Some x → (o ≡ Some x) × (line ≡ text x)
kept_ok text line None x e = cc
kept_ok text line (Some a) x e =
    let parts = if_some (is_text line (text a)) a x e in
    (ap Some parts.1, same_text line (text a) parts.0 ∙ ap text parts.1)

pub fixed_ok : (text line : List ℕ) (x : Bool) → fixed_of text line ≡ Some x → line ≡ text
unfolding fixed_of
fixed_ok text line x e = same_text line text (if_some (is_text line text) true x e).0

winner_cases : (line : List ℕ) (winner : Color) (a b : Bool) → is_text line (winner_line White) ≡ a → is_text line (winner_line Black) ≡ b
    → (if a then Some White else (if b then Some Black else None)) ≡ Some winner → line ≡ winner_line winner
winner_cases line winner true b s t e = same_text line (winner_line White) s ∙ ap winner_line (let one : White ≡ winner = cc in one)
winner_cases line winner false true s t e = same_text line (winner_line Black) t ∙ ap winner_line (let one : Black ≡ winner = cc in one)
winner_cases line winner false false s t e = cc

pub winner_ok : (line : List ℕ) (winner : Color) → winner_of line ≡ Some winner → line ≡ winner_line winner
unfolding winner_of
winner_ok line winner e = winner_cases line winner (is_text line (winner_line White)) (is_text line (winner_line Black)) refl refl e

small_ok : (n m : ℕ) → small_count n ≡ Some m → (0 < m) × (m < 4294967296)
small_ok n m e =
    let parts = if_some (nat_le 1 n && nat_lt n 4294967296) n m e in
    let both = and_parts (nat_le 1 n) (nat_lt n 4294967296) parts.0 in
    let low : 0 < n = (let t = both.0 in grind (arith, nat_tests)) in
    let high : n < 4294967296 = (let t = both.1 in grind (arith, nat_tests)) in
    (omega (arith, low, parts.1), omega (arith, high, parts.1))

pub count_ok : (line : List ℕ) (n : ℕ) → count_of line ≡ Some n → (line ≡ count_line n) × (0 < n) × (n < 4294967296)
unfolding count_of
count_ok line n e =
    let parts = kept_ok count_line line (small_count (value_of 10 (drop 6 line))) n (if_kept (is_from 7 16 (length line)) _ n e) in
    let small = small_ok (value_of 10 (drop 6 line)) n parts.0 in
    (parts.1, small.0, small.1)

pub loose_ok : (line : List ℕ) (set : List Bool) → loose_of line ≡ Some set → line ≡ loose_line set
unfolding loose_of
loose_ok line set e = (kept_ok loose_line line (Some (set_of_bits (value_of 16 (drop 6 line)))) set (if_kept (length line == 22) _ set e)).1

following_ok : (rows : List Row) (o : Option Row) (row : Row) → following rows o ≡ Some row → o ≡ Some row
following_ok rows None row e = cc
following_ok rows (Some r) row e = ap Some (if_some (follows rows r) r row e).1

row_ok : (rows : List Row) (line : List ℕ) (row : Row) → row_of rows line ≡ Some row → line ≡ row_line row
unfolding row_of
row_ok rows line row e = (kept_ok row_line line _ row (following_ok rows _ row (if_kept (length line == 27) _ row e))).1

pub position_ok : (label : Label) (line : List ℕ) (q : Board) → position_of label line ≡ Some q → line ≡ position_line label q
unfolding position_of
position_ok label line q e = (kept_ok (position_line label) line _ q (if_left (nat_lt (length line) (length (label_word label) + 1)) _ q e)).1

-- rows behind rows
pub record RowsRead (rows : List Row) (lines : List (List ℕ)) (f : Parsed (List Row)) : Type 0 where
  pub more : List Row
  pub value : f.value ≡ rows ++ more
  pub is : lines ≡ map row_line more ++ f.lines

done_rows : (rows : List Row) (n : ℕ) (lines : List (List ℕ)) (f : Parsed (List Row)) → found rows n lines ≡ Ok f → RowsRead rows lines f
done_rows rows n lines f e =
    let one : record { value = rows; number = n; lines = lines } ≡ f = cc in
    record { more = []; value = sym (ap (λ g. g.value) one) ∙ sym (append-nil rows); is = ap (λ g. g.lines) one }

mutual_rows : (tail : List ℕ) (rows : List Row) (n : ℕ) (line : List ℕ) (lines : List (List ℕ)) (f : Parsed (List Row)) (b : Bool) (o : Option Row) → row_of rows line ≡ o
    → ((row : Row) → rows_after tail (rows ++ row ∷ []) (n + 1) lines ≡ Ok f → RowsRead (rows ++ row ∷ []) lines f)
    → (if b then on_some o (misfit n kinds.Reach) (λ row. rows_after tail (rows ++ row ∷ []) (n + 1) lines) else found rows n (line ∷ lines)) ≡ Ok f → RowsRead rows (line ∷ lines) f
mutual_rows tail rows n line lines f true None r ih e = cc
mutual_rows tail rows n line lines f true (Some row) r ih e =
    let rest = ih row e in
    record {
      more = row ∷ rest.more;
      value = rest.value ∙ append_assoc rows (row ∷ []) rest.more;
      is = (λ i. row_ok rows line row r i ∷ rest.is i);
    }
mutual_rows tail rows n line lines f false o r ih e = done_rows rows n (line ∷ lines) f e

rows_none : (tail : List ℕ) (rows : List Row) (n : ℕ) (f : Parsed (List Row)) (b : Bool) → (if b then misfit n kinds.Reach else found rows n []) ≡ Ok f → RowsRead rows [] f
rows_none tail rows n f true e = cc
rows_none tail rows n f false e = done_rows rows n [] f e

pub rows_ok : (tail : List ℕ) (rows : List Row) (n : ℕ) (lines : List (List ℕ)) (f : Parsed (List Row)) → rows_after tail rows n lines ≡ Ok f → RowsRead rows lines f
unfolding rows_after
rows_ok tail rows n [] f e = rows_none tail rows n f (begins_reach tail) e
rows_ok tail rows n (line ∷ lines) f e = mutual_rows tail rows n line lines f (begins_reach line) (row_of rows line) refl (λ row. rows_ok tail (rows ++ row ∷ []) (n + 1) lines f) e

-- a node, by its lines
leaf_read : (tail : List ℕ) (q : Board) (n : ℕ) (lines : List (List ℕ)) (f : Parsed Node) → leaf_after tail q n lines ≡ Ok f → position_line labels.Leaf q ∷ lines ≡ node_lines f.value ++ f.lines
unfolding leaf_after
leaf_read tail q n lines f e =
    let a = then_ok (wanted loose_of kinds.Loose n lines) _ f e in
    let loose = wanted_ok loose_of kinds.Loose n lines a.value a.first in
    let b = then_ok (rows_after tail [] a.value.number a.value.lines) _ f a.last in
    let rows = rows_ok tail [] a.value.number a.value.lines b.value b.first in
    let node : Node = record { position = q; part = Leaf (record { rows = b.value.value; loose = a.value.value }) } in
    let one : record { value = node; number = b.value.number; lines = b.value.lines } ≡ f = cc in
    let says = loose_ok loose.line a.value.value loose.says in
    let behind : a.value.lines ≡ map row_line b.value.value ++ b.value.lines = rows.is ∙ ap (λ rs. map row_line rs ++ b.value.lines) (sym rows.value) in
    let here : position_line labels.Leaf q ∷ lines ≡ node_lines node ++ b.value.lines = ap (λ ls. position_line labels.Leaf q ∷ ls) (loose.is ∙ (λ i. says i ∷ behind i)) in
    here ∙ ap (λ (g : Parsed Node). node_lines g.value ++ g.lines) one

behind_ok : (tail : List ℕ) (label : Label) (q : Board) (n : ℕ) (lines : List (List ℕ)) (f : Parsed Node) → node_labelled tail label q n lines ≡ Ok f → position_line label q ∷ lines ≡ node_lines f.value ++ f.lines
behind_ok tail labels.Inner q n lines f e =
    let one : record { value = record { position = q; part = Inner }; number = n + 1; lines = lines } ≡ f = cc in
    ap (λ (g : Parsed Node). node_lines g.value ++ g.lines) one
behind_ok tail labels.Leaf q n lines f e = leaf_read tail q (n + 1) lines f e
behind_ok tail (labels.Men reason) q n lines f e = cc

position_cases : (tail : List ℕ) (n : ℕ) (line : List ℕ) (lines : List (List ℕ)) (f : Parsed Node) (label : Label) (o : Option Board) → position_of label line ≡ o
    → on_some o (misfit n kinds.Node) (λ q. node_labelled tail label q n lines) ≡ Ok f → line ∷ lines ≡ node_lines f.value ++ f.lines
position_cases tail n line lines f label None s e = cc
position_cases tail n line lines f label (Some q) s e = ap (λ l. l ∷ lines) (position_ok label line q s) ∙ behind_ok tail label q n lines f e

label_cases : (tail : List ℕ) (n : ℕ) (line : List ℕ) (lines : List (List ℕ)) (f : Parsed Node) (o : Option Label)
    → on_some o (misfit n kinds.Node) (λ label. on_some (position_of label line) (misfit n kinds.Node) (λ q. node_labelled tail label q n lines)) ≡ Ok f
    → line ∷ lines ≡ node_lines f.value ++ f.lines
label_cases tail n line lines f None e = cc
label_cases tail n line lines f (Some label) e = position_cases tail n line lines f label (position_of label line) refl e

node_ok : (tail : List ℕ) (n : ℕ) (lines : List (List ℕ)) (f : Parsed Node) → node_after tail n lines ≡ Ok f → lines ≡ node_lines f.value ++ f.lines
unfolding node_after
node_ok tail n [] f e = cc
node_ok tail n (line ∷ lines) f e = label_cases tail n line lines f (label_of line) e

record NodesRead (k : ℕ) (nodes : List Node) (lines : List (List ℕ)) (f : Parsed (List Node)) : Type 0 where
  more : List Node
  value : f.value ≡ nodes ++ more
  count : length more ≡ k
  is : lines ≡ flat_map node_lines more ++ f.lines

nodes_ok : (tail : List ℕ) (k : ℕ) (nodes : List Node) (n : ℕ) (lines : List (List ℕ)) (f : Parsed (List Node)) → nodes_after tail k nodes n lines ≡ Ok f → NodesRead k nodes lines f
unfolding nodes_after
nodes_ok tail zero nodes n lines f e =
    let one : record { value = nodes; number = n; lines = lines } ≡ f = cc in
    record { more = []; value = sym (ap (λ g. g.value) one) ∙ sym (append-nil nodes); count = refl; is = ap (λ g. g.lines) one }
nodes_ok tail (suc k) nodes n lines f e =
    let a = then_ok (node_after tail n lines) _ f e in
    let here = node_ok tail n lines a.value a.first in
    let rest = nodes_ok tail k (nodes ++ a.value.value ∷ []) a.value.number a.value.lines f a.last in
    record {
      more = a.value.value ∷ rest.more;
      value = rest.value ∙ append_assoc nodes (a.value.value ∷ []) rest.more;
      count = ap suc rest.count;
      is = here ∙ ap (λ ls. node_lines a.value.value ++ ls) rest.is ∙ sym (append_assoc (node_lines a.value.value) (flat_map node_lines rest.more) f.lines);
    }

record AllRead (lines : List (List ℕ)) (tail : List ℕ) (c : Certificate) : Type 0 where
  pub is : lines ≡ cert_lines c.winner c.cert
  pub none : tail ≡ []
  pub some : 0 < length c.cert
  pub few : length c.cert < 4294967296

pub ended_ok : (n : ℕ) (lines : List (List ℕ)) (tail : List ℕ) (value c : Certificate) → ended n lines tail value ≡ Ok c → (lines ≡ []) × (tail ≡ []) × (value ≡ c)
ended_ok n [] [] value c e = (refl, refl, cc)
ended_ok n [] (b ∷ bs) value c e = cc
ended_ok n (line ∷ lines) tail value c e = cc

all_read : (bytes : List ℕ) (c : Certificate) → cert_of bytes ≡ Ok c → AllRead (lines_of bytes) (tail_of bytes) c
unfolding cert_of cert_lines
all_read bytes c e =
    let h = then_ok (wanted (fixed_of header_line) kinds.Header 1 (lines_of bytes)) _ c e in
    let header = wanted_ok (fixed_of header_line) kinds.Header 1 (lines_of bytes) h.value h.first in
    let w = then_ok (wanted winner_of kinds.Winner h.value.number h.value.lines) _ c h.last in
    let winner = wanted_ok winner_of kinds.Winner h.value.number h.value.lines w.value w.first in
    let k = then_ok (wanted count_of kinds.Count w.value.number w.value.lines) _ c w.last in
    let count = wanted_ok count_of kinds.Count w.value.number w.value.lines k.value k.first in
    let ns = then_ok (nodes_after (tail_of bytes) k.value.value [] k.value.number k.value.lines) _ c k.last in
    let nodes = nodes_ok (tail_of bytes) k.value.value [] k.value.number k.value.lines ns.value ns.first in
    let l = then_ok (wanted (fixed_of end_line) kinds.End ns.value.number ns.value.lines) _ c ns.last in
    let last = wanted_ok (fixed_of end_line) kinds.End ns.value.number ns.value.lines l.value l.first in
    let end = ended_ok l.value.number l.value.lines (tail_of bytes) (record { winner = w.value.value; cert = ns.value.value }) c l.last in
    let of_count = count_ok count.line k.value.value count.says in
    let size : length ns.value.value ≡ k.value.value = ap length nodes.value ∙ nodes.count in
    let count_is : count.line ≡ count_line (length ns.value.value) = of_count.0 ∙ ap count_line (sym size) in
    let body : k.value.lines ≡ flat_map node_lines ns.value.value ++ (end_line ∷ []) =
    nodes.is ∙ ap (λ xs. flat_map node_lines xs ++ ns.value.lines) (sym nodes.value)
    ∙ ap (λ ls. flat_map node_lines ns.value.value ++ ls) (last.is ∙ (λ i. fixed_ok end_line last.line l.value.value last.says i ∷ end.0 i)) in
    let third : w.value.lines ≡ count_line (length ns.value.value) ∷ (flat_map node_lines ns.value.value ++ (end_line ∷ [])) = count.is ∙ (λ i. count_is i ∷ body i) in
    let second = winner.is ∙ (λ i. winner_ok winner.line w.value.value winner.says i ∷ third i) in
    let first = header.is ∙ (λ i. fixed_ok header_line header.line h.value.value header.says i ∷ second i) in
    record {
      is = first ∙ ap (λ (x : Certificate). header_line ∷ winner_line x.winner ∷ count_line (length x.cert) ∷ (flat_map node_lines x.cert ++ (end_line ∷ []))) end.2;
      none = end.1;
      some = (let size' = ap (λ (x : Certificate). length x.cert) end.2 in let low = of_count.1 in omega (arith, size, size', low));
      few = (let size' = ap (λ (x : Certificate). length x.cert) end.2 in let high = of_count.2 in omega (arith, size, size', high));
    }

-- what is read is spelled so
pub read_is_spelled : (bytes : List ℕ) (c : Certificate) → cert_of bytes ≡ Ok c → cert_text c.winner c.cert ≡ bytes
read_is_spelled bytes c e =
    let all = all_read bytes c e in
    sym (append-nil (cert_text c.winner c.cert)) ∙ (λ i. lines_text (sym all.is i) ++ sym all.none i) ∙ joined bytes

pub some_read : (bytes : List ℕ) (c : Certificate) → cert_of bytes ≡ Ok c → 0 < length c.cert
some_read bytes c e = (all_read bytes c e).some

pub few_read : (bytes : List ℕ) (c : Certificate) → cert_of bytes ≡ Ok c → length c.cert < 4294967296
few_read bytes c e = (all_read bytes c e).few
