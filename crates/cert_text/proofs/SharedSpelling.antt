-- What is read of a text of version 2 is spelled so.
use Rattle.std.proofs.Common.{◌≡◌, ℕ, zero, suc, ◌+◌, ◌<◌, nat_lt, ◌||◌, List, [], ◌∷◌, ◌++◌, map, length, drop, take, Option, Some, None, Result, Ok, refl, sym, ap, subst, ◌∙◌, arith, append_assoc, append-nil}
use Rattle.std.specs.List.{flat_map}
use Rattle.std.proofs.lemmas.Bool.Decides.{nat_tests}
use Rattle.cha_list.specs.Bytes.{is_from}
use Rattle.cha_board.specs.declared.men.Color.{Color}
use Rattle.cha_board.specs.Board.{Board}
use Rattle.cha_fen.specs.Fen.{fen}
use Rattle.mob_sets.specs.Rows.{SetRows}
use Rattle.cha_cert.specs.declared.shared.SharedNode.{SharedNode}
use Rattle.cha_cert.specs.declared.shared.SharedPart.{SharedPart}
use Rattle.cha_cert.specs.declared.shared.SharedPart.TheVariants.{Inner, Leaf, Men}
use Rattle.cert_text.specs.declared.faults.CertFault.{CertFault}
use Rattle.cert_text.specs.declared.faults.CertKind.TheVariants as kinds
use Rattle.cert_text.specs.declared.shared_reader.SharedCertificate.{SharedCertificate}
use Rattle.cert_text.specs.Digits.{value_of}
use Rattle.cert_text.specs.declared.labels.Label.{Label}
use Rattle.cert_text.specs.declared.labels.Label.TheVariants as labels
use Rattle.cert_text.specs.Labels.{label_of}
use Rattle.cert_text.specs.Spelled.{end_line, winner_line, count_line, row_line, position_line, lines_text}
use Rattle.cert_text.specs.SharedSpelled.{sets_line, shared_leaf_line, set_lines, shared_part_lines, shared_node_lines, shared_header_line, shared_lines, shared_text}
use Rattle.cert_text.specs.TextLines.{lines_of, tail_of}
use Rattle.cert_text.specs.Texts.{Parsed, and_then, fixed_of, winner_of, count_of, loose_of, kept, position_if, position_of, on_some, wanted, rows_after, ended}
use Rattle.cert_text.specs.SharedTexts.{small_number, sets_of, number_len, leaf_if, leaf_numbered, shared_leaf_of, node_if, shared_labelled, shared_node_of, sets_after, many_after, shared_cert_of}
use Rattle.cert_text.proofs.Spelling.{joined, then_ok, wanted_ok, if_some, if_kept, if_left, kept_ok, fixed_ok, winner_ok, count_ok, loose_ok, position_ok, rows_ok}

sets_ok : (line : List ℕ) (m : ℕ) → sets_of line ≡ Some m → (line ≡ sets_line m) × (m < 4294967296)
unfolding sets_of
sets_ok line m e =
    let parts = kept_ok sets_line line (small_number (value_of 10 (drop 5 line))) m (if_kept (is_from 6 15 (length line)) _ m e) in
    let small = if_some (nat_lt (value_of 10 (drop 5 line)) 4294967296) (value_of 10 (drop 5 line)) m parts.0 in
    let low : value_of 10 (drop 5 line) < 4294967296 = (let t = small.0 in grind (arith, nat_tests)) in
    (parts.1, omega (arith, low, small.1))

-- a leaf's line
leaf_cases : (m i : ℕ) (line : List ℕ) (o : Option Board) (node : SharedNode) → kept (shared_leaf_line i) line o ≡ kept (shared_leaf_line i) line o
    → (k : Option Board) → kept (shared_leaf_line i) line o ≡ k → leaf_if m i k ≡ Some node → line ∷ [] ≡ shared_node_lines node
leaf_cases m i line o node same None t e = cc
leaf_cases m i line o node same (Some q) t e =
    let is = (if_some (nat_lt i m) (record { position = q; part = Leaf i }) node e).1 in
    let says = (kept_ok (shared_leaf_line i) line o q t).1 in
    ap (λ l. l ∷ []) says ∙ ap shared_node_lines is

shared_leaf_ok : (m : ℕ) (line : List ℕ) (node : SharedNode) → shared_leaf_of m line ≡ Some node → line ∷ [] ≡ shared_node_lines node
unfolding shared_leaf_of
shared_leaf_ok m line node e =
    let n = number_len line in
    let i = value_of 10 (take n (drop 5 line)) in
    let o = position_if (fen (drop (n + 6) line)) in
    leaf_cases m i line o node refl (kept (shared_leaf_line i) line o) refl (if_left (nat_lt (length line) (n + 6) || nat_lt 10 n) (leaf_numbered m n line) node e)

-- the line of another node
named_ok : (label : Label) (part : SharedPart) (line : List ℕ) (node : SharedNode) (o : Option Board) → position_of label line ≡ o → ((q : Board) → position_line label q ∷ [] ≡ shared_part_lines q part) → node_if part o ≡ Some node
    → line ∷ [] ≡ shared_node_lines node
named_ok label part line node None s spelled e = cc
named_ok label part line node (Some q) s spelled e =
    let is : record { position = q; part = part } ≡ node = cc in
    ap (λ l. l ∷ []) (position_ok label line q s) ∙ spelled q ∙ ap shared_node_lines is

labelled_ok : (m : ℕ) (line : List ℕ) (node : SharedNode) (o : Option Label) → on_some o None (shared_labelled m line) ≡ Some node → line ∷ [] ≡ shared_node_lines node
labelled_ok m line node None e = cc
labelled_ok m line node (Some labels.Inner) e = named_ok labels.Inner Inner line node (position_of labels.Inner line) refl (λ q. refl) e
labelled_ok m line node (Some labels.Leaf) e = shared_leaf_ok m line node e
labelled_ok m line node (Some (labels.Men reason)) e = named_ok (labels.Men reason) (Men reason) line node (position_of (labels.Men reason) line) refl (λ q. refl) e

shared_node_ok : (m : ℕ) (line : List ℕ) (node : SharedNode) → shared_node_of m line ≡ Some node → line ∷ [] ≡ shared_node_lines node
unfolding shared_node_of
shared_node_ok m line node e = labelled_ok m line node (label_of line) e

one_node_ok : (m n : ℕ) (lines : List (List ℕ)) (f : Parsed SharedNode) → wanted (shared_node_of m) kinds.Node n lines ≡ Ok f → lines ≡ shared_node_lines f.value ++ f.lines
one_node_ok m n lines f e =
    let taken = wanted_ok (shared_node_of m) kinds.Node n lines f e in
    taken.is ∙ ap (λ ls. ls ++ f.lines) (shared_node_ok m taken.line f.value taken.says)

-- the lines of sets
one_sets_ok : (tail : List ℕ) (n : ℕ) (lines : List (List ℕ)) (f : Parsed SetRows) → sets_after tail n lines ≡ Ok f → lines ≡ set_lines f.value ++ f.lines
unfolding sets_after
one_sets_ok tail n lines f e =
    let a = then_ok (wanted loose_of kinds.Loose n lines) _ f e in
    let loose = wanted_ok loose_of kinds.Loose n lines a.value a.first in
    let b = then_ok (rows_after tail [] a.value.number a.value.lines) _ f a.last in
    let rows = rows_ok tail [] a.value.number a.value.lines b.value b.first in
    let sets : SetRows = record { rows = b.value.value; loose = a.value.value } in
    let one : record { value = sets; number = b.value.number; lines = b.value.lines } ≡ f = cc in
    let says = loose_ok loose.line a.value.value loose.says in
    let behind : a.value.lines ≡ map row_line b.value.value ++ b.value.lines = rows.is ∙ ap (λ rs. map row_line rs ++ b.value.lines) (sym rows.value) in
    let here : lines ≡ set_lines sets ++ b.value.lines = loose.is ∙ (λ i. says i ∷ behind i) in
    here ∙ ap (λ (g : Parsed SetRows). set_lines g.value ++ g.lines) one

-- so many items
record ManyRead {X : Type 0} (spell : X → List (List ℕ)) (k : ℕ) (xs : List X) (lines : List (List ℕ)) (f : Parsed (List X)) : Type 0 where
  more : List X
  value : f.value ≡ xs ++ more
  count : length more ≡ k
  is : lines ≡ flat_map spell more ++ f.lines

many_ok : {X : Type 0} (one : ℕ → List (List ℕ) → Result (Parsed X) CertFault) (spell : X → List (List ℕ))
    → ((n : ℕ) (lines : List (List ℕ)) (f : Parsed X) → one n lines ≡ Ok f → lines ≡ spell f.value ++ f.lines)
    → (k : ℕ) (xs : List X) (n : ℕ) (lines : List (List ℕ)) (f : Parsed (List X)) → many_after one k xs n lines ≡ Ok f → ManyRead spell k xs lines f
unfolding many_after
many_ok one spell ok zero xs n lines f e =
    let is : record { value = xs; number = n; lines = lines } ≡ f = cc in
    record { more = []; value = sym (ap (λ g. g.value) is) ∙ sym (append-nil xs); count = refl; is = ap (λ g. g.lines) is }
many_ok one spell ok (suc k) xs n lines f e =
    let a = then_ok (one n lines) _ f e in
    let here = ok n lines a.value a.first in
    let rest = many_ok one spell ok k (xs ++ a.value.value ∷ []) a.value.number a.value.lines f a.last in
    record {
      more = a.value.value ∷ rest.more;
      value = rest.value ∙ append_assoc xs (a.value.value ∷ []) rest.more;
      count = ap suc rest.count;
      is = here ∙ ap (λ ls. spell a.value.value ++ ls) rest.is ∙ sym (append_assoc (spell a.value.value) (flat_map spell rest.more) f.lines);
    }

-- bounds of what is the same
less_as : (x y z k : ℕ) → x ≡ y → x ≡ z → y < k → z < k
less_as x y z k e f h = omega (arith, e, f, h)

more_as : (x y z : ℕ) → x ≡ y → x ≡ z → 0 < y → 0 < z
more_as x y z e f h = omega (arith, e, f, h)

record AllShared (lines : List (List ℕ)) (tail : List ℕ) (c : SharedCertificate) : Type 0 where
  is : lines ≡ shared_lines c.winner c.cert
  none : tail ≡ []
  some : 0 < length c.cert.nodes
  few : length c.cert.nodes < 4294967296
  few_sets : length c.cert.sets < 4294967296

ended_ok : (n : ℕ) (lines : List (List ℕ)) (tail : List ℕ) (value c : SharedCertificate) → ended n lines tail value ≡ Ok c → (lines ≡ []) × (tail ≡ []) × (value ≡ c)
ended_ok n [] [] value c e = (refl, refl, cc)
ended_ok n [] (b ∷ bs) value c e = cc
ended_ok n (line ∷ lines) tail value c e = cc

-- the lines of a text, from its parts
lines_shared : (w : Color) (sets : List SetRows) (nodes : List SharedNode) (all h v m o q r t : List (List ℕ)) (a b d k l : List ℕ)
    → all ≡ a ∷ h → a ≡ shared_header_line → h ≡ b ∷ v → b ≡ winner_line w → v ≡ d ∷ m → d ≡ sets_line (length sets) → m ≡ flat_map set_lines sets ++ o
    → o ≡ k ∷ q → k ≡ count_line (length nodes) → q ≡ flat_map shared_node_lines nodes ++ r → r ≡ l ∷ t → l ≡ end_line → t ≡ []
    → all ≡ shared_lines w (record { sets = sets; nodes = nodes })
unfolding shared_lines
lines_shared w sets nodes all h v m o q r t a b d k l e1 e2 e3 e4 e5 e6 e7 e8 e9 e10 e11 e12 e13 =
    let body = flat_map shared_node_lines nodes in
    let end : q ≡ body ++ (end_line ∷ []) = e10 ∙ ap (λ ls. body ++ ls) (e11 ∙ (λ i. e12 i ∷ e13 i)) in
    let counted : o ≡ count_line (length nodes) ∷ (body ++ (end_line ∷ [])) = e8 ∙ (λ i. e9 i ∷ end i) in
    let first = flat_map set_lines sets in
    let listed : m ≡ (first ++ count_line (length nodes) ∷ []) ++ (body ++ end_line ∷ []) =
    e7 ∙ ap (λ ls. first ++ ls) counted ∙ sym (append_assoc first (count_line (length nodes) ∷ []) (body ++ end_line ∷ [])) in
    let numbered : v ≡ sets_line (length sets) ∷ ((first ++ count_line (length nodes) ∷ []) ++ (body ++ end_line ∷ [])) = e5 ∙ (λ i. e6 i ∷ listed i) in
    let won : h ≡ winner_line w ∷ sets_line (length sets) ∷ ((first ++ count_line (length nodes) ∷ []) ++ (body ++ end_line ∷ [])) = e3 ∙ (λ i. e4 i ∷ numbered i) in
    e1 ∙ (λ i. e2 i ∷ won i)

-- the nodes and the end, behind so many sets
record BodyRead (m : ℕ) (lines : List (List ℕ)) (tail : List ℕ) (w : Color) (sets : List SetRows) (c : SharedCertificate) : Type 0 where
  nodes : List SharedNode
  behind : List (List ℕ)
  nodes_end : List (List ℕ)
  line : List ℕ
  last : List ℕ
  is : lines ≡ line ∷ behind
  line_is : line ≡ count_line (length nodes)
  behind_is : behind ≡ flat_map shared_node_lines nodes ++ nodes_end
  end_is : nodes_end ≡ last ∷ []
  last_is : last ≡ end_line
  none : tail ≡ []
  built : record { winner = w; cert = record { sets = sets; nodes = nodes } } ≡ c
  some : 0 < length nodes
  few : length nodes < 4294967296

body_read : (m n : ℕ) (lines : List (List ℕ)) (tail : List ℕ) (w : Color) (sets : List SetRows) (c : SharedCertificate)
    → and_then (wanted count_of kinds.Count n lines) (λ count.
    and_then (many_after (wanted (shared_node_of m) kinds.Node) count.value [] count.number count.lines) (λ nodes.
    and_then (wanted (fixed_of end_line) kinds.End nodes.number nodes.lines) (λ last.
    ended last.number last.lines tail (record { winner = w; cert = record { sets = sets; nodes = nodes.value } })))) ≡ Ok c
    → BodyRead m lines tail w sets c
body_read m n lines tail w sets c e =
    let k = then_ok (wanted count_of kinds.Count n lines) _ c e in
    let count = wanted_ok count_of kinds.Count n lines k.value k.first in
    let ns = then_ok (many_after (wanted (shared_node_of m) kinds.Node) k.value.value [] k.value.number k.value.lines) _ c k.last in
    let read = many_ok (wanted (shared_node_of m) kinds.Node) shared_node_lines (one_node_ok m) k.value.value [] k.value.number k.value.lines ns.value ns.first in
    let l = then_ok (wanted (fixed_of end_line) kinds.End ns.value.number ns.value.lines) _ c ns.last in
    let last = wanted_ok (fixed_of end_line) kinds.End ns.value.number ns.value.lines l.value l.first in
    let end = ended_ok l.value.number l.value.lines tail _ c l.last in
    let of_count = count_ok count.line k.value.value count.says in
    let size : length ns.value.value ≡ k.value.value = ap length read.value ∙ read.count in
    record {
      nodes = ns.value.value;
      behind = k.value.lines;
      nodes_end = ns.value.lines;
      line = count.line;
      last = last.line;
      is = count.is;
      line_is = of_count.0 ∙ ap count_line (sym size);
      behind_is = read.is ∙ ap (λ xs. flat_map shared_node_lines xs ++ ns.value.lines) (sym read.value);
      end_is = last.is ∙ ap (λ ls. last.line ∷ ls) end.0;
      last_is = fixed_ok end_line last.line l.value.value last.says;
      none = end.1;
      built = end.2;
      some = more_as (length ns.value.value) k.value.value (length ns.value.value) size refl of_count.1;
      few = less_as (length ns.value.value) k.value.value (length ns.value.value) 4294967296 size refl of_count.2;
    }

all_shared : (bytes : List ℕ) (c : SharedCertificate) → shared_cert_of bytes ≡ Ok c → AllShared (lines_of bytes) (tail_of bytes) c
unfolding shared_cert_of
all_shared bytes c e =
    let tail = tail_of bytes in
    let h = then_ok (wanted (fixed_of shared_header_line) kinds.Header 1 (lines_of bytes)) _ c e in
    let header = wanted_ok (fixed_of shared_header_line) kinds.Header 1 (lines_of bytes) h.value h.first in
    let w = then_ok (wanted winner_of kinds.Winner h.value.number h.value.lines) _ c h.last in
    let winner = wanted_ok winner_of kinds.Winner h.value.number h.value.lines w.value w.first in
    let m = then_ok (wanted sets_of kinds.Sets w.value.number w.value.lines) _ c w.last in
    let number = wanted_ok sets_of kinds.Sets w.value.number w.value.lines m.value m.first in
    let ss = then_ok (many_after (sets_after tail) m.value.value [] m.value.number m.value.lines) _ c m.last in
    let sets = many_ok (sets_after tail) set_lines (one_sets_ok tail) m.value.value [] m.value.number m.value.lines ss.value ss.first in
    let body = body_read m.value.value ss.value.number ss.value.lines tail w.value.value ss.value.value c ss.last in
    let of_number = sets_ok number.line m.value.value number.says in
    let size : length ss.value.value ≡ m.value.value = ap length sets.value ∙ sets.count in
    let built : AllShared (lines_of bytes) tail (record { winner = w.value.value; cert = record { sets = ss.value.value; nodes = body.nodes } }) = record {
      is =
          lines_shared w.value.value ss.value.value body.nodes (lines_of bytes) h.value.lines w.value.lines m.value.lines ss.value.lines body.behind body.nodes_end [] header.line winner.line number.line body.line body.last
          header.is (fixed_ok shared_header_line header.line h.value.value header.says) winner.is (winner_ok winner.line w.value.value winner.says) number.is (of_number.0 ∙ ap sets_line (sym size))
          (sets.is ∙ ap (λ xs. flat_map set_lines xs ++ ss.value.lines) (sym sets.value)) body.is body.line_is body.behind_is body.end_is body.last_is refl;
      none = body.none;
      some = body.some;
      few = body.few;
      few_sets = less_as (length ss.value.value) m.value.value (length ss.value.value) 4294967296 size refl of_number.1;
    } in
    subst (AllShared (lines_of bytes) tail) body.built built

-- what is read is spelled so
pub shared_is_spelled : (bytes : List ℕ) (c : SharedCertificate) → shared_cert_of bytes ≡ Ok c → shared_text c.winner c.cert ≡ bytes
shared_is_spelled bytes c e =
    let all = all_shared bytes c e in
    sym (append-nil (shared_text c.winner c.cert)) ∙ (λ i. lines_text (sym all.is i) ++ sym all.none i) ∙ joined bytes

pub some_shared : (bytes : List ℕ) (c : SharedCertificate) → shared_cert_of bytes ≡ Ok c → 0 < length c.cert.nodes
some_shared bytes c e = (all_shared bytes c e).some

pub few_shared : (bytes : List ℕ) (c : SharedCertificate) → shared_cert_of bytes ≡ Ok c → length c.cert.nodes < 4294967296
few_shared bytes c e = (all_shared bytes c e).few

pub few_sets_shared : (bytes : List ℕ) (c : SharedCertificate) → shared_cert_of bytes ≡ Ok c → length c.cert.sets < 4294967296
few_sets_shared bytes c e = (all_shared bytes c e).few_sets
