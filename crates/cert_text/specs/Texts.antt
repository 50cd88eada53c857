-- What a text says, or the first line of it that does not fit its place (this project).
use Rattle.std.specs.Prelude.{ℕ, zero, suc, ◌+◌, ◌==◌, Bool, true, not, ◌&&◌, if◌then◌else◌, nat_lt, nat_le, nat_eq, List, [], ◌∷◌, ◌++◌, length, drop, get_or, Option, Some, None, Result, Ok, Err, codes}
use Rattle.std.specs.List.{list_all, starts_with}
use lib.Pointwise.{pointwise}
use Rattle.cha_list.specs.Bytes.{is_from}
use Rattle.cha_board.specs.declared.men.Color.{Color}
use Rattle.cha_board.specs.declared.men.Color.TheVariants.{White, Black}
use Rattle.cha_board.specs.declared.men.Kind.{Kind}
use Rattle.cha_board.specs.Board.{Board}
use Rattle.cha_board.specs.SquareSets.{set_of_bits, bits_of_set}
use Rattle.cha_fen.specs.declared.faults.FenFault.{FenFault}
use Rattle.cha_board.specs.Letters.{kind_of, square_of}
use Rattle.cha_fen.specs.Fen.{fen}
use Rattle.mob_sets.specs.Rows.{Row, row_place}
use Rattle.cha_cert.specs.declared.nodes.Node.{Node}
use Rattle.cha_cert.specs.declared.nodes.Part.TheVariants.{Inner, Leaf}
use Rattle.cert_text.specs.declared.faults.CertFault.{CertFault}
use Rattle.cert_text.specs.declared.faults.CertKind.{CertKind}
use Rattle.cert_text.specs.declared.faults.CertKind.TheVariants as kinds
use Rattle.cert_text.specs.declared.reader.Certificate.{Certificate}
use Rattle.cert_text.specs.Digits.{value_of}
use Rattle.cert_text.specs.declared.labels.Label.{Label}
use Rattle.cert_text.specs.declared.labels.Label.TheVariants as labels
use Rattle.cert_text.specs.Labels.{label_word, label_of}
use Rattle.cert_text.specs.Spelled.{winner_line, count_line, loose_line, row_line, position_line, header_line, end_line}
use Rattle.cert_text.specs.TextLines.{lines_of, tail_of}

abbrev pub is_text : List ℕ → List ℕ → Bool
is_text line text = pointwise nat_eq line text

-- what a line may stand for, if the line is its text
abbrev pub kept : {X : Type 0} → (X → List ℕ) → List ℕ → Option X → Option X
kept text line None = None
kept text line (Some x) = if is_text line (text x) then Some x else None

-- a line that is always the same
unfoldable pub fixed_of : List ℕ → List ℕ → Option Bool
fixed_of text line = if is_text line text then Some true else None

unfoldable pub winner_of : List ℕ → Option Color
winner_of line =
    if is_text line (winner_line White) then Some White else (if is_text line (winner_line Black) then Some Black else None)

-- a number of nodes: from 1 to 4294967295
abbrev pub small_count : ℕ → Option ℕ
small_count n = if nat_le 1 n && nat_lt n 4294967296 then Some n else None

unfoldable pub count_of : List ℕ → Option ℕ
count_of line = if is_from 7 16 (length line) then kept count_line line (small_count (value_of 10 (drop 6 line))) else None

unfoldable pub loose_of : List ℕ → Option (List Bool)
loose_of line = if length line == 22 then kept loose_line line (Some (set_of_bits (value_of 16 (drop 6 line)))) else None

-- what a row may be
abbrev pub row_if : Option ℕ → Option Kind → ℕ → Option Row
row_if (Some origin) (Some kind) n = Some (record { origin = origin; kind = kind; squares = set_of_bits n })
row_if _ _ n = None

-- a row comes behind rows and has some square
abbrev pub follows : List Row → Row → Bool
follows rows row = not (bits_of_set row.squares == 0) && list_all (λ r. nat_lt (row_place r) (row_place row)) rows

abbrev pub following : List Row → Option Row → Option Row
following rows None = None
following rows (Some row) = if follows rows row then Some row else None

-- the row of a line behind rows
unfoldable pub row_of : List Row → List ℕ → Option Row
row_of rows line =
    if length line == 27 then following rows (kept row_line line (row_if (square_of (get_or line 6 0) (get_or line 7 0)) (kind_of (get_or line 9 0)) (value_of 16 (drop 11 line))))
    else None

-- the position of a text in FEN
abbrev pub position_if : Result Board FenFault → Option Board
position_if (Ok q) = Some q
position_if (Err fault) = None

-- the position of a line with a label
unfoldable pub position_of : Label → List ℕ → Option Board
position_of label line =
    if nat_lt (length line) (length (label_word label) + 1) then None
    else kept (position_line label) line (position_if (fen (drop (length (label_word label) + 1) line)))

-- What a reader found, the number of the line behind it, and the lines from there on.
pub record Parsed (A : Type 0) : Type 0 where
  pub value : A
  pub number : ℕ
  pub lines : List (List ℕ)

abbrev pub found : {A : Type 0} → A → ℕ → List (List ℕ) → Result (Parsed A) CertFault
found value number lines = Ok (record { value = value; number = number; lines = lines })

-- a line does not fit, where a kind of line was wanted
abbrev pub misfit : {A : Type 0} → ℕ → CertKind → Result A CertFault
misfit number kind = Err (record { line = number; kind = kind })

abbrev pub and_then : {A B : Type 0} → Result A CertFault → (A → Result B CertFault) → Result B CertFault
and_then (Ok a) next = next a
and_then (Err fault) next = Err fault

abbrev pub on_some : {A B : Type 0} → Option A → B → (A → B) → B
on_some None missing next = missing
on_some (Some a) missing next = next a

-- the next line, where one kind of line is wanted
unfoldable pub wanted : {A : Type 0} → (List ℕ → Option A) → CertKind → ℕ → List (List ℕ) → Result (Parsed A) CertFault
wanted read kind n [] = misfit n kind
wanted read kind n (line ∷ lines) = on_some (read line) (misfit n kind) (λ a. found a (n + 1) lines)

abbrev pub begins_reach : List ℕ → Bool
begins_reach line = starts_with nat_eq line (codes "reach ")

-- the rows of a leaf: those so far, and those of the lines that begin as rows
unfoldable pub rows_after : List ℕ → List Row → ℕ → List (List ℕ) → Result (Parsed (List Row)) CertFault
rows_after tail rows n [] = if begins_reach tail then misfit n kinds.Reach else found rows n []
rows_after tail rows n (line ∷ lines) =
    if begins_reach line then on_some (row_of rows line) (misfit n kinds.Reach) (λ row. rows_after tail (rows ++ row ∷ []) (n + 1) lines)
    else found rows n (line ∷ lines)

-- what is behind a leaf's line
unfoldable pub leaf_after : List ℕ → Board → ℕ → List (List ℕ) → Result (Parsed Node) CertFault
leaf_after tail q n lines =
    and_then (wanted loose_of kinds.Loose n lines) (λ loose.
    and_then (rows_after tail [] loose.number loose.lines) (λ rows.
    found (record { position = q; part = Leaf (record { rows = rows.value; loose = loose.value }) }) rows.number rows.lines))

-- what stands behind the line of a position; version 1 has no such line for what the men alone show
abbrev pub node_labelled : List ℕ → Label → Board → ℕ → List (List ℕ) → Result (Parsed Node) CertFault
node_labelled tail labels.Inner q n lines = found (record { position = q; part = Inner }) (n + 1) lines
node_labelled tail labels.Leaf q n lines = leaf_after tail q (n + 1) lines
node_labelled tail (labels.Men reason) q n lines = misfit n kinds.Node

-- a node's lines
unfoldable pub node_after : List ℕ → ℕ → List (List ℕ) → Result (Parsed Node) CertFault
node_after tail n [] = misfit n kinds.Node
node_after tail n (line ∷ lines) =
    on_some (label_of line) (misfit n kinds.Node) (λ label.
    on_some (position_of label line) (misfit n kinds.Node) (λ q. node_labelled tail label q n lines))

-- so many nodes, behind some
unfoldable pub nodes_after : List ℕ → ℕ → List Node → ℕ → List (List ℕ) → Result (Parsed (List Node)) CertFault
nodes_after tail zero nodes n lines = found nodes n lines
nodes_after tail (suc k) nodes n lines = and_then (node_after tail n lines) (λ node. nodes_after tail k (nodes ++ node.value ∷ []) node.number node.lines)

-- nothing is behind the last line
abbrev pub ended : {A : Type 0} → ℕ → List (List ℕ) → List ℕ → A → Result A CertFault
ended n [] [] value = Ok value
ended n [] (b ∷ bs) value = misfit n kinds.End
ended n (line ∷ lines) tail value = misfit n kinds.End

-- the certificate of a text, or the first line that does not fit
unfoldable pub cert_of : List ℕ → Result Certificate CertFault
cert_of bytes =
    and_then (wanted (fixed_of header_line) kinds.Header 1 (lines_of bytes)) (λ header.
    and_then (wanted winner_of kinds.Winner header.number header.lines) (λ winner.
    and_then (wanted count_of kinds.Count winner.number winner.lines) (λ count.
    and_then (nodes_after (tail_of bytes) count.value [] count.number count.lines) (λ nodes.
    and_then (wanted (fixed_of end_line) kinds.End nodes.number nodes.lines) (λ last.
    ended last.number last.lines (tail_of bytes) (record { winner = winner.value; cert = nodes.value }))))))
