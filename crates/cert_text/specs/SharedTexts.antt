-- What a text of version 2 says, or the first line of it that does not fit its place (this project).
use Rattle.std.specs.Prelude.{ℕ, zero, suc, ◌+◌, ◌||◌, if◌then◌else◌, nat_lt, List, [], ◌∷◌, ◌++◌, length, drop, take, Option, Some, None, Result}
use Rattle.std.specs.List.{prefix_len}
use Rattle.cha_list.specs.Bytes.{is_from, in_class}
use Rattle.cha_list.specs.declared.classes.Class.TheVariants.{NotBlank}
use Rattle.cha_board.specs.Board.{Board}
use Rattle.cha_fen.specs.Fen.{fen}
use Rattle.mob_sets.specs.Rows.{SetRows}
use Rattle.cha_cert.specs.declared.shared.SharedNode.{SharedNode}
use Rattle.cha_cert.specs.declared.shared.SharedPart.{SharedPart}
use Rattle.cha_cert.specs.declared.shared.SharedPart.TheVariants.{Inner, Leaf, Men}
use Rattle.cert_text.specs.declared.faults.CertFault.{CertFault}
use Rattle.cert_text.specs.declared.faults.CertKind.TheVariants as kinds
use Rattle.cert_text.specs.declared.shared_reader.SharedCertificate.{SharedCertificate}
use Rattle.cert_text.specs.Digits.{value_of}
use Rattle.cert_text.specs.declared.labels.Label.{Label}
use Rattle.cert_text.specs.declared.labels.Label.TheVariants as labels
use Rattle.cert_text.specs.Labels.{label_of}
use Rattle.cert_text.specs.Spelled.{end_line}
use Rattle.cert_text.specs.SharedSpelled.{sets_line, shared_leaf_line, shared_header_line}
use Rattle.cert_text.specs.TextLines.{lines_of, tail_of}
use Rattle.cert_text.specs.Texts.{Parsed, found, and_then, on_some, kept, fixed_of, winner_of, count_of, loose_of, position_if, position_of, wanted, rows_after, ended}

-- a number of sets: from 0 to 4294967295
abbrev pub small_number : ℕ → Option ℕ
small_number n = if nat_lt n 4294967296 then Some n else None

unfoldable pub sets_of : List ℕ → Option ℕ
sets_of line = if is_from 6 15 (length line) then kept sets_line line (small_number (value_of 10 (drop 5 line))) else None

-- how many bytes stand before the first blank of a leaf's line, behind its label
abbrev pub number_len : List ℕ → ℕ
number_len line = prefix_len (in_class NotBlank) (drop 5 line)

-- a leaf on sets that are there
abbrev pub leaf_if : ℕ → ℕ → Option Board → Option SharedNode
leaf_if m i None = None
leaf_if m i (Some q) = if nat_lt i m then Some (record { position = q; part = Leaf i }) else None

-- the leaf of a line whose number has so many digits, where so many sets are there
abbrev pub leaf_numbered : ℕ → ℕ → List ℕ → Option SharedNode
leaf_numbered m n line =
    let i = value_of 10 (take n (drop 5 line)) in
    leaf_if m i (kept (shared_leaf_line i) line (position_if (fen (drop (n + 6) line))))

unfoldable pub shared_leaf_of : ℕ → List ℕ → Option SharedNode
shared_leaf_of m line =
    if nat_lt (length line) (number_len line + 6) || nat_lt 10 (number_len line) then None else leaf_numbered m (number_len line) line

-- a node on the position that is there, if one is
abbrev pub node_if : SharedPart → Option Board → Option SharedNode
node_if part None = None
node_if part (Some q) = Some (record { position = q; part = part })

-- the node of a line with a label, where so many sets are there
abbrev pub shared_labelled : ℕ → List ℕ → Label → Option SharedNode
shared_labelled m line labels.Inner = node_if Inner (position_of labels.Inner line)
shared_labelled m line labels.Leaf = shared_leaf_of m line
shared_labelled m line (labels.Men reason) = node_if (Men reason) (position_of (labels.Men reason) line)

-- a node's line, where so many sets are there
unfoldable pub shared_node_of : ℕ → List ℕ → Option SharedNode
shared_node_of m line = on_some (label_of line) None (shared_labelled m line)

-- the lines of sets
unfoldable pub sets_after : List ℕ → ℕ → List (List ℕ) → Result (Parsed SetRows) CertFault
sets_after tail n lines =
    and_then (wanted loose_of kinds.Loose n lines) (λ loose.
    and_then (rows_after tail [] loose.number loose.lines) (λ rows. found (record { rows = rows.value; loose = loose.value }) rows.number rows.lines))

-- so many items, behind some, each by a reader of one
unfoldable pub many_after : {X : Type 0} → (ℕ → List (List ℕ) → Result (Parsed X) CertFault) → ℕ → List X → ℕ → List (List ℕ) → Result (Parsed (List X)) CertFault
many_after one zero xs n lines = found xs n lines
many_after one (suc k) xs n lines = and_then (one n lines) (λ x. many_after one k (xs ++ x.value ∷ []) x.number x.lines)

-- the shared certificate of a text, or the first line that does not fit
unfoldable pub shared_cert_of : List ℕ → Result SharedCertificate CertFault
shared_cert_of bytes =
    and_then (wanted (fixed_of shared_header_line) kinds.Header 1 (lines_of bytes)) (λ header.
    and_then (wanted winner_of kinds.Winner header.number header.lines) (λ winner.
    and_then (wanted sets_of kinds.Sets winner.number winner.lines) (λ m.
    and_then (many_after (sets_after (tail_of bytes)) m.value [] m.number m.lines) (λ sets.
    and_then (wanted count_of kinds.Count sets.number sets.lines) (λ count.
    and_then (many_after (wanted (shared_node_of m.value) kinds.Node) count.value [] count.number count.lines) (λ nodes.
    and_then (wanted (fixed_of end_line) kinds.End nodes.number nodes.lines) (λ last.
    ended last.number last.lines (tail_of bytes) (record { winner = winner.value; cert = record { sets = sets.value; nodes = nodes.value } }))))))))
