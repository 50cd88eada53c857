-- The text of a certificate, version 1 (this project).
use Rattle.std.specs.Prelude.{⊤, ℕ, Bool, List, [], ◌∷◌, ◌++◌, map, length, codes, decimal}
use Rattle.std.specs.List.{All, flat_map}
use Rattle.cha_board.specs.declared.men.Color.{Color}
use Rattle.cha_board.specs.declared.men.Color.TheVariants.{White, Black}
use Rattle.cha_board.specs.Board.{Board}
use Rattle.cha_board.specs.SquareSets.{bits_of_set}
use Rattle.cha_board.specs.Letters.{kind_letter, square_text}
use Rattle.cha_fen.specs.Written.{fen_text}
use Rattle.mob_sets.specs.Rows.{Row}
use Rattle.cha_cert.specs.declared.nodes.Node.{Node}
use Rattle.cha_cert.specs.declared.nodes.Part.{Part}
use Rattle.cha_cert.specs.declared.nodes.Part.TheVariants.{Inner, Leaf, Men}
use Rattle.cert_text.specs.declared.labels.Label.{Label}
use Rattle.cert_text.specs.declared.labels.Label.TheVariants as labels
use Rattle.cert_text.specs.Digits.{hex_digits}
use Rattle.cert_text.specs.Labels.{label_word}

-- a set as sixteen hexadecimal digits: bit s of the number stands for square s
abbrev pub set_text : List Bool → List ℕ
set_text set = hex_digits 16 (bits_of_set set)

-- winner w, winner b
unfoldable pub winner_line : Color → List ℕ
winner_line White = codes "winner w"
winner_line Black = codes "winner b"

-- nodes 2
unfoldable pub count_line : ℕ → List ℕ
count_line n = codes "nodes " ++ decimal n

-- loose 1000000000000010
unfoldable pub loose_line : List Bool → List ℕ
loose_line set = codes "loose " ++ set_text set

-- reach e1 K ffffffffffffffff
unfoldable pub row_line : Row → List ℕ
row_line row =
    codes "reach " ++ square_text row.origin ++ (32 ∷ kind_letter row.kind ∷ 32 ∷ set_text row.squares)

-- inner 8/1k6/8/8/8/8/8/4K3 w - -
unfoldable pub position_line : Label → Board → List ℕ
position_line label q = label_word label ++ 32 ∷ fen_text q

-- the lines of a node; version 1 has none for what the men alone show, and is asked of no such node
abbrev pub part_lines : Board → Part → List (List ℕ)
part_lines q Inner = position_line labels.Inner q ∷ []
part_lines q (Leaf sets) = position_line labels.Leaf q ∷ loose_line sets.loose ∷ map row_line sets.rows
part_lines q (Men reason) = position_line (labels.Men reason) q ∷ []

abbrev pub node_lines : Node → List (List ℕ)
node_lines node = part_lines node.position node.part

-- a node is an inner one or a leaf, as all are in version 1
abbrev pub IsInnerOrLeaf : Part → Type 0
IsInnerOrLeaf Inner = ⊤
IsInnerOrLeaf (Leaf sets) = ⊤
IsInnerOrLeaf (Men reason) = ⊥

abbrev pub AreInnerOrLeaves : List Node → Type 0
AreInnerOrLeaves nodes = All (λ node. IsInnerOrLeaf node.part) nodes

abbrev pub header_line : List ℕ
header_line = codes "cha-cert 1"

abbrev pub end_line : List ℕ
end_line = codes "end"

-- the lines of a certificate that no series of legal moves mates for a side
unfoldable pub cert_lines : Color → List Node → List (List ℕ)
cert_lines winner nodes = header_line ∷ winner_line winner ∷ count_line (length nodes) ∷ (flat_map node_lines nodes ++ (end_line ∷ []))

-- lines, each with a line feed behind it
unfoldable pub lines_text : List (List ℕ) → List ℕ
lines_text [] = []
lines_text (line ∷ lines) = line ++ 10 ∷ lines_text lines

-- the text of a certificate
abbrev pub cert_text : Color → List Node → List ℕ
cert_text winner nodes = lines_text (cert_lines winner nodes)
