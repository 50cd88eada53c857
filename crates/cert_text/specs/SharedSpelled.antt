-- The text of a certificate, version 2, in which equal sets are written once (this project).
use Rattle.std.specs.Prelude.{ℕ, List, [], ◌∷◌, ◌++◌, map, length, codes, decimal}
use Rattle.std.specs.List.{flat_map}
use Rattle.cha_board.specs.declared.men.Color.{Color}
use Rattle.cha_board.specs.Board.{Board}
use Rattle.cha_fen.specs.Written.{fen_text}
use Rattle.mob_sets.specs.Rows.{SetRows}
use Rattle.cha_cert.specs.declared.shared.SharedNode.{SharedNode}
use Rattle.cha_cert.specs.declared.shared.SharedPart.{SharedPart}
use Rattle.cha_cert.specs.declared.shared.SharedPart.TheVariants.{Inner, Leaf, Men}
use Rattle.cha_cert.specs.Shared.{Shared}
use Rattle.cert_text.specs.declared.labels.Label.TheVariants as labels
use Rattle.cert_text.specs.Spelled.{winner_line, count_line, loose_line, row_line, position_line, end_line, lines_text}

-- sets 1
unfoldable pub sets_line : ℕ → List ℕ
sets_line n = codes "sets " ++ decimal n

-- leaf 0 8/1k6/8/8/8/8/8/4K3 w - -
unfoldable pub shared_leaf_line : ℕ → Board → List ℕ
shared_leaf_line i q = codes "leaf " ++ (decimal i ++ 32 ∷ fen_text q)

-- the lines of sets
abbrev pub set_lines : SetRows → List (List ℕ)
set_lines sets = loose_line sets.loose ∷ map row_line sets.rows

-- the line of a node
abbrev pub shared_part_lines : Board → SharedPart → List (List ℕ)
shared_part_lines q Inner = position_line labels.Inner q ∷ []
shared_part_lines q (Leaf i) = shared_leaf_line i q ∷ []
shared_part_lines q (Men reason) = position_line (labels.Men reason) q ∷ []

abbrev pub shared_node_lines : SharedNode → List (List ℕ)
shared_node_lines node = shared_part_lines node.position node.part

abbrev pub shared_header_line : List ℕ
shared_header_line = codes "cha-cert 2"

-- the lines before the nodes
abbrev pub shared_head_lines : Color → Shared → List (List ℕ)
shared_head_lines winner c =
    shared_header_line ∷ winner_line winner ∷ sets_line (length c.sets) ∷ (flat_map set_lines c.sets ++ count_line (length c.nodes) ∷ [])

-- the lines of a shared certificate that no series of legal moves mates for a side
unfoldable pub shared_lines : Color → Shared → List (List ℕ)
shared_lines winner c = shared_head_lines winner c ++ (flat_map shared_node_lines c.nodes ++ end_line ∷ [])

-- the text of a shared certificate
abbrev pub shared_text : Color → Shared → List ℕ
shared_text winner c = lines_text (shared_lines winner c)
