-- The whole of a text, from its parts.
use Rattle.std.proofs.Common.{◌≡◌, ℕ, true, List, [], Result, sym, ap, ◌∙◌}
use Rattle.cha_board.specs.declared.men.Color.{Color}
use Rattle.cha_cert.specs.declared.nodes.Node.{Node}
use Rattle.cert_text.specs.declared.faults.CertFault.{CertFault}
use Rattle.cert_text.specs.declared.faults.CertKind.TheVariants as kinds
use Rattle.cert_text.specs.declared.reader.Certificate.{Certificate}
use Rattle.cert_text.specs.Spelled.{header_line, end_line}
use Rattle.cert_text.specs.TextLines.{lines_of, tail_of}
use Rattle.cert_text.specs.Texts.{found, fixed_of, winner_of, count_of, wanted, nodes_after, ended, cert_of}

-- what is read of the five parts, and what the end says
pub parts_read : (bytes tail : List ℕ) (winner : Color) (count : ℕ) (nodes : List Node) (a b c d e : ℕ) (ls ms ns os ps : List (List ℕ)) (said : Result Certificate CertFault)
    → wanted (fixed_of header_line) kinds.Header 1 (lines_of bytes) ≡ found true a ls
    → wanted winner_of kinds.Winner a ls ≡ found winner b ms
    → wanted count_of kinds.Count b ms ≡ found count c ns
    → tail ≡ tail_of bytes
    → nodes_after tail count [] c ns ≡ found nodes d os
    → wanted (fixed_of end_line) kinds.End d os ≡ found true e ps
    → ended e ps (tail_of bytes) (record { winner = winner; cert = nodes }) ≡ said → cert_of bytes ≡ said
unfolding cert_of
parts_read bytes tail winner count nodes a b c d e ls ms ns os ps said f g h t i j k =
    let whole : nodes_after (tail_of bytes) count [] c ns ≡ found nodes d os = ap (λ x. nodes_after x count [] c ns) (sym t) ∙ i in
    rw (f, g, h, whole, j) k
