-- The whole of a text of version 2, from its parts.
use Rattle.std.proofs.Common.{◌≡◌, ℕ, true, List, [], Result, ap, sym, ◌∙◌}
use Rattle.cha_board.specs.declared.men.Color.{Color}
use Rattle.mob_sets.specs.Rows.{SetRows}
use Rattle.cha_cert.specs.declared.shared.SharedNode.{SharedNode}
use Rattle.cert_text.specs.declared.faults.CertFault.{CertFault}
use Rattle.cert_text.specs.declared.faults.CertKind.TheVariants as kinds
use Rattle.cert_text.specs.declared.shared_reader.SharedCertificate.{SharedCertificate}
use Rattle.cert_text.specs.Spelled.{end_line}
use Rattle.cert_text.specs.SharedSpelled.{shared_header_line}
use Rattle.cert_text.specs.TextLines.{lines_of, tail_of}
use Rattle.cert_text.specs.Texts.{found, fixed_of, winner_of, count_of, wanted, ended}
use Rattle.cert_text.specs.SharedTexts.{sets_of, sets_after, shared_node_of, many_after, shared_cert_of}

-- what is read of the seven parts, and what the end says
pub shared_parts_read : (bytes tail : List ℕ) (winner : Color) (m count : ℕ) (sets read : List SetRows) (nodes : List SharedNode) (a b c d e f g : ℕ) (ls ms ns os ps qs rs : List (List ℕ)) (said : Result SharedCertificate CertFault)
    → wanted (fixed_of shared_header_line) kinds.Header 1 (lines_of bytes) ≡ found true a ls
    → wanted winner_of kinds.Winner a ls ≡ found winner b ms
    → wanted sets_of kinds.Sets b ms ≡ found m c ns
    → tail ≡ tail_of bytes
    → many_after (sets_after tail) m [] c ns ≡ found sets d os
    → wanted count_of kinds.Count d os ≡ found count e ps
    → many_after (wanted (shared_node_of m) kinds.Node) count [] e ps ≡ found nodes f qs
    → wanted (fixed_of end_line) kinds.End f qs ≡ found true g rs
    → read ≡ sets
    → ended g rs (tail_of bytes) (record { winner = winner; cert = record { sets = read; nodes = nodes } }) ≡ said → shared_cert_of bytes ≡ said
unfolding shared_cert_of
shared_parts_read bytes tail winner m count sets read nodes a b c d e f g ls ms ns os ps qs rs said h w k t s i j l same u =
    let whole : many_after (sets_after (tail_of bytes)) m [] c ns ≡ found sets d os = ap (λ x. many_after (sets_after x) m [] c ns) (sym t) ∙ s in
    rw (h, w, k, whole, i, j, l) (ap (λ (xs : List SetRows). ended g rs (tail_of bytes) (record { winner = winner; cert = record { sets = xs; nodes = nodes } })) (sym same) ∙ u)
