-- The text is that of the certificate.
use Rattle.std.proofs.Common.{List, [], ◌∷◌, ◌++◌, length, ap, subst, ◌∙◌}
use Rattle.std.specs.List.{All, flat_map}
use Rattle.mob_sets.specs.Rows.{SetRows}
use Rattle.cha_cert.specs.declared.shared.SharedNode.{SharedNode}
use Rattle.cert_text.specs.Spelled.{winner_line, count_line, lines_text}
use Rattle.cert_text.specs.SharedSpelled.{sets_line, set_lines, shared_node_lines, shared_header_line}
use Rattle.cert_text.specs.Writable.{IsWritableSets, HasValidPosition}
use Rattle.cert_text.proofs.SharedRereading.{shared_again}
use Rattle.cert_text.proofs.SharedWriting.{whole_shared_text}
use Rattle.cert_text.proofs.shared_spelled.write2.Goals as goal

pub returns-clause-text : goal.returns-clause-text
returns-clause-text c =
    whole_shared_text c.args.winner c.args.cert.now c.put_shared_head.new.text c.put_all_sets.new.text c.put_node_count.new.text c.put_shared_nodes.new.text c.append.new.self
    (c.in_ok-put_shared_head.ensures ∙ (λ i. c.new-text.ensures i ++ lines_text (shared_header_line ∷ winner_line c.args.winner ∷ sets_line (length (c.sets-sets.ensures i)) ∷ [])))
    (c.in_ok-put_all_sets.ensures.text ∙ ap (λ (all : List SetRows). c.put_shared_head.new.text ++ lines_text (flat_map set_lines all)) c.sets-sets.ensures)
    (c.in_ok-put_node_count.ensures ∙ ap (λ (ns : List SharedNode). c.put_all_sets.new.text ++ lines_text (count_line (length ns) ∷ [])) c.nodes-nodes.ensures.value)
    (c.in_ok-put_shared_nodes.ensures.text ∙ ap (λ (ns : List SharedNode). c.put_node_count.new.text ++ lines_text (flat_map shared_node_lines ns)) c.nodes-nodes.ensures.value)
    c.in_ok-append.ensures.ok

pub returns-clause-read_again : goal.returns-clause-read_again
returns-clause-read_again c =
    let valid = subst (λ (ns : List SharedNode). All HasValidPosition ns) c.nodes-nodes.ensures.value c.in_ok-put_shared_nodes.ensures.valid in
    let writable = subst (λ (all : List SetRows). All IsWritableSets all) c.sets-sets.ensures c.in_ok-put_all_sets.ensures.writable in
    shared_again c.args.winner c.args.cert.now c.append.new.self (returns-clause-text c) c.requires.some c.requires.few c.requires.few_sets c.nodes-nodes.ensures.named valid writable
