use Rattle.std.proofs.Common.{List, [], ◌∷◌, ◌++◌, length, ap, subst, ◌∙◌}
use Rattle.std.specs.List.{All, flat_map}
use Rattle.cha_cert.specs.declared.nodes.Node.{Node}
use Rattle.cert_text.specs.Writable.{IsWritable}
use Rattle.cert_text.specs.Spelled.{header_line, winner_line, count_line, node_lines, lines_text}
use Rattle.cert_text.proofs.Writing.{whole_text}
use Rattle.cert_text.proofs.Rereading.{text_again}
use Rattle.cert_text.proofs.spelled.write.Goals as goal

pub returns-clause-text : goal.returns-clause-text
returns-clause-text c = whole_text c.args.winner c.args.cert.now c.put_head.new.text c.put_nodes.new.text c.append.new.self
    (c.in_ok-put_head.ensures ∙ (λ i. c.new-text.ensures i ++ lines_text (header_line ∷ winner_line c.args.winner ∷ count_line (length (c.nodes-nodes.ensures i)) ∷ [])))
    (c.in_ok-put_nodes.ensures.text ∙ ap (λ (ns : List Node). c.put_head.new.text ++ lines_text (flat_map node_lines ns)) c.nodes-nodes.ensures) c.in_ok-append.ensures.ok

pub returns-clause-read_again : goal.returns-clause-read_again
returns-clause-read_again c =
    let nodes = c.args.cert.now in
    let writable = subst (λ (ns : List Node). All IsWritable ns) c.nodes-nodes.ensures c.in_ok-put_nodes.ensures.writable in
    text_again c.args.winner nodes c.append.new.self (returns-clause-text c) c.requires.some c.requires.few writable
