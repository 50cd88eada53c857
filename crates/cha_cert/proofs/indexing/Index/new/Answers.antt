-- The sorted places are the index of the nodes.
use Rattle.std.proofs.Common.{List, length, subst, ap, ◌∙◌, arith}
use Rattle.std.proofs.lemmas.List.{length-map}
use Rattle.cha_cert.specs.declared.nodes.Node.{Node}
use Rattle.cha_cert.specs.Certificates.{positions_of}
use Rattle.cha_cert.specs.Indexed.{IsIndexOf}
use Rattle.cha_cert.proofs.Finding.{words_sorted, few_places, index_made}
use Rattle.cha_cert.proofs.indexing.Index.new.Goals as goal

pub invariant_of-result : goal.invariant_of-result
invariant_of-result c =
    let same = length-map c.nodes.result.now (λ (node : Node). node.position) ∙ ap length c.nodes.ensures in
    let few = c.requires in (
      words_sorted c.sort.new.self.items c.in_ok-sort.ensures.sorted,
      few_places (positions_of c.nodes.result.now) 4294967296 c.in_ok-places.places.items c.sort.new.self.items c.in_ok-places.ensures.places c.in_ok-sort.ensures.permutation (omega (arith, same, few)),
    )

pub returns : goal.returns
returns c =
    subst (λ (nodes : List Node). IsIndexOf nodes c.sort.new.self.items) c.nodes.ensures
    (index_made c.nodes.result.now c.in_ok-places.places.items c.sort.new.self.items c.in_ok-places.ensures.places c.in_ok-sort.ensures.permutation c.in_ok-places.ensures.valid)
