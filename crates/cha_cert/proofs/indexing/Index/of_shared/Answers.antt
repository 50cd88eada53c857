-- The sorted places are the index of the expansion's nodes.
use Rattle.std.proofs.Common.{length, map, ap, ◌∙◌, arith}
use Rattle.std.proofs.lemmas.List.{length-map}
use Rattle.cha_cert.specs.declared.shared.SharedNode.{SharedNode}
use Rattle.cha_cert.proofs.Finding.{words_sorted, few_places}
use Rattle.cha_cert.proofs.Expanded.{shared_index}
use Rattle.cha_cert.proofs.indexing.Index.of_shared.Goals as goal

pub invariant_of-result : goal.invariant_of-result
invariant_of-result c =
    let same = length-map c.nodes.result.now (λ (node : SharedNode). node.position) ∙ ap length c.nodes.ensures.value in
    let few = c.requires in (
      words_sorted c.sort.new.self.items c.in_ok-sort.ensures.sorted,
      few_places (map (λ (node : SharedNode). node.position) c.nodes.result.now) 4294967296 c.in_ok-places.places.items c.sort.new.self.items c.in_ok-places.ensures.places c.in_ok-sort.ensures.permutation (omega (arith, same, few)),
    )

pub returns : goal.returns
returns c =
    shared_index c.args.shared.now c.nodes.result.now c.in_ok-places.places.items c.sort.new.self.items c.nodes.ensures.value c.in_ok-places.ensures.places c.in_ok-sort.ensures.permutation c.in_ok-places.ensures.valid
