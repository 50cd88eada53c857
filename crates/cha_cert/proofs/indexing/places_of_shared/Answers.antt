-- Each node gets its place.
use Rattle.std.proofs.Common.{◌∙◌, ap, subst, arith}
use Rattle.std.proofs.lemmas.List.{get_or_read}
use Rattle.cha_board.specs.Board.{IsValid}
use Rattle.cha_board.specs.Packing.{words_of}
use Rattle.cha_cert.specs.declared.shared.SharedNode.{SharedNode}
use Rattle.cha_cert.proofs.Finding.{no_place, place_more, valid_more}
use Rattle.cha_cert.proofs.indexing.places_of_shared.Goals as goal

pub loop-number-init : goal.loop-number-init
loop-number-init c = record { places = c.in_ok-places.ensures.items ∙ no_place 0; valid = λ k d less. absurd (omega (arith, less)) }

pub loop-number-preserved : goal.loop-number-preserved
loop-number-preserved c = record {
  places =
      place_more (λ (node : SharedNode). node.position) c.args.nodes.now c.loop-number.number c.loop-number.number c.loop-number.places.items c.push.new.self.items c.packed.result c.index-nodes-number.result
      c.loop-number-test.true c.loop-number.invariant.places (c.packed.ensures ∙ ap (λ (node : SharedNode). words_of node.position) c.index-nodes-number.is) (omega arith) c.in_ok-push.ensures.items;
  valid =
      valid_more (λ (node : SharedNode). node.position) c.args.nodes.now c.loop-number.number c.index-nodes-number.result c.loop-number.invariant.valid
      (λ d. subst (λ (node : SharedNode). IsValid node.position) (get_or_read c.args.nodes.now c.loop-number.number c.index-nodes-number.result c.loop-number-test.true c.index-nodes-number.is d) c.known.ensures);
}
