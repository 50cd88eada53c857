-- One more node of a shared certificate, with sets of its own.
use Rattle.std.proofs.Common.{◌≡◌, [], ◌∷◌, ◌++◌, length, None, sym, ap, ◌∙◌}
use Rattle.std.proofs.lemmas.List.{map-append}
use Rattle.std.proofs.Math.Seq.{get_or-append_seam}
use Rattle.cha_board.specs.Board.{Board}
use Rattle.mob_sets.specs.Rows.{SetRows}
use Rattle.cha_cert.specs.declared.nodes.Node.{Node}
use Rattle.cha_cert.specs.declared.nodes.Part.TheVariants.{Leaf}
use Rattle.cha_cert.specs.declared.shared.SharedNode.{SharedNode}
use Rattle.cha_cert.specs.declared.shared.SharedPart.TheVariants.{Leaf as SharedLeaf}
use Rattle.cha_cert.specs.Shared.{Shared, AreNamed, no_sets, node_of, expansion, leaf_added}
use Rattle.cha_cert.proofs.OnceWritten.{expansion_grown}

-- a leaf, whose sets come last
pub leaf_spread : (c d : Shared) (node : Node) (q : Board) (s : SetRows) → AreNamed c → q ≡ node.position → node.part ≡ Leaf s → d ≡ leaf_added c q s None
    → expansion d ≡ expansion c ++ node ∷ []
leaf_spread c d node q s named here is added =
    let sets = c.sets ++ s ∷ [] in
    let leaf : SharedNode = record { position = q; part = SharedLeaf (length c.sets) } in
    let own : node_of sets leaf ≡ node = λ i. record { position = here i; part = (ap Leaf (get_or-append_seam c.sets s [] no_sets) ∙ sym is) i } in
    ap expansion added ∙ map-append (node_of sets) c.nodes (leaf ∷ [])
    ∙ ap (λ ns. ns ++ node_of sets leaf ∷ []) (expansion_grown c.sets (s ∷ []) c.nodes named)
    ∙ ap (λ n. expansion c ++ n ∷ []) own
