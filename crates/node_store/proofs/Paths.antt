-- The line from the root to a node.
use Rattle.std.proofs.Common.{◌≡◌, ℕ, zero, suc, ◌<◌, length, List, [], ◌∷◌, ◌++◌, None, Some, reverse, refl, sym, ap, subst, ◌∙◌, arith}
use Rattle.std.proofs.lemmas.List.{reverse-append}
use Rattle.std.proofs.lemmas.Option.{same_Some}
use Rattle.cha_board.specs.Board.{Board}
use Rattle.cha_moves.specs.Step.{Move}
use Rattle.cha_moves.specs.Lines.{LeadTo}
use Rattle.node_store.specs.declared.origin.Origin.{Origin}
use Rattle.node_store.specs.Nodes.{Node, IsAt, IsReached, IsPath}
use Rattle.node_store.specs.Graphs.{HasOrigin}

-- no move leads from a node to itself
pub path_none : (nodes : List Node) (name : ℕ) (q : Board) → IsAt nodes name q → IsPath nodes name [] name
unfolding LeadTo
path_none nodes name q at = (q, q, at, at, refl)

-- one more move at the front
path_step : (nodes : List Node) (parent at name : ℕ) (m : Move) (ms : List Move) (q : Board) → IsAt nodes at q → IsReached nodes parent m q → IsPath nodes at ms name → IsPath nodes parent (m ∷ ms) name
unfolding LeadTo
path_step nodes parent at name m ms q here reached path =
    let same : path.0 ≡ q = same_Some path.0 q (sym path.2 ∙ here) in
    (reached.0, path.1, reached.1, path.3, (reached.2.0, subst (λ (p : Board). LeadTo p ms path.1) (same ∙ sym reached.2.1) path.4))

pub path_more : (nodes : List Node) (at name : ℕ) (o : Origin) (back more : List Move) (q : Board) → IsAt nodes at q → HasOrigin nodes at q (Some o) → more ≡ back ++ o.by ∷ [] → IsPath nodes at (reverse back) name → IsPath nodes o.parent (reverse more) name
unfolding HasOrigin
path_more nodes at name o back more q here origin is path =
    subst (λ (ms : List Move). IsPath nodes o.parent ms name) (sym (ap reverse is ∙ reverse-append back (o.by ∷ [])))
    (path_step nodes o.parent at name o.by (reverse back) q here origin.1 path)

-- and at the root
pub path_whole : (nodes : List Node) (at name : ℕ) (back moves : List Move) (q : Board) → HasOrigin nodes at q None → moves ≡ reverse back → IsPath nodes at (reverse back) name → IsPath nodes 0 moves name
unfolding HasOrigin
path_whole nodes at name back moves q origin is path =
    subst (λ (k : ℕ). IsPath nodes k moves name) origin (subst (λ (ms : List Move). IsPath nodes at ms name) (sym is) path)

pub earlier : (nodes : List Node) (at : ℕ) (q : Board) (o : Origin) → HasOrigin nodes at q (Some o) → o.parent < at
unfolding HasOrigin
earlier nodes at q o origin = origin.0

-- each name below the number of nodes has a position
pub at_within : (nodes : List Node) (name : ℕ) → name < length nodes → (q : Board) × IsAt nodes name q
at_within [] name within = absurd (omega arith)
at_within (n ∷ ns) zero within = (n.position, refl)
at_within (n ∷ ns) (suc name) within = at_within ns name (omega arith)

pub path_begins : (nodes : List Node) (name : ℕ) (back : List Move) → name < length nodes → back ≡ [] → IsPath nodes name (reverse back) name
path_begins nodes name back within none =
    let here = at_within nodes name within in
    subst (λ (ms : List Move). IsPath nodes name (reverse ms) name) (sym none) (path_none nodes name here.0 here.1)
