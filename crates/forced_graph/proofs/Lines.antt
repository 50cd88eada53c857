-- Lines from the root through a node to a mate.
use Rattle.std.proofs.Common.{◌≡◌, ℕ, List, [], ◌∷◌, ◌++◌, sym, subst, ◌∙◌}
use Rattle.std.proofs.lemmas.Option.{same_Some}
use Rattle.cha_board.specs.declared.men.Color.{Color}
use Rattle.cha_board.specs.Board.{Board}
use Rattle.cha_moves.specs.Step.{Move}
use Rattle.cha_moves.specs.Moves.{after}
use Rattle.cha_moves.specs.Ends.{IsMatingLine}
use Rattle.cha_moves.specs.Lines.{LeadTo}
use Rattle.node_store.specs.Nodes.{Node, IsAt, IsPath}

mates_behind : (p q : Board) (w : Color) (ms rest : List Move) → LeadTo p ms q → IsMatingLine q w rest → IsMatingLine p w (ms ++ rest)
unfolding LeadTo
mates_behind p q w [] rest line mates = subst (λ (b : Board). IsMatingLine b w rest) (sym line) mates
mates_behind p q w (m ∷ ms) rest line mates = (line.0, mates_behind (after p m) q w ms rest line.1 mates)

-- the path to a node and a line that mates from there
pub path_mates : (nodes : List Node) (root : Board) (w : Color) (name : ℕ) (path rest ms : List Move) → IsPath nodes 0 path name → IsAt nodes 0 root → ((q : Board) → IsAt nodes name q → IsMatingLine q w rest) → ms ≡ path ++ rest → IsMatingLine root w ms
path_mates nodes root w name path rest ms way begins mates is =
    let same : way.0 ≡ root = same_Some way.0 root (sym way.2 ∙ begins) in
    subst (IsMatingLine root w) (sym is)
    (subst (λ (b : Board). IsMatingLine b w (path ++ rest)) same (mates_behind way.0 way.1 w path rest way.4 (mates way.1 way.3)))
