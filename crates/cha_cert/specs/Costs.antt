-- How many looks at an index a check takes (this project). The first three are what public contracts say.
use Rattle.std.specs.Prelude.{ℕ, ◌+◌, ◌*◌, ◌^◌, ◌<◌, ◌≤◌, List, length, sum_by}
use Rattle.cha_board.specs.Board.{Board}
use Rattle.cha_moves.specs.Moves.{legal}
use Rattle.cha_cert.specs.declared.nodes.Node.{Node}
use Rattle.cha_cert.specs.declared.nodes.Part.{Part}
use Rattle.cha_cert.specs.declared.nodes.Part.TheVariants.{Inner, Leaf, Men}
use Rattle.cha_cert.specs.declared.shared.SharedNode.{SharedNode}
use Rattle.cha_cert.specs.declared.shared.SharedPart.{SharedPart}
use Rattle.cha_cert.specs.declared.shared.SharedPart.TheVariants.{Inner as SharedInner, Leaf as SharedLeaf, Men as SharedMen}

-- the number of legal moves of a position, if a node on it is an inner one
abbrev pub moves_at : Board → Part → ℕ
moves_at q Inner = length (legal q)
moves_at q (Leaf sets) = 0
moves_at q (Men reason) = 0

-- the number of legal moves of all inner nodes
abbrev pub inner_moves : List Node → ℕ
inner_moves nodes = sum_by (λ (node : Node). moves_at node.position node.part) nodes

-- the same of a shared node
abbrev pub shared_moves_at : Board → SharedPart → ℕ
shared_moves_at q SharedInner = length (legal q)
shared_moves_at q (SharedLeaf i) = 0
shared_moves_at q (SharedMen reason) = 0

abbrev pub shared_moves : SharedNode → ℕ
shared_moves node = shared_moves_at node.position node.part

-- A count rises from one number to another by at most b for each of so many moves, whatever b has 2n + 1 < 2 ^ (b + 1): the
-- least such b is the greatest with 2 ^ b ≤ 2n + 1.
abbrev pub CostsAtMost : ℕ → ℕ → ℕ → ℕ → Type 0
CostsAtMost n moves before now = (before ≤ now) × ((b : ℕ) → 2 * n + 1 < 2 ^ (b + 1) → now ≤ before + b * moves)
