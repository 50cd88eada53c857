-- Lists by links: the front of each, how many names it has, and for each name the one that follows it.
use Rattle.std.specs.Prelude.{ℕ, zero, suc, List, [], ◌∷◌, map, slice_index}
use Rattle.node_store.specs.declared.chains.Head.{Head}

-- so many names, from one on
unfoldable pub chain : List ℕ → ℕ → ℕ → List ℕ
chain links zero x = []
chain links (suc n) x = x ∷ chain links n (slice_index links x)

-- the list of a head
abbrev pub list_of : List ℕ → Head → List ℕ
list_of links head = chain links head.count head.front

-- the lists of the heads
abbrev pub lists_of : List Head → List ℕ → List (List ℕ)
lists_of heads links = map (list_of links) heads
