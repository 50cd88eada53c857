-- What is found of the nodes of a certificate, each on its own.
use Rattle.std.specs.Prelude.{◌↔◌, ℕ, ◌<◌, Bool, not, IsTrue, List, Option, Some, None, Result, IfOk, slice_index_or}
use Rattle.std.specs.List.{HoldsAt}
use Rattle.cha_list.specs.declared.memory.NoMemory.{NoMemory}
use Rattle.cha_board.specs.declared.men.Color.{Color}
use Rattle.cha_cert.specs.declared.nodes.Node.{Node}
use Rattle.cha_cert.specs.Certificates.{NodeHolds, FirstFailing}

-- the test is false exactly where the node of a number holds
abbrev pub TellsFailing : Color → List Node → ℕ → Bool → Type 0
TellsFailing w nodes at fails = HoldsAt (λ (node : Node). IsTrue (not fails) ↔ NodeHolds w nodes node) nodes at

-- what was found of the node of a number, unless memory was refused
abbrev pub TellsFirst : Color → List Node → ℕ → Result Bool NoMemory → Type 0
TellsFirst w nodes at found = IfOk found (λ fails. TellsFailing w nodes at fails)

-- each node before the one of a number holds
abbrev pub HoldBefore : Color → List Node → ℕ → Type 0
HoldBefore w nodes to = (j : ℕ) (d : Node) → j < to → NodeHolds w nodes (slice_index_or nodes j d)

-- the number is that of the first node that fails; where there is none, each node before the one of another number holds
abbrev pub FirstBefore : Color → List Node → ℕ → Option ℕ → Type 0
FirstBefore w nodes to None = HoldBefore w nodes to
FirstBefore w nodes to (Some number) = FirstFailing (NodeHolds w nodes) nodes (Some number)
