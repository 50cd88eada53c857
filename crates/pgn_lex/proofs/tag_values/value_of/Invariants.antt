use Rattle.std.proofs.Common.{◌≡◌, ◌-◌, List, ℕ, length, drop, false}
use Rattle.pgn_lex.specs.Tags.{value_after}
use Rattle.pgn_lex.specs.Values.{Keeps, onto_all}
use Rattle.pgn_lex.proofs.tag_values.value_of.Given as goal

-- some bytes of the value were read, and what is kept is of these
abbrev pub invariant-loop-at : goal.invariant-loop-at
invariant-loop-at l = (front : List ℕ) × Keeps l.text l.cut front × (value_after false l.bytes ≡ onto_all front (value_after l.escaped (drop l.at l.bytes)))

abbrev pub decreases-loop-at : goal.decreases-loop-at
decreases-loop-at l = length l.bytes - l.at
