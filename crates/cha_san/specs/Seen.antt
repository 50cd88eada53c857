-- How many moves were found, as far as it matters.
use Rattle.std.specs.Prelude.{List, [], ◌∷◌, Result, Ok, Err}
use Rattle.cha_moves.specs.Step.{Move}
use Rattle.cha_san.specs.declared.faults.SanFault.{SanFault}
use Rattle.cha_san.specs.declared.faults.SanFault.TheVariants.{NoSuchMove, Ambiguous}
use Rattle.cha_san.specs.declared.found.Found.{Found}
use Rattle.cha_san.specs.declared.found.Found.TheVariants.{Nothing, One, Several}

-- once another move is found
abbrev pub with_one : Found → Move → Found
with_one Nothing m = One m
with_one (One n) m = Several
with_one Several m = Several

-- once the moves of a list are found
abbrev pub seen : Found → List Move → Found
seen found [] = found
seen found (m ∷ ms) = seen (with_one found m) ms

-- the one move
abbrev pub answered : Found → Result Move SanFault
answered Nothing = Err NoSuchMove
answered (One m) = Ok m
answered Several = Err Ambiguous
