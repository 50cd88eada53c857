-- cha_san/proofs/resolving/found_for/Invariants.antt
use Rattle.std.proofs.Common.{◌≡◌}
use Rattle.std.specs.List.{filter, flat_map}
use Rattle.cha_board.specs.SquareSets.{squares_in}
use Rattle.cha_moves.specs.Moves.{moves_from, all_moves}
use Rattle.cha_san.specs.declared.found.Found.TheVariants.{Nothing}
use Rattle.cha_san.specs.Seen.{seen}
use Rattle.cha_san.specs.Sources.{names}
use Rattle.cha_san.proofs.resolving.found_for.Given as goal

-- what was found, and what is found from the squares that are left, is all
abbrev pub invariant-loop-from : goal.invariant-loop-from
invariant-loop-from l = seen l.found (filter (names l.position l.form) (flat_map moves_from (squares_in l.from-iterator))) ≡ seen Nothing (filter (names l.position l.form) all_moves)
