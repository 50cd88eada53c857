-- The law: where sets are closed and have no mate for a side, no series of legal moves mates for it.
use Rattle.std.proofs.Common.{List, [], ◌∷◌}
use Rattle.cha_board.specs.declared.men.Color.{Color}
use Rattle.cha_board.specs.Board.{Board, IsValid}
use Rattle.cha_moves.specs.Step.{Move}
use Rattle.cha_moves.specs.Moves.{after}
use Rattle.cha_moves.specs.Ends.{IsMatingLine, IsUnwinnable}
use Rattle.cha_moves.proofs.Listed.{is_listed}
use Rattle.cha_moves.proofs.Validity.{after_is_valid}
use Rattle.mob_sets.specs.Mobility.{Sets}
use Rattle.mob_law.specs.Closed.{IsClosed}
use Rattle.mob_law.specs.Threats.{HasNoMate}
use Rattle.mob_law.specs.Static.{IsStaticallyUnwinnable}
use Rattle.mob_law.proofs.CarriedFacts.{FactsHold}
use Rattle.mob_law.proofs.Begin.{facts_begin}
use Rattle.mob_law.proofs.Keeping.{facts_kept}
use Rattle.mob_law.proofs.Mating.{mate_threatens}

-- Sets that are closed for p and have no mate for w:
module _ (p : Board) (s : Sets) (w : Color) (closed : IsClosed p s) (none : HasNoMate p s w) where
  -- from a valid position where the facts hold, no list of legal moves mates: if it is empty, the mate would be a threat in
  -- the sets; else its first move leads to such a position again
  never : (q : Board) (ms : List Move) → IsValid q → FactsHold p s q → IsMatingLine q w ms → ⊥
  never q [] valid held mate =
      let threat = mate_threatens p s q w valid held mate in
      none threat.0 threat.1 threat.2
  never q (m ∷ rest) valid held line =
      let found = is_listed q m line.0 in
      never (after q m) rest (after_is_valid q m valid found.from found.to found.legal)
      (facts_kept p s q m closed valid found.from found.to found.legal held) line.1

-- the facts hold at the first position, and so the law
pub bounded : (p : Board) (s : Sets) (w : Color) → IsValid p → IsClosed p s → HasNoMate p s w → IsUnwinnable p w
bounded p s w valid closed none ms line = never p s w closed none p ms valid (facts_begin p s closed) line

-- so what is statically unwinnable is unwinnable
pub static_bounded : (p : Board) (w : Color) → IsValid p → IsStaticallyUnwinnable p w → IsUnwinnable p w
static_bounded p w valid found = bounded p found.0 w valid found.1 found.2
