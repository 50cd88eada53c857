-- The words for the status of a position (this project).
use Rattle.std.specs.Prelude.{ℕ, List, codes}
use Rattle.cha_outcome.specs.declared.status.PositionStatus.{PositionStatus}
use Rattle.cha_outcome.specs.declared.status.PositionStatus.TheVariants.{Checkmate, Stalemate, Dead, Live, Unclear}

-- the word for the status of a position
unfoldable pub status_text : PositionStatus → List ℕ
status_text Checkmate = codes "checkmate"
status_text Stalemate = codes "stalemate"
status_text Dead = codes "dead"
status_text Live = codes "live"
status_text Unclear = codes "unclear"
