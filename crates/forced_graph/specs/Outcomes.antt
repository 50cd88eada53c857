-- What an exploration answers (this project).
use Rattle.std.specs.Prelude.{◌≡◌, ℕ, suc, ◌≤◌, ⊤, IsTrue, List, Some, length, slice_get, Contains}
use Rattle.std.specs.List.{All}
use Rattle.cha_list.specs.Distinct.{AreDistinct}
use Rattle.cha_board.specs.declared.men.Color.{Color}
use Rattle.cha_board.specs.Board.{Board}
use Rattle.cha_moves.specs.Moves.{is_zeroing}
use Rattle.cha_moves.specs.Ends.{IsMatingLine}
use Rattle.cha_moves.specs.Lines.{HasPositions}
use Rattle.mob_law.specs.Explored.{ComesFrom, IsExplored}
use Rattle.cha_cert.specs.declared.nodes.Node.{Node}
use Rattle.cha_cert.specs.declared.nodes.Part.TheVariants.{Inner}
use Rattle.cha_cert.specs.AtOnce.{IsShownAtOnce}
use Rattle.cha_cert.specs.Certificates.{IsValidCert}
use Rattle.forced_graph.specs.declared.explored.Explored.{Explored}
use Rattle.forced_graph.specs.declared.explored.Explored.TheVariants.{Mate, Closed, Spent}

-- a certificate has nodes, and their number takes 32 bits
abbrev pub IsCertSize : ℕ → Type 0
IsCertSize n = (1 ≤ n) × (n ≤ 4294967295)

-- A position comes by a legal move from one of the first so many of a list; where that move is a capture or a pawn's, nothing
-- shows at once that w cannot mate.
pub record ComesUnshown (members : List Board) (before : ℕ) (w : Color) (q : Board) : Type 0 where
  pub comes : ComesFrom members before w q
  pub unshown : IsTrue (is_zeroing comes.origin comes.by) → IsShownAtOnce q w → ⊥

-- each position of a list but the first comes from an earlier one, and where a capture or a pawn's move leads to it, nothing shows
-- at once that w cannot mate
abbrev pub AreUnshown : Color → List Board → Type 0
AreUnshown w members = (i : ℕ) (q : Board) → slice_get members (suc i) ≡ Some q → ComesUnshown members (suc i) w q

-- so many positions were expanded, of which none is one that is never to be expanded
abbrev pub HasExpanded : Board → Color → ℕ → Type 0
HasExpanded q w count = (e : IsExplored q w count) × AreUnshown w e.members

-- The inner nodes of a certificate are positions that were expanded, at most so many. These are distinct, the first is the one that was
-- asked for, and none of the others is one that is never to be expanded.
pub record HasExpandedInner (q : Board) (w : Color) (most : ℕ) (cert : List Node) : Type 0 where
  pub members : List Board
  pub few : length members ≤ most
  pub distinct : AreDistinct members
  pub first : (r : Board) → slice_get members 0 ≡ Some r → r ≡ q
  pub later : AreUnshown w members
  pub inner : All (λ node. node.part ≡ Inner → Contains members node.position) cert

-- the moves mate; or the certificate is valid, and its inner nodes were expanded; or exactly as many positions were expanded as were allowed
abbrev pub IsOutcome : Board → Color → ℕ → Explored → Type 0
IsOutcome q winner budget (Mate moves) = IsMatingLine q winner moves
IsOutcome q winner budget (Closed cert) = IsValidCert q winner cert × IsCertSize (length cert) × HasExpandedInner q winner budget cert
IsOutcome q winner budget (Spent count) = (count ≡ budget) × HasExpanded q winner count

-- where the budget is spent, as many distinct positions can be reached by legal moves: where fewer can, it never is
abbrev pub HasManyIfSpent : Board → ℕ → Explored → Type 0
HasManyIfSpent q budget (Mate moves) = ⊤
HasManyIfSpent q budget (Closed cert) = ⊤
HasManyIfSpent q budget (Spent count) = HasPositions q budget
