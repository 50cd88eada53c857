-- What each verdict on a position says (this project).
use Rattle.std.specs.Prelude.{◌≡◌, ℕ, ◌≤◌, ◌⊎◌, true, false, List, length, ⊤}
use Rattle.cha_board.specs.declared.men.Color.{Color}
use Rattle.cha_board.specs.declared.men.Color.TheVariants.{White, Black}
use Rattle.cha_board.specs.Men.{other_color}
use Rattle.cha_board.specs.Board.{Board}
use Rattle.cha_moves.specs.Step.{Move}
use Rattle.cha_moves.specs.Ends.{IsMatingLine, HasNoMateWithin}
use Rattle.cha_moves.specs.Lines.{HasLines, HasPositions}
use Rattle.mob_law.specs.Explored.{IsExplored}
use Rattle.cha_cert.specs.Certificates.{IsValidCert}
use Rattle.cha_verdict.specs.declared.verdicts.Verdict.{Verdict}
use Rattle.cha_verdict.specs.declared.verdicts.Verdict.TheVariants.{Winnable, Unwinnable, Undecided, Skipped}
use Rattle.cha_verdict.specs.declared.decisions.Decision.{Decision}
use Rattle.cha_cert.specs.AtOnce.{IsShownAtOnce}
use Rattle.cha_limits.specs.Bounds.{Bounds}
use Rattle.cha_verdict.specs.Verdicts.{is_winnable, is_unwinnable, is_undecided, is_skipped}

-- The whole budget was spent: that many distinct positions were expanded and no mate was met. Nor is there a mate within some
-- plies, which are at least two, and as many as the limits allow or as there are lines of moves for the budget; and nothing shows
-- without a search that the side cannot mate.
pub record IsUndecided (q : Board) (winner : Color) (limits : Bounds) (positions depth : ℕ) : Type 0 where
  pub spent : positions ≡ limits.budget
  pub explored : IsExplored q winner positions
  pub unshown : IsShownAtOnce q winner → ⊥
  pub deep : 2 ≤ depth
  pub none : HasNoMateWithin q winner depth
  pub searched : (depth ≡ limits.depth) ⊎ HasLines q depth limits.budget

-- a verdict on a side is true of a position; the first three exclude each other
abbrev pub IsTrueOf : Board → Color → Bounds → Verdict → Type 0
IsTrueOf q winner limits (Winnable moves) = IsMatingLine q winner moves
IsTrueOf q winner limits (Unwinnable cert) = IsValidCert q winner cert
IsTrueOf q winner limits (Undecided positions depth) = IsUndecided q winner limits positions depth
IsTrueOf q winner limits Skipped = ⊤

-- the verdict on a side
abbrev pub verdict_on : Decision → Color → Verdict
verdict_on d White = d.white
verdict_on d Black = d.black

-- Both verdicts are true. The side that is examined first is not skipped, and the other is skipped exactly where the first can
-- mate.
pub record IsSound (q : Board) (first : Color) (limits : Bounds) (d : Decision) : Type 0 where
  pub true_of : (winner : Color) → IsTrueOf q winner limits (verdict_on d winner)
  pub examined : is_skipped (verdict_on d first) ≡ false
  pub other : is_skipped (verdict_on d (other_color first)) ≡ is_winnable (verdict_on d first)

-- What a true verdict on a side cannot miss: a side that is examined is winnable where a mate within two plies exists and
-- unwinnable where that is shown without a search, and only where as many distinct positions as the budget can be reached by legal
-- moves is it undecided.
pub record IsComplete (q : Board) (winner : Color) (limits : Bounds) (verdict : Verdict) : Type 0 where
  pub finds_mates : (moves : List Move) → is_skipped verdict ≡ false → length moves ≤ 2 → IsMatingLine q winner moves → is_winnable verdict ≡ true
  pub finds_unwinnable : is_skipped verdict ≡ false → IsShownAtOnce q winner → is_unwinnable verdict ≡ true
  pub undecided : is_undecided verdict ≡ true → HasPositions q limits.budget
