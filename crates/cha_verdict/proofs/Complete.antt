-- What true verdicts cannot miss.
use Rattle.std.proofs.Common.{◌≡◌, ℕ, ◌≤◌, true, false, List, length, refl, subst, arith}
use Rattle.cha_board.specs.declared.men.Color.{Color}
use Rattle.cha_board.specs.Board.{Board, IsValid}
use Rattle.cha_moves.specs.Step.{Move}
use Rattle.cha_moves.specs.Ends.{IsMatingLine, IsUnwinnable}
use Rattle.cha_moves.specs.Lines.{HasPositions}
use Rattle.mob_law.proofs.Exploring.{explored_positions}
use Rattle.mob_law.proofs.Law.{static_bounded}
use Rattle.mob_small.proofs.MenAlone.{bounded}
use Rattle.cha_cert.specs.AtOnce.{IsShownAtOnce, BySets, ByMen}
use Rattle.cha_cert.proofs.Bounded.{valid_is_unwinnable}
use Rattle.cha_verdict.specs.declared.verdicts.Verdict.{Verdict}
use Rattle.cha_verdict.specs.declared.verdicts.Verdict.TheVariants.{Winnable, Unwinnable, Undecided, Skipped}
use Rattle.cha_verdict.specs.declared.decisions.Decision.{Decision}
use Rattle.cha_limits.specs.Bounds.{Bounds}
use Rattle.cha_verdict.specs.Verdicts.{is_winnable, is_unwinnable, is_undecided, is_skipped}
use Rattle.cha_verdict.specs.Sound.{IsTrueOf, IsSound, IsComplete, verdict_on}

-- what is shown without a search holds
at_once_bounded : (q : Board) (w : Color) → IsValid q → IsShownAtOnce q w → IsUnwinnable q w
at_once_bounded q w valid (BySets static) = static_bounded q w valid static
at_once_bounded q w valid (ByMen reason holds) = bounded q w reason valid holds

module _ (q : Board) (w : Color) (limits : Bounds) where
  -- a side that is examined is winnable where a mate within two plies exists
  mate_found : (v : Verdict) → IsTrueOf q w limits v → is_skipped v ≡ false → (ms : List Move) → length ms ≤ 2 → IsMatingLine q w ms → is_winnable v ≡ true
  mate_found (Winnable moves) h examined ms few line = refl
  mate_found (Unwinnable cert) h examined ms few line = absurd (valid_is_unwinnable q w cert h ms line)
  mate_found (Undecided positions depth) h examined ms few line = let deep = h.deep in absurd (h.none ms (omega (arith, deep, few)) line)
  mate_found Skipped h examined ms few line = cc

  -- and unwinnable where that is shown without a search
  shown_found : (v : Verdict) → IsTrueOf q w limits v → IsValid q → is_skipped v ≡ false → IsShownAtOnce q w → is_unwinnable v ≡ true
  shown_found (Winnable moves) h valid examined shown = absurd (at_once_bounded q w valid shown moves h)
  shown_found (Unwinnable cert) h valid examined shown = refl
  shown_found (Undecided positions depth) h valid examined shown = absurd (h.unshown shown)
  shown_found Skipped h valid examined shown = cc

  -- and undecided only where many positions can be reached
  many_reached : (v : Verdict) → IsTrueOf q w limits v → is_undecided v ≡ true → HasPositions q limits.budget
  many_reached (Winnable moves) h undecided = cc
  many_reached (Unwinnable cert) h undecided = cc
  many_reached (Undecided positions depth) h undecided = subst (λ (n : ℕ). HasPositions q n) h.spent (explored_positions q w positions h.explored)
  many_reached Skipped h undecided = cc

pub complete : (q : Board) (first : Color) (limits : Bounds) (d : Decision) → IsValid q → IsSound q first limits d → (w : Color) → IsComplete q w limits (verdict_on d w)
complete q first limits d valid sound w = record {
  finds_mates = λ ms examined few line. mate_found q w limits (verdict_on d w) (sound.true_of w) examined ms few line;
  finds_unwinnable = λ examined shown. shown_found q w limits (verdict_on d w) (sound.true_of w) valid examined shown;
  undecided = λ is. many_reached q w limits (verdict_on d w) (sound.true_of w) is;
}
