-- The verdicts on both sides.
use Rattle.std.proofs.Common.{◌≡◌, false}
use Rattle.cha_board.specs.declared.men.Color.{Color}
use Rattle.cha_board.specs.declared.men.Color.TheVariants.{White, Black}
use Rattle.cha_board.specs.Men.{other_color}
use Rattle.cha_board.specs.Board.{Board}
use Rattle.cha_verdict.specs.declared.verdicts.Verdict.{Verdict}
use Rattle.cha_limits.specs.Bounds.{Bounds}
use Rattle.cha_verdict.specs.Verdicts.{is_winnable, is_skipped}
use Rattle.cha_verdict.specs.Sound.{IsTrueOf, IsSound, verdict_on}

-- what holds of the verdict on each side holds of both, whichever side was examined first
module _ (P : Color → Verdict → Type 0) where
  each : (white black : Verdict) → P White white → P Black black → (w : Color) → P w (verdict_on (record { white = white; black = black }) w)
  each white black on_white on_black White = on_white
  each white black on_white on_black Black = on_black

  pub each_white : (first second : Color) (white black : Verdict) → first ≡ White → second ≡ other_color first → P first white → P second black
      → (w : Color) → P w (verdict_on (record { white = white; black = black }) w)
  each_white White White white black e f one two w = cc
  each_white Black second white black e f one two w = cc
  each_white White Black white black e f one two w = each white black one two w

  pub each_black : (first second : Color) (white black : Verdict) → first ≡ Black → second ≡ other_color first → P first black → P second white
      → (w : Color) → P w (verdict_on (record { white = white; black = black }) w)
  each_black Black Black white black e f one two w = cc
  each_black White second white black e f one two w = cc
  each_black Black White white black e f one two w = each white black two one w

-- what is found about each side makes the whole, whichever side was examined first
module _ (q : Board) (limits : Bounds) where
  both : (white black : Verdict) → IsTrueOf q White limits white → IsTrueOf q Black limits black → (w : Color) → IsTrueOf q w limits (verdict_on (record { white = white; black = black }) w)
  both white black on_white on_black White = on_white
  both white black on_white on_black Black = on_black

  pub white_first : (first second : Color) (white black : Verdict) → first ≡ White → second ≡ other_color first
      → IsTrueOf q first limits white → is_skipped white ≡ false → IsTrueOf q second limits black → is_skipped black ≡ is_winnable white
      → IsSound q first limits (record { white = white; black = black })
  white_first White White white black e f holds examined later skipped = cc
  white_first Black second white black e f holds examined later skipped = cc
  white_first White Black white black e f holds examined later skipped =
      record { true_of = both white black holds later; examined = examined; other = skipped }

  pub black_first : (first second : Color) (white black : Verdict) → first ≡ Black → second ≡ other_color first
      → IsTrueOf q first limits black → is_skipped black ≡ false → IsTrueOf q second limits white → is_skipped white ≡ is_winnable black
      → IsSound q first limits (record { white = white; black = black })
  black_first Black Black white black e f holds examined later skipped = cc
  black_first White second white black e f holds examined later skipped = cc
  black_first Black White white black e f holds examined later skipped =
      record { true_of = both white black later holds; examined = examined; other = skipped }
