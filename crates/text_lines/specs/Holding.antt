-- What a reader of lines keeps.
use Rattle.std.specs.Prelude.{◌≡◌, ℕ, ◌+◌, ◌≤◌, Bool, true, false, List, [], ◌++◌, length, take, drop}
use Rattle.std.specs.List.{prefix_len}
use Rattle.cha_list.specs.declared.classes.Class.TheVariants.{NotLineFeed}
use Rattle.cha_list.specs.Bytes.{in_class}
use Rattle.cha_outside.specs.declared.gathering.TheConstants.{MOST_BYTES}
use Rattle.text_lines.specs.declared.lines.TextLine.{TextLine}
use Rattle.text_lines.specs.Lines.{lines, numbered, text_lines, ended_size}

-- so many lines were given of these bytes, and the line that begins behind them has this number; no byte follows the last line that
-- no line feed ends
pub record IsGone (gone : List ℕ) (number given : ℕ) (finished : Bool) : Type 0 where
  pub done : List TextLine
  pub count : length done ≡ given
  pub joins : (later : List ℕ) → (finished ≡ true → later ≡ []) → text_lines (gone ++ later) ≡ done ++ numbered number (lines later)
  pub at_line : finished ≡ false → ended_size gone ≡ length gone
  pub few : number ≤ length gone + 1
  pub few_given : given ≤ length gone

-- Of the bytes taken those before are gone; of the piece so many are used, and in so many no line feed is left.
pub record IsHeld (before piece : List ℕ) (used scanned number given taken : ℕ) (ended finished : Bool) : Type 0 where
  pub gone : IsGone (before ++ take used piece) number given finished
  pub used_inside : used ≤ scanned
  pub scanned_inside : scanned ≤ length piece
  pub no_feed : scanned ≤ used + prefix_len (in_class NotLineFeed) (drop used piece)
  pub all_used : finished ≡ true → used ≡ length piece
  pub at_end : finished ≡ true → ended ≡ true
  pub taken_is : taken ≡ length before + length piece
  pub few_bytes : taken ≤ MOST_BYTES
