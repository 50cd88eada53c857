-- What a splitter of games has taken and given.
use Rattle.std.specs.Prelude.{ℕ, Bool, List}

-- the bytes taken, how many of their games were given, whether all bytes of the last piece were read and no whole game is left among
-- them, whether the text has ended, and whether a call failed
pub record SplitterState : Type 0 where
  pub taken : List ℕ
  pub given : ℕ
  pub spent : Bool
  pub ended : Bool
  pub failed : Bool
