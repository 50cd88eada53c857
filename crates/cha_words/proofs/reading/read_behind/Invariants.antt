use Rattle.std.proofs.Common.{◌≡◌, ◌≤◌, ◌-◌, ◌++◌, List, ℕ, length, map, take, string_bytes}
use Rattle.cha_words.specs.Language.{order_by}
use Rattle.cha_words.specs.Reading.{Stands, order_with}
use Rattle.cha_words.proofs.reading.read_behind.Given as goal

-- whatever words come, they order with what is given what they order behind the words that are read
abbrev pub invariant-loop-index : goal.invariant-loop-index
invariant-loop-index l = record {
  stands : Stands l.command l.progress;
  within : l.index ≤ length l.words;
  same : (more : List (List ℕ)) → order_by l.command (take l.index (map string_bytes l.words) ++ more) ≡ order_with l.command l.progress more;
}

abbrev pub decreases-loop-index : goal.decreases-loop-index
decreases-loop-index l = length l.words - l.index
