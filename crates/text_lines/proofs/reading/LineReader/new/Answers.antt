use Rattle.text_lines.proofs.Kept.{none_held, none_waits}
use Rattle.text_lines.proofs.reading.LineReader.new.Goals as goal

pub invariant_of-result : goal.invariant_of-result
invariant_of-result c = λ _. (none_held _ _ _ _ _ c.new.ensures.empty.0 c.new.ensures.empty.1 c.new.ensures.zero.0 c.new.ensures.zero.1 c.new.ensures.zero.2, none_waits _ _ c.new.ensures.empty.0 c.new.ensures.empty.1, λ e. cc)
