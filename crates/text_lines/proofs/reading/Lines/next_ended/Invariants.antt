use Rattle.std.proofs.Common.{◌≡◌, ◌-◌, length}
use Rattle.text_lines.specs.Keeping.{taken_by, IsHeldBy}
use Rattle.text_lines.proofs.reading.Lines.next_ended.Given as goal

-- blank lines alone were passed
abbrev pub invariant-loop-end : goal.invariant-loop-end
invariant-loop-end l = record {
  held : IsHeldBy l.self;
  taken : taken_by l.self ≡ taken_by l.fn.self;
  given : l.self.given ≡ l.fn.self.given;
  ended : l.self.ended ≡ l.fn.self.ended;
}

abbrev pub decreases-loop-end : goal.decreases-loop-end
decreases-loop-end l = length l.self.text.piece.items - l.self.text.used
