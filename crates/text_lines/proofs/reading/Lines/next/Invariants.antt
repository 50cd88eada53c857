use Rattle.std.proofs.Common.{◌≡◌, ◌+◌, ◌-◌, ◌<◌, ◌≤◌, length, take, true}
use Rattle.cha_outside.specs.Gathering.{Gathers}
use Rattle.cha_outside.specs.declared.gathering.TheConstants.{MOST_BYTES}
use Rattle.text_lines.specs.Lines.{text_lines, settled_lines}
use Rattle.text_lines.specs.Keeping.{taken_by, IsHeldBy, WaitsAt}
use Rattle.text_lines.proofs.reading.Lines.next.Given as goal

-- the bytes that the source gave were taken, and no line was given
abbrev pub invariant-loop-line : goal.invariant-loop-line
invariant-loop-line g l = record {
  held : IsHeldBy l.self;
  waits : WaitsAt l.self;
  bytes : Gathers (g.S.Source.left l.fn.source) (g.S.Source.left l.source) (taken_by l.fn.self) (taken_by l.self);
  given : l.self.given ≡ l.fn.self.given;
  ended : l.self.ended ≡ l.fn.self.ended;
  first : take l.fn.self.given (text_lines (taken_by l.self)) ≡ take l.fn.self.given (text_lines (taken_by l.fn.self));
  still : l.fn.self.ended ≡ true → (taken_by l.self ≡ taken_by l.fn.self) × (l.source ≡ l.fn.source);
  at_hand : l.fn.self.given < settled_lines (taken_by l.fn.self) → (l.source ≡ l.fn.source) × (taken_by l.self ≡ taken_by l.fn.self);
  later : g.S.Source.faults l.fn.source ≤ g.S.Source.faults l.source;
}

abbrev pub decreases-loop-line : goal.decreases-loop-line
decreases-loop-line g l = MOST_BYTES + 4097 - length (taken_by l.self)
