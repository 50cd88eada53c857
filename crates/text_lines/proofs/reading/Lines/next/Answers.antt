use Rattle.std.proofs.Common.{◌≡◌, ◌≤◌, true, false, List, ℕ, ◌++◌, Ok, ap, sym, ◌∙◌, arith}
use Rattle.cha_outside.proofs.Gathered.{gathers_more}
use Rattle.text_lines.specs.Lines.{settled_lines}
use Rattle.text_lines.proofs.Kept.{ended_given, still_waits, last_given, first_on}
use Rattle.text_lines.proofs.reading.Lines.next.Goals as goal

pub loop-line-preserved : goal.loop-line-preserved
loop-line-preserved g c =
    let r = c.refill.ensures in
    let i = c.loop-line.invariant in
    let e = c.next_ended.ensures in
    let given : c.next_ended.new.self.given ≡ c.loop-line.self.given = rw c.in-Ok-None.field-0-is at c.in-Ok-None.ensures.given in
    let none = ended_given _ _ _ _ _ _ _ _ _ c.in-Ok-None.ensures.held (e.none (c.in-Ok-None.is ∙ ap Ok c.in-Ok-None.field-0-is)) c.if-self.false in
    record {
      held = c.in-Ok-More.ensures.held;
      waits = r.waits;
      bytes = gathers_more _ _ _ _ _ _ r.bytes.0 i.bytes r.bytes.1 (r.bytes.2 ∙ ap (λ (x : List ℕ). x ++ r.bytes.0) e.taken);
      given = r.same.0 ∙ given ∙ i.given;
      ended = r.same.1 ∙ sym c.if-self.false ∙ e.same ∙ i.ended;
      first = first_on _ _ _ _ _ _ (given ∙ i.given) r.first e.taken i.first;
      still = λ t. let no : true ≡ false = sym t ∙ sym i.ended ∙ sym e.same ∙ c.if-self.false in cc;
      at_hand = λ more. (let was = i.at_hand more in absurd (omega (arith, more, none, ap settled_lines (e.taken ∙ was.1), given, i.given)));
      later = omega (arith, r.later, i.later);
    }

pub returns-in-Ok-End-clause-bytes : goal.returns-in-Ok-End-clause-bytes
returns-in-Ok-End-clause-bytes g c =
    let r = c.refill.ensures in
    gathers_more _ _ _ _ _ _ r.bytes.0 c.loop-line.invariant.bytes r.bytes.1 (c.take_last-in-Ok-End.ensures.taken ∙ r.bytes.2 ∙ ap (λ (x : List ℕ). x ++ r.bytes.0) c.next_ended.ensures.taken)

pub returns-in-Ok-End-clause-held : goal.returns-in-Ok-End-clause-held
returns-in-Ok-End-clause-held g c =
    let more : c.refill.new.self.given ≤ c.take_last-in-Ok-End.new.self.given = last_given c.take_last-in-Ok-End.result _ _ c.take_last-in-Ok-End.ensures.given in
    still_waits _ _ _ _ _ _ c.take_last-in-Ok-End.ensures.held c.take_last-in-Ok-End.ensures.taken more c.refill.ensures.waits

pub returns-in-Err-refill-clause-bytes : goal.returns-in-Err-refill-clause-bytes
returns-in-Err-refill-clause-bytes g c =
    let r = c.refill.ensures in
    gathers_more _ _ _ _ _ _ r.bytes.0 c.loop-line.invariant.bytes r.bytes.1 (r.bytes.2 ∙ ap (λ (x : List ℕ). x ++ r.bytes.0) c.next_ended.ensures.taken)

pub returns-in-Ok-End-clause-at_hand : goal.returns-in-Ok-End-clause-at_hand
returns-in-Ok-End-clause-at_hand g c = λ more.
    let i = c.loop-line.invariant in
    let e = c.next_ended.ensures in
    let given : c.next_ended.new.self.given ≡ c.loop-line.self.given = rw c.in-Ok-None.field-0-is at c.in-Ok-None.ensures.given in
    let none = ended_given _ _ _ _ _ _ _ _ _ c.in-Ok-None.ensures.held (e.none (c.in-Ok-None.is ∙ ap Ok c.in-Ok-None.field-0-is)) c.if-self.false in
    let was = i.at_hand more in
    absurd (omega (arith, more, none, ap settled_lines (e.taken ∙ was.1), given, i.given))

pub returns-in-Err-refill-clause-at_hand : goal.returns-in-Err-refill-clause-at_hand
returns-in-Err-refill-clause-at_hand g c = λ more.
    let i = c.loop-line.invariant in
    let e = c.next_ended.ensures in
    let given : c.next_ended.new.self.given ≡ c.loop-line.self.given = rw c.in-Ok-None.field-0-is at c.in-Ok-None.ensures.given in
    let none = ended_given _ _ _ _ _ _ _ _ _ c.in-Ok-None.ensures.held (e.none (c.in-Ok-None.is ∙ ap Ok c.in-Ok-None.field-0-is)) c.if-self.false in
    let was = i.at_hand more in
    absurd (omega (arith, more, none, ap settled_lines (e.taken ∙ was.1), given, i.given))
