use Rattle.std.proofs.Common.{◌<◌, ◌≤◌, length, sym, ◌∙◌, arith, refl}
use Rattle.text_lines.specs.Lines.{text_lines}
use Rattle.item_batches.proofs.Items.{lines_took, line_given_few, line_at, lines_first}
use Rattle.item_batches.proofs.Items.{not_more}
use Rattle.item_batches.proofs.readers.next_line.Goals as goal

pub returns-in-Ok-Some-clause-cut : goal.returns-in-Ok-Some-clause-cut
returns-in-Ok-Some-clause-cut g c =
    (line_at (text_lines c.next.new.self.taken) c.args.reader.now.given c.in-Ok-Some.line (rw c.in-Ok-Some.field-0-is at c.in-Ok-Some.ensures.line), tt, refl)

pub returns-in-Ok-Some-clause-given : goal.returns-in-Ok-Some-clause-given
returns-in-Ok-Some-clause-given g c =
    let few : length c.next.new.self.taken ≤ 268435456 = not_more _ 268435456 (λ long. let e = sym c.in-Ok-Some.is ∙ c.next.ensures.too_long.1 long in cc) in
    let there : c.args.reader.now.given < length c.next.new.self.taken = line_given_few c.next.new.self.taken c.args.reader.now.given c.in-Ok-Some.line (rw c.in-Ok-Some.field-0-is at c.in-Ok-Some.ensures.line) in
    (rw c.in-Ok-Some.field-0-is at c.in-Ok-Some.ensures.given, omega (arith, there, few))

pub returns-in-Ok-Some-clause-first : goal.returns-in-Ok-Some-clause-first
returns-in-Ok-Some-clause-first g c = lines_first _ _ _ c.next.ensures.first

pub returns-in-Ok-None-clause-first : goal.returns-in-Ok-None-clause-first
returns-in-Ok-None-clause-first g c = lines_first _ _ _ c.next.ensures.first

pub returns-in-Err-clause-first : goal.returns-in-Err-clause-first
returns-in-Err-clause-first g c = lines_first _ _ _ c.next.ensures.first

pub returns-in-Ok-Some-clause-no_more : goal.returns-in-Ok-Some-clause-no_more
returns-in-Ok-Some-clause-no_more g c = lines_took _ _ c.next.ensures.no_more

pub returns-in-Ok-None-clause-no_more : goal.returns-in-Ok-None-clause-no_more
returns-in-Ok-None-clause-no_more g c = lines_took _ _ c.next.ensures.no_more

pub returns-in-Err-clause-no_more : goal.returns-in-Err-clause-no_more
returns-in-Err-clause-no_more g c = lines_took _ _ c.next.ensures.no_more
