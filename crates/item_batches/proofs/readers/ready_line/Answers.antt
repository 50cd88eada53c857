use Rattle.std.proofs.Common.{◌<◌, ◌≤◌, length, arith, refl}
use Rattle.text_lines.specs.Lines.{text_lines}
use Rattle.item_batches.proofs.Items.{lines_took, line_given_few, line_at}
use Rattle.item_batches.proofs.readers.ready_line.Goals as goal

pub returns-in-Ok-Some-clause-cut : goal.returns-in-Ok-Some-clause-cut
returns-in-Ok-Some-clause-cut c =
    let found = rw (c.in-Ok-Some.field-0-is, c.ready.ensures.same.0) at c.in-Ok-Some.ensures.line in
    (line_at (text_lines c.args.reader.now.taken) c.args.reader.now.given c.in-Ok-Some.line found, tt, refl)

pub returns-in-Ok-Some-clause-given : goal.returns-in-Ok-Some-clause-given
returns-in-Ok-Some-clause-given c =
    let few : length c.args.reader.now.taken ≤ 268435456 = c.requires.1 in
    let there : c.args.reader.now.given < length c.args.reader.now.taken = line_given_few c.args.reader.now.taken c.args.reader.now.given c.in-Ok-Some.line (rw (c.in-Ok-Some.field-0-is, c.ready.ensures.same.0) at c.in-Ok-Some.ensures.line) in
    (rw c.in-Ok-Some.field-0-is at c.in-Ok-Some.ensures.given, omega (arith, there, few))

pub returns-in-Ok-Some-clause-no_more : goal.returns-in-Ok-Some-clause-no_more
returns-in-Ok-Some-clause-no_more c = lines_took _ _ c.ready.ensures.no_more

pub returns-in-Ok-None-clause-no_more : goal.returns-in-Ok-None-clause-no_more
returns-in-Ok-None-clause-no_more c = lines_took _ _ c.ready.ensures.no_more

pub returns-in-Err-clause-no_more : goal.returns-in-Err-clause-no_more
returns-in-Err-clause-no_more c = lines_took _ _ c.ready.ensures.no_more
