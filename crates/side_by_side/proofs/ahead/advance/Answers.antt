use Rattle.side_by_side.proofs.Going.{cut_goes_on}
use Rattle.side_by_side.proofs.ahead.advance.Goals as goal

pub returns : goal.returns
returns c = cut_goes_on c.args.question.now c.args.progress.now _ c.in-Cut.cut c.in-Ok.item c.in-Cut.is c.in-Ok.ensures.item (c.with_cut.ensures c.args.question.now c.in-Ok.item c.judged_alone-judged.ensures)
