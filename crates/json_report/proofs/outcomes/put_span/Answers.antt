use Rattle.json.specs.Json.{item, no_items}
use Rattle.json_report.specs.Lines.{count}
use Rattle.json_report.proofs.Stepping.{◌then◌, ◌before◌, next, keyed, whole_array, next_item, number_is}
use Rattle.json_report.proofs.outcomes.put_span.Goals as goal

pub returns : goal.returns
returns c = λ more.
    let first = next_item _ _ _ (item (count c.args.span.end) no_items) (number_is _ _ _ c.in_ok-number.ensures) in
    let last = next_item _ _ _ no_items (number_is _ _ _ c.in_ok-number-2.ensures) in
    let places = whole_array _ _ _ _ (item (count c.args.span.start) (item (count c.args.span.end) no_items)) c.in_ok-begin_array.ensures (first before last) c.in_ok-end_array.ensures in
    next _ _ _ _ _ (keyed _ _ _ _ _ c.in_ok-key.ensures places) then next _ _ _ _ _ c.in_ok-put_count.ensures
