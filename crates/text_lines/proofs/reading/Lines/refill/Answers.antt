use Rattle.std.proofs.Common.{◌≤◌, length, drop, length-append, ap, arith}
use Rattle.text_lines.proofs.Kept.{refilled_whole, refilled_held, refilled_first, refilled_settled, refilled_waits, on_ok}
use Rattle.text_lines.proofs.reading.Lines.refill.Goals as goal

pub returns-clause-bytes : goal.returns-clause-bytes
returns-clause-bytes g c =
    let r = c.refill.ensures in
    (r.bytes.0, r.bytes.1, refilled_whole _ _ _ _ _ _ _ _ _ c.requires.held c.requires.no_feed c.requires.open r.bytes.0 _ _ _ _ r.before r.bytes.2 r.scanned r.taken)

pub returns-clause-held : goal.returns-clause-held
returns-clause-held g c =
    let r = c.refill.ensures in
    on_ok c.refill.result _ _ r.too_long (λ few. rw r.used (refilled_held _ _ _ _ _ _ _ _ _ c.requires.held c.requires.no_feed c.requires.open r.bytes.0 _ _ _ _ r.before r.bytes.2 r.scanned r.taken few))

pub returns-clause-first : goal.returns-clause-first
returns-clause-first g c =
    let r = c.refill.ensures in
    refilled_first _ _ _ _ _ _ _ _ _ c.requires.held c.requires.no_feed c.requires.open r.bytes.0 _ _ _ _ r.before r.bytes.2 r.scanned r.taken

pub returns-clause-fault : goal.returns-clause-fault
returns-clause-fault g c = λ e.
    let r = c.refill.ensures in
    ((r.fault e).0, refilled_settled _ _ _ _ _ _ _ _ _ c.requires.held c.requires.no_feed c.requires.open r.bytes.0 _ _ _ _ r.before r.bytes.2 r.scanned r.taken (r.fault e).1)

pub returns-clause-waits : goal.returns-clause-waits
returns-clause-waits g c =
    let r = c.refill.ensures in
    let few : length r.bytes.0 ≤ 65536 = omega (arith, r.few_more, ap length r.bytes.2, length-append (drop c.args.self.now.text.used c.args.self.now.text.piece.items) r.bytes.0) in
    refilled_waits _ _ _ _ _ _ _ _ _ c.requires.held c.requires.no_feed c.requires.open r.bytes.0 _ _ _ _ r.before r.bytes.2 r.scanned r.taken few

pub returns-clause-none_settled : goal.returns-clause-none_settled
returns-clause-none_settled g c = λ e.
    let r = c.refill.ensures in
    refilled_settled _ _ _ _ _ _ _ _ _ c.requires.held c.requires.no_feed c.requires.open r.bytes.0 _ _ _ _ r.before r.bytes.2 r.scanned r.taken (r.end e).1
