use Rattle.std.proofs.Common.{ap, length}
use Rattle.pgn_lex.proofs.Keeping.{keeps_more, keeps_no_more}
use Rattle.pgn_lex.proofs.tag_values.keep.Goals as goal

pub returns-then-items-lt-KEPT : goal.returns-then-items-lt-KEPT
returns-then-items-lt-KEPT c = λ front keeps.
    keeps_more _ _ front _ c.args.byte keeps (rw (← ap length c.items.ensures) c.if-items-lt-KEPT.true) c.in_ok-push.ensures.ok

pub returns : goal.returns
returns c = λ front keeps.
    keeps_no_more _ front _ c.args.byte keeps (rw (← ap length c.items.ensures) c.if-items-lt-KEPT.false)
