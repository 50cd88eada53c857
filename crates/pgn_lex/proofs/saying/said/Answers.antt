use Rattle.std.proofs.Common.{Some, ap, ◌∙◌}
use Rattle.pgn_lex.specs.Stages.{token_at}
use Rattle.pgn_lex.proofs.Kept.{tag_kept}
use Rattle.pgn_lex.proofs.saying.said.Goals as goal

pub returns-in_ok-token-in-TagRead : goal.returns-in_ok-token-in-TagRead
unfolding token_at
returns-in_ok-token-in-TagRead c = λ w v e f. rw c.in-TagRead.is (ap Some (c.in_ok-token-in-TagRead.ensures ∙ tag_kept c.args.word.now c.args.value.now w v e f))
