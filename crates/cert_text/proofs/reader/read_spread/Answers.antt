use Rattle.std.proofs.Common.{rules, subst, ◌<◌, ◌^◌, ◌∙◌, sym, ap, drop, Err, arith, length-drop}
use Rattle.std.proofs.lemmas.List.{drop_all}
use Rattle.cha_cert.proofs.Expanded.{length-expansion}
use Rattle.cert_text.proofs.Going.{ended_here, not_ended}
use Rattle.cert_text.proofs.Spelling.{read_is_spelled, some_read, few_read}
use Rattle.cert_text.proofs.Parts.{parts_read}
use Rattle.cert_text.specs.Texts.{cert_of}
use Rattle.cert_text.proofs.Rereading.{no_text, none_refused}
use Rattle.cert_text.proofs.reader.read_spread.Goals as goal

pub returns-then-left-bytes-clause-value : goal.returns-then-left-bytes-clause-value
returns-then-left-bytes-clause-value c =
    parts_read c.args.bytes.now _ _ _ _ _ _ _ _ _ _ _ _ _ _ _ c.in_ok-left.ensures.said c.in_ok-winner.ensures.said c.in_ok-count.ensures.said (c.in_ok-count.ensures.tail ∙ c.in_ok-winner.ensures.tail ∙ c.in_ok-left.ensures.tail) c.in_ok-cert.ensures.said c.in_ok-left-2.ensures.said
    (ended_here (drop c.in_ok-left-2.left.at c.args.bytes.now) c.args.bytes.now c.in_ok-left-2.left.number _ (drop_all c.in_ok-left-2.left.at c.args.bytes.now (omega arith)) (c.in_ok-left-2.ensures.tail ∙ c.in_ok-cert.ensures.tail ∙ c.in_ok-count.ensures.tail ∙ c.in_ok-winner.ensures.tail ∙ c.in_ok-left.ensures.tail))

pub returns-else-left-bytes-clause-fault : goal.returns-else-left-bytes-clause-fault
returns-else-left-bytes-clause-fault c kind =
    parts_read c.args.bytes.now _ _ _ _ _ _ _ _ _ _ _ _ _ _ _ c.in_ok-left.ensures.said c.in_ok-winner.ensures.said c.in_ok-count.ensures.said (c.in_ok-count.ensures.tail ∙ c.in_ok-winner.ensures.tail ∙ c.in_ok-left.ensures.tail) c.in_ok-cert.ensures.said c.in_ok-left-2.ensures.said
    (not_ended (drop c.in_ok-left-2.left.at c.args.bytes.now) c.args.bytes.now c.in_ok-left-2.left.number _ (let inside = c.in_ok-left-2.ensures.inside in let other = c.if-left-bytes.false in omega (arith, length-drop c.in_ok-left-2.left.at c.args.bytes.now, inside, other)) (c.in_ok-left-2.ensures.tail ∙ c.in_ok-cert.ensures.tail ∙ c.in_ok-count.ensures.tail ∙ c.in_ok-winner.ensures.tail ∙ c.in_ok-left.ensures.tail) ∙ ap Err (sym c.misfit.ensures))

pub returns-then-left-bytes-clause-spelled : goal.returns-then-left-bytes-clause-spelled
returns-then-left-bytes-clause-spelled c = read_is_spelled c.args.bytes.now _ (returns-then-left-bytes-clause-value c)

pub returns-then-left-bytes-clause-some : goal.returns-then-left-bytes-clause-some
returns-then-left-bytes-clause-some c = subst (λ n. 0 < n) (length-expansion c.in_ok-cert.cert) (some_read c.args.bytes.now _ (returns-then-left-bytes-clause-value c))

pub returns-then-left-bytes-clause-few : goal.returns-then-left-bytes-clause-few
returns-then-left-bytes-clause-few c = subst (λ n. n < 2 ^ 32) (length-expansion c.in_ok-cert.cert) (few_read c.args.bytes.now _ (returns-then-left-bytes-clause-value c))

pub returns-in_err-left-clause-fault : goal.returns-in_err-left-clause-fault
unfolding cert_of
returns-in_err-left-clause-fault c = search rules

pub returns-in_err-left-clause-refused : goal.returns-in_err-left-clause-refused
returns-in_err-left-clause-refused c = none_refused c.args.bytes.now c.from_residual.result (returns-in_err-left-clause-fault c)

pub returns-in_err-winner-clause-fault : goal.returns-in_err-winner-clause-fault
unfolding cert_of
returns-in_err-winner-clause-fault c = search rules

pub returns-in_err-winner-clause-refused : goal.returns-in_err-winner-clause-refused
returns-in_err-winner-clause-refused c = none_refused c.args.bytes.now c.from_residual-in_err-winner.result (returns-in_err-winner-clause-fault c)

pub returns-in_err-count-clause-fault : goal.returns-in_err-count-clause-fault
unfolding cert_of
returns-in_err-count-clause-fault c = search rules

pub returns-in_err-count-clause-refused : goal.returns-in_err-count-clause-refused
returns-in_err-count-clause-refused c = none_refused c.args.bytes.now c.from_residual-in_err-count.result (returns-in_err-count-clause-fault c)

pub returns-in_err-cert-clause-fault : goal.returns-in_err-cert-clause-fault
unfolding cert_of
returns-in_err-cert-clause-fault c = search rules

pub returns-in_err-cert-clause-refused : goal.returns-in_err-cert-clause-refused
returns-in_err-cert-clause-refused c = none_refused c.args.bytes.now c.from_residual-in_err-cert.result (returns-in_err-cert-clause-fault c)

pub returns-in_err-left-2-clause-fault : goal.returns-in_err-left-2-clause-fault
unfolding cert_of
returns-in_err-left-2-clause-fault c = search rules

pub returns-in_err-left-2-clause-refused : goal.returns-in_err-left-2-clause-refused
returns-in_err-left-2-clause-refused c = none_refused c.args.bytes.now c.from_residual-in_err-left-2.result (returns-in_err-left-2-clause-fault c)

pub returns-else-left-bytes-clause-refused : goal.returns-else-left-bytes-clause-refused
returns-else-left-bytes-clause-refused c = λ kind w nodes text. no_text c.args.bytes.now c.misfit.result (returns-else-left-bytes-clause-fault c kind) w nodes text
