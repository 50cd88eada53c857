-- Rows that are equal one by one.
use Rattle.std.proofs.Common.{refl, arith}
use Rattle.std.proofs.lemmas.List.{same_lists}
use Rattle.cha_cert.proofs.equal_sets.same_rows.Goals as goal

pub returns : goal.returns
returns c = (
  λ _. same_lists c.args.one.now c.args.other.now c.if-one-other.false (λ k d inside. c.loop-index.invariant k d (let past = c.loop-index-test.false in omega (arith, inside, past))),
  λ _. refl,
)
