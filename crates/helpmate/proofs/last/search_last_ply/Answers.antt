use Rattle.std.proofs.Common.{◌-◌, inl, inr, refl, arith}
use Rattle.helpmate.specs.declared.answers.RoundAnswer.TheVariants.{Mate, NoneWithin, Spent}
use Rattle.helpmate.proofs.Counting.{no_positions}
use Rattle.helpmate.proofs.Expanding.{left_alone, one_position}
use Rattle.helpmate.proofs.LastPly.{one_expanded, none_next}
use Rattle.helpmate.proofs.last.search_last_ply.Goals as goal

pub returns-then-is_mate-clause-positions : goal.returns-then-is_mate-clause-positions
returns-then-is_mate-clause-positions c = no_positions c.args.position.now 1 (c.args.left.now - c.args.left.now) (omega arith)

pub returns-then-left-eq0-clause-positions : goal.returns-then-left-eq0-clause-positions
returns-then-left-eq0-clause-positions c = no_positions c.args.position.now 1 (c.args.left.now - c.args.left.now) (omega arith)

pub returns-in-Some-clause-positions : goal.returns-in-Some-clause-positions
returns-in-Some-clause-positions c = let some = c.if-left-eq0.false in one_expanded c.args.position.now 1 c.args.left.now refl (omega (arith, some))

pub returns-in-None-clause-positions : goal.returns-in-None-clause-positions
returns-in-None-clause-positions c = let some = c.if-left-eq0.false in one_expanded c.args.position.now 1 c.args.left.now refl (omega (arith, some))

pub returns-in-None-clause-holds : goal.returns-in-None-clause-holds
returns-in-None-clause-holds c =
    none_next c.args.position.now c.args.winner (λ mated. let is = c.is_mate.ensures.mated.1 mated in let not = c.if-is_mate.false in cc) c.in-None.ensures.none

pub returns-then-is_mate-clause-counted : goal.returns-then-is_mate-clause-counted
returns-then-is_mate-clause-counted c = left_alone c.args.position.now c.args.winner 1 (c.args.left.now - c.args.left.now) _ (omega arith) (omega arith) (inl (c.is_mate.ensures.mated.0 c.if-is_mate.true))

pub returns-then-left-eq0-clause-counted : goal.returns-then-left-eq0-clause-counted
returns-then-left-eq0-clause-counted c = left_alone c.args.position.now c.args.winner 1 (c.args.left.now - c.args.left.now) Spent (omega arith) (omega arith) (inr refl)

pub returns-in-Some-clause-counted : goal.returns-in-Some-clause-counted
returns-in-Some-clause-counted c =
    let some = c.if-left-eq0.false in
    one_position c.args.position.now c.args.winner (c.args.left.now - (c.args.left.now - 1)) (Mate c.line_of.result) (omega (arith, some)) (λ mated. let is = c.is_mate.ensures.mated.1 mated in let not = c.if-is_mate.false in cc) (λ e. cc)

pub returns-in-None-clause-counted : goal.returns-in-None-clause-counted
returns-in-None-clause-counted c =
    let some = c.if-left-eq0.false in
    one_position c.args.position.now c.args.winner (c.args.left.now - (c.args.left.now - 1)) NoneWithin (omega (arith, some)) (λ mated. let is = c.is_mate.ensures.mated.1 mated in let not = c.if-is_mate.false in cc) (λ e. cc)
