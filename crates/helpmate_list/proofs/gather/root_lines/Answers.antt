use Rattle.std.proofs.Common.{ℕ, sym, subst, arith}
use Rattle.std.proofs.lemmas.Result.{IfOk-weaker}
use Rattle.helpmate_list.specs.Parts.{AreParts}
use Rattle.helpmate_list.proofs.Mating.{all_of_none}
use Rattle.helpmate_list.proofs.Dealing.{parts_size, parts_alike}
use Rattle.helpmate_list.proofs.gather.root_lines.Goals as goal

pub returns-then-task-eq0 : goal.returns-then-task-eq0
returns-then-task-eq0 g c =
    IfOk-weaker c.standing_lines.result _ _ (λ lines is. all_of_none c.args.task.now.position c.args.task.now.winner c.args.task.now.plies 201 lines is c.if-task-eq0.true (omega arith)) c.standing_lines.ensures

pub gathered-requires-clause-a_worker : goal.gathered-requires-clause-a_worker
gathered-requires-clause-a_worker g c =
    let size = parts_size c.args.task.now c.args.moves.now c.args.count c.deref.result.now (parts_alike c.args.task.now c.args.moves.now c.args.count c.deref.result.now c.in_ok-parts.parts.items c.deref.ensures.value c.in_ok-parts.ensures) in
    let some = c.requires.a_worker in
    omega arith

pub gathered-requires-clause-parts : goal.gathered-requires-clause-parts
gathered-requires-clause-parts g c =
    let alike = parts_alike c.args.task.now c.args.moves.now c.args.count c.deref.result.now c.in_ok-parts.parts.items c.deref.ensures.value c.in_ok-parts.ensures in
    let P : ℕ → Type 0 = λ n. AreParts c.args.task.now c.args.moves.now n c.deref.result.now in
    subst P (sym (parts_size c.args.task.now c.args.moves.now c.args.count c.deref.result.now alike)) alike
