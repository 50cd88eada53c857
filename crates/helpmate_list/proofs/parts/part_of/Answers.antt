use Rattle.std.proofs.Common.{List, sym, ◌∙◌, subst, ap, take, ◌-◌, ◌+◌, refl}
use Rattle.cha_moves.specs.MateLines.{mate_lines}
use Rattle.helpmate_list.specs.declared.parts.RootLines.{RootLines}
use Rattle.helpmate_list.proofs.Mating.{none_below_at}
use Rattle.helpmate_list.proofs.Dealing.{IsPartBelow, part_more, part_same, behind_here}
use Rattle.helpmate_list.proofs.parts.part_of.Goals as goal
use Rattle.helpmate_list.proofs.parts.part_of.Goals.{then-root_move-count+in_ok-lines+in_ok-push, else-root_move-count}

pub first_lines-requires-clause-least : goal.first_lines-requires-clause-least
first_lines-requires-clause-least c =
    none_below_at c.args.task.now.position c.after-next.result c.args.task.now.winner c.args.task.now.plies c.loop-root_move.root_move c.index-moves-root_move.result c.args.moves.now c.requires.least c.requires.listed c.loop-root_move-test.true c.index-moves-root_move.is c.after-next.ensures c.requires.some

pub loop-root_move-preserved : goal.loop-root_move-preserved
loop-root_move-preserved c =
    let i = c.loop-root_move.root_move in
    let before = c.loop-root_move.invariant in
    let task = c.args.task.now in
    let P : List RootLines → Type 0 = λ l. IsPartBelow task c.args.moves.now c.args.number c.args.count (i + 1) l in
    elim c.if-root_move-count.branch [
      | then-root_move-count+in_ok-lines+in_ok-push w ↦ part_more task c.args.moves.now c.args.number c.args.count i c.loop-root_move.found.items c.if-root_move-count.found.items (record { root_move = i; lines = w.in_ok-lines.lines }) before (ap (λ v. v.items) w.found-is ∙ w.in_ok-push.ensures.items) refl
          (behind_here task c.args.moves.now (record { root_move = i; lines = w.in_ok-lines.lines }) c.index-moves-root_move.result i refl c.loop-root_move-test.true c.index-moves-root_move.is
          (w.in_ok-lines.ensures.lines ∙ ap (λ b. take 201 (mate_lines (task.plies - 1) b task.winner)) w.after-next.ensures))
      | else-root_move-count w ↦ subst P (sym (ap (λ v. v.items) w.found-is)) (part_same task c.args.moves.now c.args.number c.args.count i c.loop-root_move.found.items before w.if-root_move-count.false)
    ]
