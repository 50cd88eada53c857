use Rattle.std.proofs.Common.{◌≡◌, [], length, sym, ◌∙◌, ap, arith, rules}
use Rattle.std.proofs.lemmas.List.{nil_from_length}
use Rattle.cha_moves.specs.MateLines.{mate_lines}
use Rattle.helpmate_list.proofs.Mating.{none_below_zero, none_at_all}
use Rattle.helpmate_list.proofs.Deepening.{none_on_turn, mover_next, none_yet, longer_first, longer_next, longer_found, longer_none}
use Rattle.helpmate_list.proofs.least.least_mates.Goals as goal
use Rattle.helpmate_list.proofs.least.least_mates.Goals.{then-not-is+in_ok-lines+else-not-is_empty, else-not-is}

pub loop-plies-init : goal.loop-plies-init
loop-plies-init g c = record {
  none = none_below_zero c.args.position.now c.args.winner;
  longer = longer_first c.args.position.now c.args.winner c.args.depth;
  mover = c.side-mover.ensures;
}

pub returns-then-not-is_empty : goal.returns-then-not-is_empty
returns-then-not-is_empty g c =
    longer_found c.args.position.now c.args.winner c.args.depth c.loop-plies.plies c.found.result c.loop-plies.invariant.longer c.loop-plies-test.true (λ longer. c.found.ensures (mate_lines c.loop-plies.plies c.args.position.now c.args.winner) longer c.in_ok-lines.ensures)

pub loop-plies-preserved : goal.loop-plies-preserved
loop-plies-preserved g c =
    let q = c.args.position.now in
    let n = c.loop-plies.plies in
    let before = c.loop-plies.invariant in
    let none : mate_lines n q c.args.winner ≡ [] =
    elim c.if-not-is.branch [
      | then-not-is+in_ok-lines+else-not-is_empty w ↦ none_at_all 201 w.in_ok-lines.lines (mate_lines n q c.args.winner) w.in_ok-lines.ensures (omega arith) (nil_from_length w.in_ok-lines.lines (sym (ap length w.items.ensures) ∙ (let h : length w.items.result.now ≡ 0 = search rules in h)))
      | else-not-is w ↦ none_on_turn q c.args.winner c.loop-plies.mover n before.mover (search rules)
    ]
    in record {
      none = none_yet q c.args.winner n before.none none;
      longer = longer_next q c.args.winner c.args.depth n before.longer c.loop-plies-test.true none;
      mover = mover_next q.side c.loop-plies.mover c.other-mover.result n before.mover c.other-mover.ensures;
    }

pub returns : goal.returns
returns g c = longer_none c.args.position.now c.args.winner c.args.depth c.loop-plies.plies c.loop-plies.invariant.longer c.loop-plies-test.false
