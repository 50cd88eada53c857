use Rattle.std.proofs.Common.{◌≡◌, ◌-◌, length, sym, ◌∙◌, ap, arith, rules}
use Rattle.std.proofs.lemmas.List.{nil_from_length}
use Rattle.std.proofs.lemmas.Result.{IfOk-weaker}
use Rattle.cha_moves.specs.MateLines.{mate_lines}
use Rattle.cha_moves.proofs.MateLines.{begun}
use Rattle.helpmate_list.proofs.Taking.{join_full}
use Rattle.helpmate_list.proofs.Mating.{none_below_at, led_more, led_all, all_of_none, none_by_move, none_first, none_within, none_at_all}
use Rattle.helpmate_list.proofs.first.+listing.Goals as goal
use Rattle.helpmate_list.proofs.first.+listing.Goals.{expand-then-items-most+in_ok-rest+in_ok-add_led, expand-else-items-most}

pub expand-first_lines-requires : goal.expand-first_lines-requires
expand-first_lines-requires g t c κs within = (
  search rules,
  (
    search rules,
    (
      c.loop-m.invariant.ready,
      (
        c.requires.some,
        none_below_at c.args.position.now c.after-next.result c.args.winner c.args.plies c.loop-m.m-index c.m-item.result c.deref-m-items.result.now c.requires.least c.loop-m.invariant.listed c.loop-m-test.true c.m-item.is c.after-next.ensures c.requires.deep,
      ),
    ),
  ),
)

pub expand-loop-m-preserved : goal.expand-loop-m-preserved
expand-loop-m-preserved g t c =
    let before = c.loop-m.invariant in
    let q = c.args.position.now in
    let ms = c.deref-m-items.result.now in
    let i = c.loop-m.m-index in
    let m = c.m-item.result in
    elim c.if-items-most.branch [
      | expand-then-items-most+in_ok-rest+in_ok-add_led w ↦ record {
        ready = rw w.facts-is w.in_ok-rest.ensures.stays_ready;
        listed = before.listed;
        lines = w.lines-is ∙ led_more q w.after-next.result c.args.winner (c.args.plies - 1) c.args.most i c.loop-m.lines _ w.items-then-items-most.result.now ms m before.lines (w.items-then-items-most.ensures ∙ w.in_ok-rest.ensures.lines) w.after-next.ensures w.in_ok-add_led.ensures c.loop-m-test.true c.m-item.is;
      }
      | expand-else-items-most w ↦ record {
        ready = rw w.facts-is before.ready;
        listed = before.listed;
        lines = w.lines-is ∙ join_full c.args.most i c.loop-m.lines (begun q c.args.winner (c.args.plies - 1)) ms m before.lines (let no = w.if-items-most.false in let e = c.items.ensures in let f = ap length e in omega arith) c.loop-m-test.true c.m-item.is;
      }
    ]

pub expand-returns-clause-lines : goal.expand-returns-clause-lines
expand-returns-clause-lines g t c =
    led_all c.args.position.now c.args.winner c.args.plies c.args.most c.loop-m.m-index c.loop-m.lines c.deref-m-items.result.now c.loop-m.invariant.lines (let end = c.loop-m-test.false in omega arith) c.loop-m.invariant.listed c.requires.deep

pub first_lines-returns-then-plies-eq0-clause-lines : goal.first_lines-returns-then-plies-eq0-clause-lines
first_lines-returns-then-plies-eq0-clause-lines g t c =
    IfOk-weaker c.standing_lines.result _ _ (λ lines is. all_of_none c.args.position.now c.args.winner c.args.plies c.args.most lines is c.if-plies-eq0.true c.requires.some) c.standing_lines.ensures

pub first_lines-returns-in-None-clause-lines : goal.first_lines-returns-in-None-clause-lines
first_lines-returns-in-None-clause-lines g t c = none_by_move c.args.position.now c.args.winner c.args.plies c.args.most c.new.result c.new.ensures c.if-plies-eq1.true c.in-None.ensures.none

pub first_lines-returns-then-is_known-clause-lines : goal.first_lines-returns-then-is_known-clause-lines
first_lines-returns-then-is_known-clause-lines g t c = c.new-then-is_known.ensures ∙ none_first c.args.position.now c.args.winner c.args.plies c.args.most c.if-is_known.ensures.none

pub first_lines-none-requires : goal.first_lines-none-requires
first_lines-none-requires g t c =
    none_within c.args.position.now c.args.winner c.args.plies c.requires.least (none_at_all c.args.most c.in_ok-lines.lines (mate_lines c.args.plies c.args.position.now c.args.winner) c.in_ok-lines.ensures.lines c.requires.some (nil_from_length c.in_ok-lines.lines (sym (ap length c.items.ensures) ∙ (let h : length c.items.result.now ≡ 0 = search rules in h))))
