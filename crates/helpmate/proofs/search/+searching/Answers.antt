use Rattle.std.proofs.Common.{◌+◌, ◌-◌, List, take, Ok, inl, inr, sym, ◌∙◌, ap, refl, arith}
use Rattle.cha_moves.specs.Step.{Move}
use Rattle.cha_moves.specs.Moves.{after}
use Rattle.helpmate.specs.declared.answers.RoundAnswer.TheVariants.{Mate, Spent}
use Rattle.helpmate.proofs.Counting.{no_positions, from_no_move, one_more_counted, all_counted}
use Rattle.helpmate.proofs.Saying.{none_answered, no_answer}
use Rattle.helpmate.proofs.Trying.{no_mate_yet, no_mate_more, no_mate_at_all, none_tried, one_more_tried, the_answer, ends_at_once, ends_refused_at_once, ends_refused, ends_below, all_tried, decides, of_root, expanded, undecided, missed, refused}
use Rattle.helpmate.proofs.search.+searching.Goals as goal

pub expand-returns-then-is_mate-clause-positions : goal.expand-returns-then-is_mate-clause-positions
expand-returns-then-is_mate-clause-positions g t c = no_positions c.args.position.now c.args.depth (c.args.left.now - c.args.left.now) (omega arith)

pub expand-returns-then-is_mate-clause-calls : goal.expand-returns-then-is_mate-clause-calls
expand-returns-then-is_mate-clause-calls g t c =
    ends_at_once g.F.Facts.made c.args.facts.now c.args.position.now c.args.winner c.args.depth (c.args.left.now - c.args.left.now) _ (g.met.F.Facts.none_made c.args.facts.now) (let some = c.requires.some in omega (arith, some)) (omega arith) (λ e. cc) (λ a same. inl (c.is_mate.ensures.mated.0 c.if-is_mate.true))

pub expand-returns-then-left-eq0-clause-positions : goal.expand-returns-then-left-eq0-clause-positions
expand-returns-then-left-eq0-clause-positions g t c = no_positions c.args.position.now c.args.depth (c.args.left.now - c.args.left.now) (omega arith)

pub expand-returns-then-left-eq0-clause-calls : goal.expand-returns-then-left-eq0-clause-calls
expand-returns-then-left-eq0-clause-calls g t c =
    ends_at_once g.F.Facts.made c.args.facts.now c.args.position.now c.args.winner c.args.depth (c.args.left.now - c.args.left.now) (Ok Spent) (g.met.F.Facts.none_made c.args.facts.now) (let some = c.requires.some in omega (arith, some)) (omega arith) (λ e. cc) (λ a same. inr (the_answer a Spent (Ok Spent) same refl))

pub expand-returns-in_err-moves-clause-calls : goal.expand-returns-in_err-moves-clause-calls
expand-returns-in_err-moves-clause-calls g t c =
    ends_refused_at_once g.F.Facts.made c.args.facts.now c.args.position.now c.args.winner c.args.depth _ c.from_residual.result (g.met.F.Facts.none_made c.args.facts.now) (λ a. no_answer c.from_residual.result a c.from_residual.ensures.0)

pub expand-loop-m-init : goal.expand-loop-m-init
expand-loop-m-init g t c = record {
  ready = c.requires.ready;
  listed = c.deref-m-items.ensures.value ∙ c.in_ok-moves.ensures;
  fewer = (let some = c.if-left-eq0.false in omega arith);
  lines = from_no_move c.args.position.now (c.args.depth - 1) (c.args.left.now - 1 - (c.args.left.now - 1)) (omega arith);
  none = no_mate_yet c.args.position.now c.args.winner (c.args.depth - 1);
  tried = none_tried g.F.Facts.made c.args.facts.now c.args.position.now c.args.winner (c.args.depth - 1) (c.args.left.now - 1 - (c.args.left.now - 1)) (g.met.F.Facts.none_made c.args.facts.now) (omega arith);
}

pub expand-returns-in_err-rest-clause-calls : goal.expand-returns-in_err-rest-clause-calls
expand-returns-in_err-rest-clause-calls g t c =
    ends_refused g.F.Facts.made c.args.facts.now c.loop-m.facts c.search.new.facts c.args.position.now c.after-next.result c.args.winner c.args.depth (c.args.depth - 1) _ (c.args.left.now - 1 - c.loop-m.left) (c.loop-m.left - c.search.new.left) (take c.loop-m.m-index c.deref-m-items.result.now) c.search.result
    c.from_residual-in_err-rest.result g.met.F.Facts.both_made c.loop-m.invariant.tried c.search.ensures.calls (λ a. no_answer c.from_residual-in_err-rest.result a c.from_residual-in_err-rest.ensures.0)

pub expand-returns-in-Mate-clause-positions : goal.expand-returns-in-Mate-clause-positions
expand-returns-in-Mate-clause-positions g t c =
    let ms = c.deref-m-items.result.now in
    let i = c.loop-m.m-index in
    let q = c.args.position.now in
    let less = c.search.ensures.less in
    let fewer = c.loop-m.invariant.fewer in
    all_counted q c.args.depth c.args.left.now c.search.new.left (take (i + 1) ms)
    (one_more_counted q c.after-next.result (c.args.depth - 1) c.args.left.now c.loop-m.left c.search.new.left ms i c.m-item.result c.loop-m.invariant.lines c.in_ok-rest.ensures.positions c.after-next.ensures c.loop-m-test.true c.m-item.is c.loop-m.invariant.listed less fewer)
    (let some = c.requires.some in omega (arith, some)) (omega arith)

pub expand-returns-in-Mate-clause-calls : goal.expand-returns-in-Mate-clause-calls
expand-returns-in-Mate-clause-calls g t c =
    let less = c.search.ensures.less in
    let fewer = c.loop-m.invariant.fewer in
    ends_below g.F.Facts.made c.args.facts.now c.loop-m.facts c.search.new.facts c.args.position.now c.after-next.result c.args.winner c.args.depth (c.args.depth - 1) (c.args.left.now - c.search.new.left) (c.args.left.now - 1 - c.loop-m.left) (c.loop-m.left - c.search.new.left)
    c.deref-m-items.result.now c.loop-m.m-index c.m-item.result c.search.result (Ok (Mate c.led.result)) (Mate c.in-Mate.rest) (Mate c.led.result) g.met.F.Facts.both_made c.loop-m.invariant.tried c.search.ensures.calls (c.in_ok-rest.was ∙ ap Ok c.in-Mate.is) refl (λ e. cc) (λ e. cc) (ap (λ (l : List Move). Mate l) c.led.ensures.value)
    c.after-next.ensures c.loop-m-test.true c.m-item.is c.loop-m.invariant.listed (let some = c.requires.some in omega (arith, some)) (let some = c.requires.some in omega (arith, some)) (λ mated. let is = c.is_mate.ensures.mated.1 mated in let not = c.if-is_mate.false in cc) (omega arith)

pub expand-returns-in-Spent-clause-positions : goal.expand-returns-in-Spent-clause-positions
expand-returns-in-Spent-clause-positions g t c =
    let ms = c.deref-m-items.result.now in
    let i = c.loop-m.m-index in
    let q = c.args.position.now in
    let less = c.search.ensures.less in
    let fewer = c.loop-m.invariant.fewer in
    all_counted q c.args.depth c.args.left.now c.search.new.left (take (i + 1) ms)
    (one_more_counted q c.after-next.result (c.args.depth - 1) c.args.left.now c.loop-m.left c.search.new.left ms i c.m-item.result c.loop-m.invariant.lines c.in_ok-rest.ensures.positions c.after-next.ensures c.loop-m-test.true c.m-item.is c.loop-m.invariant.listed less fewer)
    (let some = c.requires.some in omega (arith, some)) (omega arith)

pub expand-returns-in-Spent-clause-calls : goal.expand-returns-in-Spent-clause-calls
expand-returns-in-Spent-clause-calls g t c =
    let less = c.search.ensures.less in
    let fewer = c.loop-m.invariant.fewer in
    ends_below g.F.Facts.made c.args.facts.now c.loop-m.facts c.search.new.facts c.args.position.now c.after-next.result c.args.winner c.args.depth (c.args.depth - 1) (c.args.left.now - c.search.new.left) (c.args.left.now - 1 - c.loop-m.left) (c.loop-m.left - c.search.new.left)
    c.deref-m-items.result.now c.loop-m.m-index c.m-item.result c.search.result (Ok Spent) Spent Spent g.met.F.Facts.both_made c.loop-m.invariant.tried c.search.ensures.calls (c.in_ok-rest.was ∙ ap Ok c.in-Spent.is) refl (λ e. cc) (λ e. cc) refl
    c.after-next.ensures c.loop-m-test.true c.m-item.is c.loop-m.invariant.listed (let some = c.requires.some in omega (arith, some)) (let some = c.requires.some in omega (arith, some)) (λ mated. let is = c.is_mate.ensures.mated.1 mated in let not = c.if-is_mate.false in cc) (omega arith)

pub expand-loop-m-preserved : goal.expand-loop-m-preserved
expand-loop-m-preserved g t c =
    let ms = c.deref-m-items.result.now in
    let i = c.loop-m.m-index in
    let m = c.m-item.result in
    let q = c.args.position.now in
    let d = c.args.depth - 1 in
    let before = c.loop-m.invariant in
    let less = c.search.ensures.less in
    let fewer = c.loop-m.invariant.fewer in
    record {
      ready = c.search.ensures.stays_ready;
      listed = before.listed;
      fewer = omega arith;
      lines = one_more_counted q c.after-next.result d c.args.left.now c.loop-m.left c.search.new.left ms i m before.lines c.in_ok-rest.ensures.positions c.after-next.ensures c.loop-m-test.true c.m-item.is before.listed less fewer;
      none = no_mate_more q c.args.winner d ms i m before.none (none_answered (after q m) c.after-next.result c.args.winner d (32 + d) c.in_ok-rest.field-0 c.in_ok-rest.ensures.holds c.in-NoneWithin.is c.after-next.ensures) c.loop-m-test.true c.m-item.is;
      tried = one_more_tried g.F.Facts.made c.args.facts.now c.loop-m.facts c.search.new.facts q c.after-next.result c.args.winner d (c.loop-m.left - c.search.new.left) (c.args.left.now - 1 - c.loop-m.left) (c.args.left.now - 1 - c.search.new.left) ms i m c.search.result g.met.F.Facts.both_made before.tried c.search.ensures.calls (c.in_ok-rest.was ∙ ap Ok c.in-NoneWithin.is) c.after-next.ensures c.loop-m-test.true c.m-item.is (omega arith);
    }

pub expand-none-requires : goal.expand-none-requires
expand-none-requires g t c =
    no_mate_at_all c.args.position.now c.args.winner c.args.depth c.deref-m-items.result.now c.loop-m.m-index c.loop-m.invariant.none c.loop-m-test.false c.loop-m.invariant.listed (λ mated. let is = c.is_mate.ensures.mated.1 mated in let not = c.if-is_mate.false in cc)

pub expand-returns-clause-positions : goal.expand-returns-clause-positions
expand-returns-clause-positions g t c =
    all_counted c.args.position.now c.args.depth c.args.left.now c.loop-m.left (take c.loop-m.m-index c.deref-m-items.result.now) c.loop-m.invariant.lines (let some = c.requires.some in omega (arith, some)) c.loop-m.invariant.fewer

pub expand-returns-clause-calls : goal.expand-returns-clause-calls
expand-returns-clause-calls g t c =
    all_tried g.F.Facts.made c.args.facts.now c.loop-m.facts c.store-stored.new.self c.args.position.now c.args.winner c.args.depth (c.args.left.now - c.loop-m.left) (c.args.left.now - 1 - c.loop-m.left) c.deref-m-items.result.now c.loop-m.m-index c.none.result c.store-stored.result g.met.F.Facts.both_made c.loop-m.invariant.tried
    c.loop-m-test.false c.loop-m.invariant.listed c.store-stored.ensures.entered c.none.ensures c.requires.some (λ mated. let is = c.is_mate.ensures.mated.1 mated in let not = c.if-is_mate.false in cc) (let fewer = c.loop-m.invariant.fewer in omega arith)

pub search_deep-returns-in-Some-clause-positions : goal.search_deep-returns-in-Some-clause-positions
search_deep-returns-in-Some-clause-positions g t c = no_positions c.args.position.now c.args.depth (c.args.left.now - c.args.left.now) (omega arith)

pub search_deep-returns-in-Some-clause-calls : goal.search_deep-returns-in-Some-clause-calls
search_deep-returns-in-Some-clause-calls g t c =
    let q = c.args.position.now in
    let w = c.args.winner in
    let positions = c.args.left.now - c.args.left.now in
    of_root g.F.Facts.made c.args.facts.now c.ask.new.facts q w c.args.depth positions (Ok c.in-Some.answer)
    (decides g.F.Facts.made c.args.facts.now c.ask.new.facts q w c.args.depth positions c.ask.result c.in-Found.row c.in-Some.answer (Ok c.in-Some.answer) c.ask.ensures.entered
    c.in-Found.is (sym c.decided.ensures.value ∙ c.in-Some.is) (omega arith) refl) c.requires.some

pub search_deep-returns-in-Found-clause-calls : goal.search_deep-returns-in-Found-clause-calls
search_deep-returns-in-Found-clause-calls g t c =
    let q = c.args.position.now in
    let w = c.args.winner in
    let positions = c.args.left.now - c.expand.new.left in
    expanded g.F.Facts.made c.args.facts.now c.ask.new.facts c.expand.new.facts q w c.args.depth positions c.ask.result c.expand.result g.met.F.Facts.both_made c.ask.ensures.entered
    c.expand.ensures.calls c.requires.some (undecided q w c.args.depth positions c.ask.result c.in-Found.row c.in-Found.is (sym c.decided.ensures.value ∙ c.in-None.is))

pub search_deep-returns-in-Miss-clause-calls : goal.search_deep-returns-in-Miss-clause-calls
search_deep-returns-in-Miss-clause-calls g t c =
    let q = c.args.position.now in
    let w = c.args.winner in
    let positions = c.args.left.now - c.expand-in-Miss.new.left in
    expanded g.F.Facts.made c.args.facts.now c.ask.new.facts c.expand-in-Miss.new.facts q w c.args.depth positions c.ask.result c.expand-in-Miss.result g.met.F.Facts.both_made c.ask.ensures.entered
    c.expand-in-Miss.ensures.calls c.requires.some (missed q w c.args.depth positions c.ask.result c.in-Miss.is)

pub search_deep-returns-clause-calls : goal.search_deep-returns-clause-calls
search_deep-returns-clause-calls g t c =
    let q = c.args.position.now in
    let w = c.args.winner in
    let positions = c.args.left.now - c.expand-in-Refused.new.left in
    expanded g.F.Facts.made c.args.facts.now c.ask.new.facts c.expand-in-Refused.new.facts q w c.args.depth positions c.ask.result c.expand-in-Refused.result g.met.F.Facts.both_made c.ask.ensures.entered
    c.expand-in-Refused.ensures.calls c.requires.some (refused q w c.args.depth positions c.ask.result c.in-Refused.is)
