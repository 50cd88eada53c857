use Rattle.std.proofs.Common.{map, string_bytes, sym, ◌∙◌, arith}
use Rattle.cha_words.proofs.Behind.{started, nothing_stands, next_word, went_on, stands_on, stopped, fault_at, fault_end, whole_words, within, beyond}
use Rattle.cha_words.proofs.reading.read_behind.Goals as goal

pub loop-index-init : goal.loop-index-init
loop-index-init c = record { stands = nothing_stands c.args.command; within = omega arith; same = λ more. started c.args.command more }

pub loop-index-preserved : goal.loop-index-preserved
loop-index-preserved c =
    let cut = next_word c.args.words.now c.loop-index.index c.index-words-index.result c.as_str.result.now c.loop-index-test.true c.index-words-index.is c.as_str.ensures.value in
    record {
      stands = stands_on c.args.command c.loop-index.progress c.in-Some.next c.as_str.result.now c.in-Some.ensures;
      within = omega (arith, c.loop-index-test.true);
      same = went_on c.args.command c.loop-index.progress c.in-Some.next c.args.words.now c.loop-index.index c.as_str.result.now cut c.loop-index.invariant.same c.in-Some.ensures;
    }

pub returns-in-None-clause-fault : goal.returns-in-None-clause-fault
returns-in-None-clause-fault c =
    let cut = next_word c.args.words.now c.loop-index.index c.index-words-index.result c.as_str.result.now c.loop-index-test.true c.index-words-index.is c.as_str.ensures.value in
    fault_at c.args.command c.loop-index.progress (map string_bytes c.args.words.now) c.loop-index.index c.loop-index.invariant.stands (within c.args.words.now c.loop-index.index c.loop-index.invariant.within) c.loop-index.invariant.same
    (stopped c.args.command c.loop-index.progress c.args.words.now c.loop-index.index c.as_str.result.now cut c.loop-index.invariant.same c.in-None.ensures)

pub returns-in-Some-ended-clause-order : goal.returns-in-Some-ended-clause-order
returns-in-Some-ended-clause-order c =
    whole_words c.args.command c.loop-index.progress (map string_bytes c.args.words.now) c.loop-index.index (beyond c.args.words.now c.loop-index.index c.loop-index-test.false) c.loop-index.invariant.same ∙ (sym c.ended.ensures ∙ c.in-Some-ended.is)

pub returns-in-None-ended-clause-fault : goal.returns-in-None-ended-clause-fault
returns-in-None-ended-clause-fault c =
    fault_end c.args.command c.loop-index.progress (map string_bytes c.args.words.now) c.loop-index.index c.loop-index.invariant.stands (within c.args.words.now c.loop-index.index c.loop-index.invariant.within)
    (beyond c.args.words.now c.loop-index.index c.loop-index-test.false) c.loop-index.invariant.same (sym c.ended.ensures ∙ c.in-None-ended.is)
