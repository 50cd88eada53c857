use Rattle.std.proofs.Common.{◌≡◌, Some, map, string_bytes, sym, ◌∙◌, ap}
use Rattle.cha_words.specs.declared.orders.Order.TheVariants.{CheckCert}
use Rattle.adjudicate.proofs.RunEndings.{law_holds}
use Rattle.adjudicate.proofs.Truth.{games_search, positions_search, both_search, games_true, positions_true, truth_shown}
use Rattle.adjudicate.proofs.top.run.Goals as goal

pub returns-in-None-limits-clause-law : goal.returns-in-None-limits-clause-law
returns-in-None-limits-clause-law g c done check =
    let e : Some c.in-Some.order ≡ Some CheckCert = sym c.in-Some.is ∙ c.parse.ensures ∙ check in
    let same : c.in-Some.order ≡ CheckCert = cc in
    law_holds c.in-Some.order _ _ _ c.carry_out_plain.ensures done same

pub carry_out_plain-requires-clause-bounded : goal.carry_out_plain-requires-clause-bounded
carry_out_plain-requires-clause-bounded g c = λ side workers depth printing is. c.mates_are_bounded.ensures (map string_bytes c.args.words.now) side workers depth printing (sym c.parse.ensures ∙ c.in-Some.is ∙ ap Some is)

pub returns-in-None-limits-clause-games : goal.returns-in-None-limits-clause-games
returns-in-None-limits-clause-games g c is done =
    absurd (games_search (map string_bytes c.args.words.now) c.in-Some.order (sym c.parse.ensures ∙ c.in-Some.is) (sym c.limits.ensures ∙ c.in-None-limits.is) is)

pub returns-in-None-limits-clause-positions : goal.returns-in-None-limits-clause-positions
returns-in-None-limits-clause-positions g c is done =
    absurd (positions_search (map string_bytes c.args.words.now) c.in-Some.order (sym c.parse.ensures ∙ c.in-Some.is) (sym c.limits.ensures ∙ c.in-None-limits.is) is)

pub returns-in-None-limits-clause-shown : goal.returns-in-None-limits-clause-shown
returns-in-None-limits-clause-shown g c is done =
    absurd (both_search (map string_bytes c.args.words.now) c.in-Some.order (sym c.parse.ensures ∙ c.in-Some.is) (sym c.limits.ensures ∙ c.in-None-limits.is) is)

pub returns-in-Some-limits-clause-games : goal.returns-in-Some-limits-clause-games
returns-in-Some-limits-clause-games g c is done =
    games_true (g.S.Source.left c.args.source.now) (g.S.Source.left c.by_threads.new.source) (g.K.Sink.written c.args.sink.now) (g.K.Sink.written c.by_threads.new.sink) _ _ _ _ _ _ (map string_bytes c.args.words.now) c.in-Some.order c.by_threads.result (sym c.parse.ensures ∙ c.in-Some.is) c.by_threads.ensures.run is done

pub returns-in-Some-limits-clause-positions : goal.returns-in-Some-limits-clause-positions
returns-in-Some-limits-clause-positions g c is done =
    positions_true (g.S.Source.left c.args.source.now) (g.S.Source.left c.by_threads.new.source) (g.K.Sink.written c.args.sink.now) (g.K.Sink.written c.by_threads.new.sink) _ _ _ _ _ _ (map string_bytes c.args.words.now) c.in-Some.order c.by_threads.result (sym c.parse.ensures ∙ c.in-Some.is) c.by_threads.ensures.run is done

pub returns-in-Some-limits-clause-shown : goal.returns-in-Some-limits-clause-shown
returns-in-Some-limits-clause-shown g c is done =
    truth_shown (g.S.Source.left c.args.source.now) (g.S.Source.left c.by_threads.new.source) (g.K.Sink.written c.args.sink.now) (g.K.Sink.written c.by_threads.new.sink) _ _ _ _ _ _ (map string_bytes c.args.words.now) c.in-Some.order c.by_threads.result (sym c.parse.ensures ∙ c.in-Some.is) c.by_threads.ensures.run is done
