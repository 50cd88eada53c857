use Rattle.std.proofs.Common.{◌≤◌, refl, Err, Ok, ap, sym, subst, ◌∙◌, arith}
use Rattle.std.proofs.KnownBytes.{Consumes-nil}
use Rattle.std.proofs.lemmas.List.{length-map}
use Rattle.pgn_games.specs.Games.{placed_games}
use Rattle.cha_outcome.specs.Items.{kept_item}
use Rattle.side_by_side.specs.Progresses.{IsOf}
use Rattle.side_by_side.specs.declared.cuts.Purpose.TheVariants.{Corrected}
use Rattle.side_by_side.specs.declared.cuts.ItemKind.TheVariants.{Games as GamesFor}
use Rattle.item_batches.proofs.Items.{not_more}
use Rattle.adjudicate.proofs.RunEndings.{rose_in}
use Rattle.adjudicate.proofs.ReportLoop.{all_taken, given_whole, next_whole, same_before, same_settled, same_took, same_count}
use Rattle.adjudicate.proofs.CorrectingLoop.{still_whole, at_first, retook, gave, stands, room_at, game_of_item, answers_game, placed_by, not_read, no_memory, cut_game, all_judged}
use Rattle.adjudicate.proofs.correcting.write_games.Goals as goal

pub loop-found-init : goal.loop-found-init
loop-found-init g c = rw c.requires.first (record {
  at = at_first _ _ _ _ c.new-totals.ensures;
  kind = refl;
  asked = refl;
  question = refl;
  took = Consumes-nil _;
  end = λ e. cc;
  due = λ _. omega arith;
  goes_on = (refl, omega arith);
  source_later = omega arith;
  sink_later = omega arith;
  quiet = refl;
  ready = c.requires.ready;
  worked = g.met.J.Judge.none_worked c.args.judge.now;
})

pub returns-in-Err-clause-run : goal.returns-in-Err-clause-run
returns-in-Err-clause-run g c =
    let i = c.loop-found.invariant in
    let e = c.next.ensures in
    let at = retook _ _ c.loop-found.games.ended _ _ _ _ e.bytes.0 _ _ _ _ i.at e.bytes.2 e.still i.due e.written in
    let took = same_took (GamesFor Corrected) _ _ _ i.kind e.no_more in
    let all = all_taken _ _ _ _ _ i.took e.bytes in
    rw i.quiet (not_read _ _ c.requires.asked _ _ _ _ _ _ _ at took _ _ _ _ all (omega (arith, i.source_later, e.later)) _ c.in-Err.end _ _ c.from.ensures i.sink_later
    (λ fault. rose_in _ _ _ i.source_later (e.read_fault (c.in-Err.is ∙ ap Err fault)))
    (λ fault. same_settled (GamesFor Corrected) _ _ _ i.kind (e.settled (c.in-Err.is ∙ ap Err fault)))
    ((λ long. e.too_long.0 (c.in-Err.is ∙ ap Err long)), (λ more. let f = sym c.in-Err.is ∙ e.too_long.1 more in cc))
    e.few (still_whole c.loop-found.games.ended _ _ _ _ _ _ e.bytes.2 i.due e.still_ended (e.end i.end)))

pub returns-in_default-clause-run : goal.returns-in_default-clause-run
returns-in_default-clause-run g c =
    let i = c.loop-found.invariant in
    let e = c.next.ensures in
    let at = retook _ _ c.loop-found.games.ended _ _ _ _ e.bytes.0 _ _ _ _ i.at e.bytes.2 e.still i.due e.written in
    let took = same_took (GamesFor Corrected) _ _ _ i.kind e.no_more in
    let all = all_taken _ _ _ _ _ i.took e.bytes in
    let few = not_more _ 268435456 (λ long. let f = sym c.in-Ok.is ∙ e.too_long.1 long in cc) in
    let none = e.none (c.in-Ok.is ∙ ap Ok c.in_default.is) in
    let count = subst (λ n. n ≤ c.loop-found.games.given) (length-map (placed_games c.next.new.self.taken) kept_item) (same_count (GamesFor Corrected) _ _ _ i.kind none.1) in
    all_judged _ _ c.requires.asked _ _ _ _ _ _ _ at took _ _ _ _ all (omega (arith, i.source_later, e.later)) _ _ _ _ _ _ i.sink_later few count (e.end i.end none.0) (rw i.quiet at c.end_text.ensures) (λ rose. rose_in _ _ _ i.sink_later rose)

pub finish-requires-clause-about : goal.finish-requires-clause-about
finish-requires-clause-about g c =
    let i = c.loop-found.invariant in
    let work = rw c.in-Some.is at c.in-Ok.ensures.work in
    (work.0, subst (λ q. IsOf q work.0 c.in-Some.progress) (i.asked ∙ sym i.question) work.2)

pub returns-in_default-finish-clause-run : goal.returns-in_default-finish-clause-run
returns-in_default-finish-clause-run g c =
    let i = c.loop-found.invariant in
    let e = c.next.ensures in
    let at = retook _ _ c.loop-found.games.ended _ _ _ _ e.bytes.0 _ _ _ _ i.at e.bytes.2 e.still i.due e.written in
    let took = same_took (GamesFor Corrected) _ _ _ i.kind e.no_more in
    let all = all_taken _ _ _ _ _ i.took e.bytes in
    let few = not_more _ 268435456 (λ long. let f = sym c.in-Ok.is ∙ e.too_long.1 long in cc) in
    rw i.quiet (no_memory _ _ c.requires.asked _ _ _ _ _ _ _ at took _ _ _ _ all (omega (arith, i.source_later, e.later)) _ _ i.sink_later few (given_whole _ _ _ _ (λ more_comes. same_before (GamesFor Corrected) _ _ _ i.kind ((rw (c.in-Ok.is ∙ ap Ok c.in-Some.is) at e.before_end) more_comes)) (e.end i.end)))

pub write_game-requires-clause-room : goal.write_game-requires-clause-room
write_game-requires-clause-room g c =
    let i = c.loop-found.invariant in
    let more = rw c.in-Some.is at c.in-Ok.ensures.given in
    room_at _ _ _ _ _ _ _ _ i.at more.1

pub write_game-requires-clause-place : goal.write_game-requires-clause-place
write_game-requires-clause-place g c =
    let i = c.loop-found.invariant in
    let e = c.next.ensures in
    let at = retook _ _ c.loop-found.games.ended _ _ _ _ e.bytes.0 _ _ _ _ i.at e.bytes.2 e.still i.due e.written in
    let work = rw c.in-Some.is at c.in-Ok.ensures.work in
    let game = game_of_item _ _ _ _ i.kind work.1 in
    let answers = answers_game _ _ _ game.0 _ i.question game.2 (c.in-Ok-finish.ensures.answers work.0 (subst (λ q. IsOf q work.0 c.in-Some.progress) (i.asked ∙ sym i.question) work.2)) in
    let place = placed_by _ game.0 _ answers in
    (game.0.span, place, stands _ _ _ _ _ _ _ _ game.0 at game.1)

pub returns-in_default-write_game-clause-run : goal.returns-in_default-write_game-clause-run
returns-in_default-write_game-clause-run g c =
    let i = c.loop-found.invariant in
    let e = c.next.ensures in
    let at = retook _ _ c.loop-found.games.ended _ _ _ _ e.bytes.0 _ _ _ _ i.at e.bytes.2 e.still i.due e.written in
    let took = same_took (GamesFor Corrected) _ _ _ i.kind e.no_more in
    let all = all_taken _ _ _ _ _ i.took e.bytes in
    let few = not_more _ 268435456 (λ long. let f = sym c.in-Ok.is ∙ e.too_long.1 long in cc) in
    let same = c.in_default-write_game.ensures.untouched in
    rw same (rw i.quiet (no_memory _ _ c.requires.asked _ _ _ _ _ _ _ at took _ _ _ _ all (omega (arith, i.source_later, e.later)) _ _ i.sink_later few (given_whole _ _ _ _ (λ more_comes. same_before (GamesFor Corrected) _ _ _ i.kind ((rw (c.in-Ok.is ∙ ap Ok c.in-Some.is) at e.before_end) more_comes)) (e.end i.end))))

pub returns-in-Failed-clause-run : goal.returns-in-Failed-clause-run
returns-in-Failed-clause-run g c =
    let i = c.loop-found.invariant in
    let e = c.next.ensures in
    let at = retook _ _ c.loop-found.games.ended _ _ _ _ e.bytes.0 _ _ _ _ i.at e.bytes.2 e.still i.due e.written in
    let took = same_took (GamesFor Corrected) _ _ _ i.kind e.no_more in
    let all = all_taken _ _ _ _ _ i.took e.bytes in
    let few = not_more _ 268435456 (λ long. let f = sym c.in-Ok.is ∙ e.too_long.1 long in cc) in
    let work = rw c.in-Some.is at c.in-Ok.ensures.work in
    let game = game_of_item _ _ _ _ i.kind work.1 in
    let answers = answers_game _ _ _ game.0 _ i.question game.2 (c.in-Ok-finish.ensures.answers work.0 (subst (λ q. IsOf q work.0 c.in-Some.progress) (i.asked ∙ sym i.question) work.2)) in
    let place = placed_by _ game.0 _ answers in
    let w = c.in-Ok-write_game.ensures in
    let cause = rw c.in-Failed.is at w.cause in
    rw i.quiet (cut_game _ _ c.requires.asked _ _ _ _ _ _ _ at took _ _ _ _ all (omega (arith, i.source_later, e.later)) _ _ _ c.in-Ok-finish.outcome game.0 _ c.in-Failed.field-0
    (omega (arith, cause.0, i.sink_later)) (rose_in _ _ _ i.sink_later cause.1) few game.1 answers refl (rw c.in-Failed.is at w.bytes game.0.span place)
    (next_whole _ _ _ _ (λ more_comes. same_before (GamesFor Corrected) _ _ _ i.kind ((rw (c.in-Ok.is ∙ ap Ok c.in-Some.is) at e.before_end) more_comes)) (e.end i.end)))

pub loop-found-smaller : goal.loop-found-smaller
loop-found-smaller g c =
    let more = rw c.in-Some.is at c.in-Ok.ensures.given in
    omega (arith, more.0, more.1, c.write_game.ensures.same.1)

pub loop-found-preserved : goal.loop-found-preserved
loop-found-preserved g c =
    let i = c.loop-found.invariant in
    let e = c.next.ensures in
    let at = retook _ _ c.loop-found.games.ended _ _ _ _ e.bytes.0 _ _ _ _ i.at e.bytes.2 e.still i.due e.written in
    let all = all_taken _ _ _ _ _ i.took e.bytes in
    let few = not_more _ 268435456 (λ long. let f = sym c.in-Ok.is ∙ e.too_long.1 long in cc) in
    let work = rw c.in-Some.is at c.in-Ok.ensures.work in
    let game = game_of_item _ _ _ _ i.kind work.1 in
    let answers = answers_game _ _ _ game.0 _ i.question game.2 (c.in-Ok-finish.ensures.answers work.0 (subst (λ q. IsOf q work.0 c.in-Some.progress) (i.asked ∙ sym i.question) work.2)) in
    let place = placed_by _ game.0 _ answers in
    let more = rw c.in-Some.is at c.in-Ok.ensures.given in
    let w = c.in-Ok-write_game.ensures in
    let same = c.write_game.ensures.same in
    let kind = c.write_game.ensures.kind in
    record {
      at = rw (same.0, c.write_game.ensures.counted) (gave _ _ _ _ _ _ _ _ _ _ _ c.in-Ok-finish.outcome game.0 _ at game.1 answers refl (rw c.in-All.is at w.bytes game.0.span place) (same.1 ∙ more.0) (w.written game.0.span place));
      kind = kind.0 ∙ e.kind.0 ∙ i.kind;
      asked = kind.1 ∙ e.kind.1 ∙ i.asked;
      question = c.finish.ensures.same_question ∙ i.question;
      took = rw same.0 all;
      end = λ t. e.end i.end (sym same.2 ∙ t);
      due = λ f. (let settled = same_before (GamesFor Corrected) _ _ _ i.kind ((rw (c.in-Ok.is ∙ ap Ok c.in-Some.is) at e.before_end) (sym same.2 ∙ f)) in rw same.0 (omega (arith, settled, more.0, same.1)));
      goes_on = (same.3 ∙ rw c.in-Ok.is at e.failed, rw same.0 few);
      source_later = omega (arith, e.later, i.source_later);
      sink_later = omega (arith, rw c.in-All.is at w.cause, i.sink_later);
      quiet = i.quiet;
      ready = c.finish.ensures.stays_ready;
      worked = g.met.J.Judge.both_worked c.args.judge.now c.loop-found.judge c.finish.new.judge c.loop-found.invariant.worked c.finish.ensures.worked;
    }
