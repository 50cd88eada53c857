use Rattle.std.proofs.Common.{Ok, ap, ◌∙◌, arith}
use Rattle.pgn_games.specs.Keeping.{taken_by}
use Rattle.pgn_games.specs.Reading.{ReaderState}
use Rattle.pgn_games.proofs.KeptTokens.{all_settled}
use Rattle.pgn_games.proofs.Settled.{game_settled, none_left}
use Rattle.pgn_games.proofs.reading.Reader.ready.Goals as goal

pub returns-in-Ok-Whole-clause-settled : goal.returns-in-Ok-Whole-clause-settled
returns-in-Ok-Whole-clause-settled c =
    let same = c.feed_piece.ensures.same in
    let whole = c.feed_piece.ensures.whole (c.in-Ok-Whole.is ∙ ap Ok c.in-Ok-Whole.field-0-is) in
    let there = game_settled c.feed_piece.new.self.lexer.fed _ (taken_by c.give.new.self) c.feed_piece.new.self.game c.feed_piece.new.self.behind.items _ c.in-Ok-Whole.ensures.open.told whole c.give.ensures.taken in
    let given = ap (λ (s : ReaderState). s.given) c.self.view_is in
    omega (arith, there, same.0, given)

pub returns-in-Ok-Open-clause-open : goal.returns-in-Ok-Open-clause-open
returns-in-Ok-Open-clause-open c = λ e f.
    let same = c.feed_piece.ensures.same in
    let up = c.feed_piece.ensures.used_up (c.in-Ok-Open.is ∙ ap Ok c.in-Ok-Open.field-0-is) in
    let given = ap (λ (s : ReaderState). s.given) c.self.view_is in
    let all = all_settled c.feed_piece.new.self.lexer.fed (taken_by c.feed_piece.new.self) _ _ _ _ c.in-Ok-Open.ensures.open.told up.0 up.1 (none_left c.feed_piece.new.self.lexer.fed _ _ up.2) in
    omega (arith, all, same.0, given)
