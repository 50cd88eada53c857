use Rattle.std.proofs.Common.{Ok, ap, ◌∙◌}
use Rattle.pgn_lex.specs.Lexing.{LexerState}
use Rattle.pgn_games.proofs.KeptTokens.{gave_is_last, emptied_scanned, game_found, none_found, all_fed, whole_first, left_first, no_list, some_list}
use Rattle.pgn_games.proofs.cutter.Cutter.give_last.Goals as goal

pub returns-then-is_empty-clause-none : goal.returns-then-is_empty-clause-none
returns-then-is_empty-clause-none c = λ _.
    let same = c.finish.ensures.same in
    let last = c.in_ok-finish.ensures.last in
    let left = c.finish.ensures.open (c.in_ok-finish.was ∙ ap Ok c.in-Open.is) in
    none_found c.finish.new.self.lexer.fed _ c.finish.new.self.game c.finish.new.self.behind.items _ _ last.told (no_list _ _ c.is_empty.ensures c.if-is_empty.true) left.1
    (all_fed _ _ _ _ _ _ (ap (λ (l : LexerState). l.fed) same.1) (ap (λ p. p.items) same.2) same.3 last.none_left) same.0

pub returns-in-Whole-clause-last : goal.returns-in-Whole-clause-last
returns-in-Whole-clause-last c =
    let same = c.take_game.ensures.same in
    let now = c.take_game.ensures.emptied in
    let whole = c.finish.ensures.whole (c.in_ok-finish.was ∙ ap Ok c.in-Whole.is) in
    (rw (same.0, same.1, same.2, same.3) (gave_is_last _ c.finish.new.self.game _ _ _ _ _ _ c.in_ok-finish.ensures.last (whole_first _ _ whole) now.0 now.2), emptied_scanned _ _ now.0 now.1)

pub returns-in-Whole-clause-game : goal.returns-in-Whole-clause-game
returns-in-Whole-clause-game c =
    let same = c.finish.ensures.same in
    let last = c.in_ok-finish.ensures.last in
    let whole = c.finish.ensures.whole (c.in_ok-finish.was ∙ ap Ok c.in-Whole.is) in
    game_found c.finish.new.self.lexer.fed _ c.finish.new.self.game c.finish.new.self.behind.items _ _ _ last.told (whole_first _ _ whole)
    (all_fed _ _ _ _ _ _ (ap (λ (l : LexerState). l.fed) same.1) (ap (λ p. p.items) same.2) same.3 last.none_left) same.0 c.take_game.ensures.game

pub returns-else-is_empty-clause-last : goal.returns-else-is_empty-clause-last
returns-else-is_empty-clause-last c =
    let same = c.take_game-in-Open.ensures.same in
    let now = c.take_game-in-Open.ensures.emptied in
    let left = c.finish.ensures.open (c.in_ok-finish.was ∙ ap Ok c.in-Open.is) in
    let some = some_list _ _ c.is_empty.ensures c.if-is_empty.false in
    (rw (same.0, same.1, same.2, same.3) (gave_is_last _ c.finish.new.self.game _ _ _ _ _ _ c.in_ok-finish.ensures.last (left_first _ _ _ left.0 left.1 some, some) now.0 now.2), emptied_scanned _ _ now.0 now.1)

pub returns-else-is_empty-clause-game : goal.returns-else-is_empty-clause-game
returns-else-is_empty-clause-game c =
    let same = c.finish.ensures.same in
    let last = c.in_ok-finish.ensures.last in
    let left = c.finish.ensures.open (c.in_ok-finish.was ∙ ap Ok c.in-Open.is) in
    let some = some_list _ _ c.is_empty.ensures c.if-is_empty.false in
    game_found c.finish.new.self.lexer.fed _ c.finish.new.self.game c.finish.new.self.behind.items _ _ _ last.told (left_first _ _ _ left.0 left.1 some, some)
    (all_fed _ _ _ _ _ _ (ap (λ (l : LexerState). l.fed) same.1) (ap (λ p. p.items) same.2) same.3 last.none_left) same.0 c.take_game-in-Open.ensures.game
