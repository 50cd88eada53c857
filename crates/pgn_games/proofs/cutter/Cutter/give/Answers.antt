use Rattle.std.proofs.Common.{Some, ap, ◌∙◌, sym, refl}
use Rattle.pgn_games.proofs.KeptTokens.{gave_is_open, emptied_scanned, game_open}
use Rattle.pgn_games.proofs.cutter.Cutter.give.Goals as goal

pub returns-clause-open : goal.returns-clause-open
returns-clause-open c =
    let same = c.take_game.ensures.same in
    let now = c.take_game.ensures.emptied in
    (rw (same.0, same.1, same.2, same.3, same.4) (gave_is_open _ _ c.args.self.now.game _ _ _ _ _ _ _ c.requires.open c.requires.whole now.0 now.2), emptied_scanned _ _ now.0 now.1, now.2)

pub returns-clause-game : goal.returns-clause-game
returns-clause-game c =
    game_open c.args.self.now.lexer.fed _ _ c.args.self.now.game _ _ c.requires.open.told c.requires.whole refl ∙ ap Some (sym c.take_game.ensures.game)
