use Rattle.std.proofs.Common.{ap, ◌∙◌}
use Rattle.pgn_games.specs.Cutting.{place_behind}
use Rattle.pgn_games.proofs.KeptTokens.{ends_closed}
use Rattle.pgn_games.proofs.cutter.Cutter.take_end.Goals as goal

pub returns-clause-closed : goal.returns-clause-closed
returns-clause-closed c =
    ends_closed c.args.self.now.lexer.fed _ _ c.args.self.now.game _ _ c.args.self.now.place _ _ _ _ _ _ _ c.requires.open c.requires.scanned c.requires.used_up.0 c.end.ensures.fed c.requires.used_up.1
    c.in_ok-end.ensures.tokens c.is_at_line.ensures (c.led_to-place.ensures ∙ ap (place_behind c.args.self.now.place) c.as_slice.ensures.value) c.is_as_new-self.ensures
