use Rattle.std.proofs.Common.{refl}
use Rattle.pgn_games.proofs.KeptTokens.{same_front}
use Rattle.pgn_games.proofs.cutter.Cutter.take_piece.Goals as goal

pub returns-clause-first : goal.returns-clause-first
returns-clause-first c = same_front c.args.self.now.lexer.fed _ _ _ _ _ _ c.requires.open.told refl refl
