-- The text of the opening position.
use Rattle.std.proofs.Common.{◌≡◌, codes, refl}
use Rattle.cha_board.specs.Letters.{letter_of}
use Rattle.cha_fen.specs.Written.{row_text_after, ranks_text, rights_text, target_text, fen_text}
use Rattle.pgn_games.specs.Games.{opening}

pub opening_text : fen_text opening ≡ codes "rnbqkbnr/pppppppp/8/8/8/8/PPPPPPPP/RNBQKBNR w KQkq -"
unfolding fen_text target_text rights_text ranks_text row_text_after letter_of opening
opening_text = refl
