-- What is written of a text whose games may get other results (this project).
use Rattle.std.specs.Prelude.{ℕ, Bool, true, false, List, [], Option}
use Rattle.pgn_games.specs.declared.marks.ResultMark.{ResultMark}
use Rattle.pgn_games.specs.declared.played.Span.{Span}
use Rattle.pgn_results.specs.Keeping.{piece_of, changed_piece, rest_of}

-- what is written of a game, with what stands before it from a place on, or of a game that changes alone
abbrev pub game_piece : Bool → List ℕ → ℕ → Span → Option ResultMark → List ℕ
game_piece true bytes start span mark = changed_piece bytes span mark
game_piece false bytes start span mark = piece_of bytes start span mark

-- what is written of the text behind its last game
abbrev pub end_piece : Bool → List ℕ → ℕ → List ℕ
end_piece true bytes start = []
end_piece false bytes start = rest_of start bytes
