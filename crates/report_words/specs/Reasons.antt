-- Why a line is no position, or a game cannot be read, in words (this project).
use Rattle.std.specs.Prelude.{ℕ, List, [], ◌++◌, codes, decimal}
use Rattle.cha_fen.specs.declared.faults.FenFault.{FenFault}
use Rattle.cha_fen.specs.declared.faults.FenFault.TheVariants.{Shape, Kings, PawnRank, OpponentInCheck}
use Rattle.pgn_games.specs.declared.faults.GameFault.{GameFault}
use Rattle.pgn_games.specs.declared.faults.GameFault.TheVariants.{BadToken, Unclosed, ValueTooLong, Variant, BadStart, TooManyPlies}
use Rattle.cha_san.specs.declared.faults.SanFault.{SanFault}
use Rattle.cha_san.specs.declared.faults.SanFault.TheVariants.{NotSan, NoSuchMove, Ambiguous, NoMemory}
use Rattle.cha_outcome.specs.declared.unreadable.Unreadable.{Unreadable}
use Rattle.cha_outcome.specs.declared.unreadable.Unreadable.TheVariants.{Tokens, Moves, TooLong}

-- the name of a fault of FEN
unfoldable pub fen_fault_text : FenFault → List ℕ
fen_fault_text Shape = codes "shape"
fen_fault_text Kings = codes "kings"
fen_fault_text PawnRank = codes "pawn rank"
fen_fault_text OpponentInCheck = codes "opponent in check"

-- the name of a fault of a game
unfoldable pub game_fault_text : GameFault → List ℕ
game_fault_text (BadToken place) = codes "bad token at byte " ++ decimal place
game_fault_text Unclosed = codes "unclosed comment or variation"
game_fault_text ValueTooLong = codes "tag value over 4096 bytes"
game_fault_text Variant = codes "variant not standard"
game_fault_text (BadStart fault) = codes "bad FEN: " ++ fen_fault_text fault
game_fault_text TooManyPlies = codes "more than 12000 moves"

-- the name of a fault of a move word; want of memory is none
unfoldable pub word_fault_text : SanFault → List ℕ
word_fault_text NotSan = codes "not SAN"
word_fault_text NoSuchMove = codes "no such move"
word_fault_text Ambiguous = codes "ambiguous"
word_fault_text NoMemory = []

-- why a game cannot be read
unfoldable pub reason_text : Unreadable → List ℕ
reason_text (Tokens fault) = game_fault_text fault
reason_text (Moves ply word fault) = codes "move " ++ decimal ply ++ codes " " ++ word ++ codes ": " ++ word_fault_text fault
reason_text TooLong = codes "longer than 16777216 bytes"
