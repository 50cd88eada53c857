-- The texts of what is found about a position (this project).
use Rattle.std.specs.Prelude.{ℕ, Bool, if◌then◌else◌, List, [], ◌∷◌, ◌++◌, length, codes, decimal}
use Rattle.cha_board.specs.declared.men.Color.{Color}
use Rattle.cha_board.specs.declared.men.Color.TheVariants.{White, Black}
use Rattle.cha_board.specs.Board.{Board}
use Rattle.cha_fen.specs.Written.{fen_text}
use Rattle.cha_moves.specs.Step.{Move}
use Rattle.cha_moves.specs.Moves.{after}
use Rattle.cha_moves.specs.Texts.{move_bytes}
use Rattle.cha_san.specs.Writing.{san_text}
use Rattle.cha_cert.specs.Shared.{shared_of}
use Rattle.cert_text.specs.SharedSpelled.{shared_text}
use Rattle.cha_verdict.specs.declared.decisions.Decision.{Decision}
use Rattle.cha_verdict.specs.declared.verdicts.Verdict.{Verdict}
use Rattle.cha_verdict.specs.declared.verdicts.Verdict.TheVariants.{Winnable, Unwinnable, Undecided, Skipped}
use Rattle.cha_outcome.specs.declared.status.PositionStatus.{PositionStatus}
use Rattle.report_words.specs.Counts.{count_text}
use Rattle.report_words.specs.Words.{status_text}
use Rattle.report_style.specs.declared.styles.BlockForm.{BlockForm}
use Rattle.report_style.specs.declared.styles.Notation.{Notation}
use Rattle.report_style.specs.declared.styles.Notation.TheVariants.{Coordinates, San}

-- a line
abbrev pub line : List ℕ → List ℕ
line text = text ++ 10 ∷ []

-- the texts of moves, each behind a space
unfoldable pub moves_text : List Move → List ℕ
moves_text [] = []
moves_text (m ∷ ms) = 32 ∷ move_bytes m ++ moves_text ms

-- the words of moves that are made one after the other, each behind a space (PGN standard, 8.2.3)
unfoldable pub words_text : Board → List Move → List ℕ
words_text q [] = []
words_text q (m ∷ ms) = 32 ∷ san_text q m ++ words_text (after q m) ms

-- a line of moves in a notation
abbrev pub notated : Notation → Board → List Move → List ℕ
notated Coordinates q ms = moves_text ms
notated San q ms = words_text q ms

-- the text of a line of moves that mates
unfoldable pub winnable_text : Notation → Board → List Move → List ℕ
winnable_text notation q [] = codes "winnable in 0"
winnable_text notation q (m ∷ ms) = codes "winnable in " ++ decimal (length (m ∷ ms)) ++ codes ":" ++ notated notation q (m ∷ ms)

-- the text of a search that spent its budget: the positions expanded, and the plies within which there is no mate
unfoldable pub undecided_text : ℕ → ℕ → List ℕ
undecided_text positions depth = count_text (codes "undecided after ") positions ++ count_text (codes " positions, depth ") depth

-- the text of a verdict on a side in a position
unfoldable pub verdict_text : Notation → Board → Verdict → List ℕ
verdict_text notation q (Winnable moves) = winnable_text notation q moves
verdict_text notation q (Unwinnable cert) = codes "unwinnable"
verdict_text notation q (Undecided positions depth) = undecided_text positions depth
verdict_text notation q Skipped = codes "skipped"

-- the certificate of a side that cannot mate, its equal sets written once, where certificates are printed
unfoldable pub cert_part : Bool → Color → Verdict → List ℕ
cert_part certs winner (Winnable moves) = []
cert_part certs winner (Unwinnable cert) = if certs then shared_text winner (shared_of cert) else []
cert_part certs winner (Undecided positions depth) = []
cert_part certs winner Skipped = []

-- the line with the verdict on a side behind its label, and the certificate behind the line
abbrev pub side_text : BlockForm → List ℕ → Board → Color → Verdict → List ℕ
side_text form label q winner verdict = line (label ++ verdict_text form.notation q verdict) ++ cert_part form.certs winner verdict

-- the line with the FEN of a position
abbrev pub fen_line : Board → List ℕ
fen_line q = line (codes "fen: " ++ fen_text q)

-- the four lines on a position that positions and games share, with the certificates of the sides between them
unfoldable pub findings_text : BlockForm → Board → Decision → PositionStatus → List ℕ
findings_text form q d status =
    fen_line q ++ side_text form (codes "white: ") q White d.white ++ side_text form (codes "black: ") q Black d.black ++ line (codes "status: " ++ status_text status)
