-- The move that a word names.
use Rattle.std.specs.Prelude.{ℕ, if◌then◌else◌, List, [], ◌∷◌, filter, Option, Some, None, is_some, Result, Ok, Err}
use Rattle.cha_board.specs.Board.{Board}
use Rattle.cha_moves.specs.Step.{Move}
use Rattle.cha_moves.specs.Moves.{legal}
use Rattle.cha_san.specs.declared.faults.SanFault.{SanFault}
use Rattle.cha_san.specs.declared.faults.SanFault.TheVariants.{NotSan, NoSuchMove, Ambiguous}
use Rattle.cha_san.specs.declared.forms.Form.{Form}
use Rattle.cha_san.specs.Forms.{form_of}
use Rattle.cha_san.specs.Fitting.{fits}

-- the legal moves that fit, where a word says something
unfoldable pub fitting_form : Board → Option Form → List Move
fitting_form q None = []
fitting_form q (Some form) = filter (fits q form) (legal q)

-- the legal moves that fit a word
abbrev pub fitting : Board → List ℕ → List Move
fitting q word = fitting_form q (form_of word)

-- the one move of a list
abbrev pub only : List Move → Result Move SanFault
only [] = Err NoSuchMove
only (m ∷ []) = Ok m
only (m ∷ n ∷ rest) = Err Ambiguous

-- the one legal move that fits a word, or what is wrong with the word (PGN standard, 8.2.3)
abbrev pub resolved : Board → List ℕ → Result Move SanFault
resolved q word = if is_some (form_of word) then only (fitting q word) else Err NotSan
