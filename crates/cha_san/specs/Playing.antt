-- The positions of a game.
use Rattle.std.specs.Prelude.{◌≡◌, ℕ, ◌+◌, List, [], ◌∷◌, Option, Some, None, Result, Ok, Err}
use Rattle.cha_board.specs.Board.{Board}
use Rattle.cha_moves.specs.Step.{Move}
use Rattle.cha_moves.specs.Moves.{after}
use Rattle.cha_san.specs.declared.faults.SanFault.{SanFault}
use Rattle.cha_san.specs.declared.faults.SanFault.TheVariants.{NoMemory}
use Rattle.cha_san.specs.declared.faults.PlayFault.{PlayFault}
use Rattle.cha_san.specs.Resolving.{resolved}

-- a position in front of those that follow, if these can be told
abbrev pub onto : Board → Result (List Board) PlayFault → Result (List Board) PlayFault
onto q (Ok rest) = Ok (q ∷ rest)
onto q (Err fault) = Err fault

-- a position and those that follow the move of the next word, which has this number
abbrev pub onward : ℕ → Board → Result Move SanFault → (Board → Result (List Board) PlayFault) → Result (List Board) PlayFault
onward ply q (Ok m) rest = onto q (rest (after q m))
onward ply q (Err fault) rest = Err (record { ply = ply; fault = fault })

-- a position and the one after each word, where the first word has this number; or the first word that names no move
unfoldable pub positions_from : ℕ → Board → List (List ℕ) → Result (List Board) PlayFault
positions_from ply q [] = Ok (q ∷ [])
positions_from ply q (word ∷ words) = onward ply q (resolved q word) (λ next. positions_from (ply + 1) next words)

-- the positions of a game, from its start to its end; words are counted from 1
abbrev pub positions : Board → List (List ℕ) → Result (List Board) PlayFault
positions start words = positions_from 1 start words

-- a move in front of those that follow it
abbrev pub named_onward : Board → Result Move SanFault → (Board → List Move) → List Move
named_onward q (Ok m) rest = m ∷ rest (after q m)
named_onward q (Err fault) rest = []

-- the moves that words name one after the other, up to the first word that names none
unfoldable pub moves_named : Board → List (List ℕ) → List Move
moves_named q [] = []
moves_named q (word ∷ words) = named_onward q (resolved q word) (λ next. moves_named next words)

-- the move that a word names, if it names one
abbrev pub named_move : Result Move SanFault → Option Move
named_move (Ok m) = Some m
named_move (Err fault) = None

-- there was no memory
abbrev pub LacksMemory : Result (List Board) PlayFault → Type 0
LacksMemory (Ok qs) = ⊥
LacksMemory (Err fault) = fault.fault ≡ NoMemory

-- a position comes from another by the move of a word
abbrev pub FollowsBy : Board → List ℕ → Board → Type 0
FollowsBy q word next = (m : Move) × (resolved q word ≡ Ok m) × (next ≡ after q m)
