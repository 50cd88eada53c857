-- How the tokens of a text are cut into games.
use Rattle.std.specs.Prelude.{ℕ, ◌+◌, ◌-◌, ◌==◌, Bool, true, false, ◌&&◌, if◌then◌else◌, List, [], ◌∷◌, Option, Some, None, is_some, codes}
use Rattle.std.specs.List.{fold}
use Rattle.std.specs.Str.{bytes_eq}
use Rattle.pgn_lex.specs.declared.kinds.Token.{Token}
use Rattle.pgn_lex.specs.declared.kinds.Token.TheVariants.{Tag, BadTag, Word, Star, Enter, Leave}
use Rattle.pgn_lex.specs.declared.kinds.Placed.{Placed}
use Rattle.pgn_games.specs.declared.marks.ResultMark.{ResultMark}
use Rattle.pgn_games.specs.declared.marks.ResultMark.TheVariants.{WhiteWins, BlackWins, Draw, Unknown}
use Rattle.pgn_games.specs.declared.token_turns.Place.{Place}
use Rattle.pgn_games.specs.declared.token_turns.Place.TheVariants.{Before, Tags, Moves}
use Rattle.pgn_games.specs.declared.token_turns.Turn.{Turn}
use Rattle.pgn_games.specs.declared.token_turns.Turn.TheVariants.{Stays, Ends, Begins}

-- the result that a word or a star tells (PGN standard, 8.2.6)
unfoldable pub mark_of : Token → Option ResultMark
mark_of (Word word) =
    if bytes_eq word (codes "1-0") then Some WhiteWins
    else (if bytes_eq word (codes "0-1") then Some BlackWins
    else (if bytes_eq word (codes "1/2-1/2") then Some Draw else None))
mark_of Star = Some Unknown
mark_of _ = None

-- the bytes that tell a result (PGN standard, 8.1.1.7 and 8.2.6)
abbrev pub mark_text : ResultMark → List ℕ
mark_text WhiteWins = codes "1-0"
mark_text BlackWins = codes "0-1"
mark_text Draw = codes "1/2-1/2"
mark_text Unknown = codes "*"

-- what stands among the tags of a game: a tag pair, or a bracket that begins none
unfoldable pub is_tag : Token → Bool
is_tag (Tag name value cut) = true
is_tag BadTag = true
is_tag _ = false

-- how many variations are open after a token (PGN standard, 8.2.5); a closing parenthesis too many closes none
unfoldable pub depth_after : ℕ → Token → ℕ
depth_after depth Enter = depth + 1
depth_after depth Leave = depth - 1
depth_after depth _ = depth

-- how many variations are open at a place
abbrev pub open_at : Place → ℕ
open_at (Moves depth) = depth
open_at _ = 0

-- a tag belongs to the tags of its game; after moves it begins the next game
abbrev pub tag_turn : Place → Turn
tag_turn (Moves depth) = Begins
tag_turn _ = Stays Tags

-- a result outside variations ends the game; anything else goes on with the movetext
abbrev pub move_turn : ℕ → Token → Turn
move_turn depth token = if (depth == 0) && is_some (mark_of token) then Ends else Stays (Moves (depth_after depth token))

-- what a token does to the game that is being read (PGN standard, 8)
unfoldable pub turn : Place → Token → Turn
turn place token = if is_tag token then tag_turn place else move_turn (open_at place) token

-- the place after a token
abbrev pub place_after : Turn → Place
place_after (Stays place) = place
place_after Ends = Before
place_after Begins = Tags

-- the place behind tokens
abbrev pub place_behind : Place → List Placed → Place
place_behind place ts = fold (λ before t. place_after (turn before t.token)) place ts

-- no game is open at a place
abbrev pub is_before : Place → Bool
is_before Before = true
is_before _ = false

-- a token in front of the first of these games
abbrev pub onto : Placed → List (List Placed) → List (List Placed)
onto t [] = (t ∷ []) ∷ []
onto t (game ∷ games) = (t ∷ game) ∷ games

-- a token and the games that begin behind it
abbrev pub put : Turn → Placed → List (List Placed) → List (List Placed)
put (Stays place) t games = onto t games
put Ends t games = (t ∷ []) ∷ games
put Begins t games = [] ∷ onto t games

-- The games that these tokens make up from a place on, each as its tokens. The first of them is the rest of the game that
-- is being read, if there is one. The end of the tokens ends it (this project).
unfoldable pub cut : Place → List Placed → List (List Placed)
cut Before [] = []
cut Tags [] = [] ∷ []
cut (Moves depth) [] = [] ∷ []
cut place (t ∷ ts) = put (turn place t.token) t (cut (place_after (turn place t.token)) ts)
