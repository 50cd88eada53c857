-- What the tokens of one game say.
use Rattle.std.specs.Prelude.{ℕ, ◌-◌, ◌==◌, Bool, true, false, ◌||◌, if◌then◌else◌, List, [], ◌∷◌, ◌++◌, length, take, drop, fold, filter_map, Option, Some, None, is_some, slice_get, codes}
use Rattle.std.specs.Option.{unwrap_or}
use Rattle.std.specs.Str.{bytes_eq, str_eq_ignore_ascii_case}
use Rattle.pgn_lex.specs.declared.kinds.Token.{Token}
use Rattle.pgn_lex.specs.declared.kinds.Token.TheVariants.{Tag, BadTag, Word, Leave, Bad, Unclosed}
use Rattle.pgn_lex.specs.declared.kinds.Placed.{Placed}
use Rattle.pgn_games.specs.declared.marks.ResultMark.{ResultMark}
use Rattle.pgn_games.specs.declared.marks.ResultMark.TheVariants.{Unknown}
use Rattle.pgn_games.specs.Cutting.{mark_of, depth_after}

-- a token that stands in so many open variations, if it stands in none
abbrev pub outside_at : ℕ → Placed → List Placed
outside_at depth t = if depth == 0 then t ∷ [] else []

-- the tokens outside variations, where so many are open at the beginning (PGN standard, 8.2.5)
unfoldable pub outside : ℕ → List Placed → List Placed
outside depth [] = []
outside depth (t ∷ ts) = outside_at depth t ++ outside (depth_after depth t.token) ts

-- the variations that are open after these tokens
abbrev pub depth_at_end : List Placed → ℕ
depth_at_end slice = fold (λ depth t. depth_after depth t.token) 0 slice

-- the value of a tag pair of this name
unfoldable pub value_named : List ℕ → Token → Option (List ℕ)
value_named name (Tag n value cut) = if bytes_eq n name then Some value else None
value_named name _ = None

-- the value of the first tag pair of a name: names are compared with their case (this project)
unfoldable pub tag_value : List ℕ → List Placed → Option (List ℕ)
tag_value name slice = slice_get (filter_map (λ t. value_named name t.token) slice) 0

-- the result that a game ends with; unknown, if it ends without one (PGN standard, 8.2.6)
unfoldable pub recorded_in : List Placed → ResultMark
recorded_in slice = unwrap_or (slice_get (filter_map (λ t. mark_of t.token) (outside 0 slice)) 0) Unknown

-- a word that is a move, or would be one: no result
unfoldable pub move_word : Token → Option (List ℕ)
move_word (Word word) = if is_some (mark_of (Word word)) then None else Some word
move_word _ = None

-- the move words of a game: those outside variations (PGN standard, 8.2.3)
unfoldable pub move_words : List Placed → List (List ℕ)
move_words slice = filter_map (λ t. move_word t.token) (outside 0 slice)

-- what is no token of PGN: a bracket that begins no tag pair, a byte that begins nothing, a parenthesis that closes nothing
unfoldable pub is_bad : Token → Bool
is_bad BadTag = true
is_bad Bad = true
is_bad Leave = true
is_bad _ = false

-- the place of a bad token
abbrev pub bad_offset : Placed → Option ℕ
bad_offset t = if is_bad t.token then Some t.offset else None

-- the place of the first bad token outside variations (this project)
unfoldable pub first_bad : List Placed → Option ℕ
first_bad slice = slice_get (filter_map bad_offset (outside 0 slice)) 0

-- the tokens before the first bad one
unfoldable pub before_bad : List Placed → List Placed
before_bad [] = []
before_bad (t ∷ ts) = if is_bad t.token then [] else t ∷ before_bad ts

-- the move words before the first bad token outside variations (this project)
unfoldable pub sound_words : List Placed → List (List ℕ)
sound_words slice = filter_map (λ t. move_word t.token) (before_bad (outside 0 slice))

-- a comment that the end of the input cuts off
unfoldable pub is_unclosed : Token → Bool
is_unclosed Unclosed = true
is_unclosed _ = false

-- a tag pair whose value is longer than what is kept of it
unfoldable pub is_cut : Token → Bool
is_cut (Tag name value cut) = cut
is_cut _ = false

-- a Termination value that says that the game was lost on time: of the PGN standard, 9.8.1, or as chess.com writes it
unfoldable pub says_forfeit : List ℕ → Bool
says_forfeit value =
    str_eq_ignore_ascii_case value (codes "time forfeit")
    || str_eq_ignore_ascii_case (drop (length value - length (codes "won on time")) value) (codes "won on time")

-- a text says these words somewhere, whatever the case of ASCII letters
unfoldable pub speaks_of : List ℕ → List ℕ → Bool
speaks_of wanted [] = false
speaks_of wanted (b ∷ bs) = str_eq_ignore_ascii_case (take (length wanted) (b ∷ bs)) wanted || speaks_of wanted bs

-- A Termination value that says that a flag fell, also where the game was drawn: of the PGN standard, 9.8.1, or as chess.com writes it
-- of a player who has no time against one who it counts as unable to mate.
unfoldable pub says_flag_fell : List ℕ → Bool
says_flag_fell value = str_eq_ignore_ascii_case value (codes "time forfeit") || speaks_of (codes "timeout vs insufficient material") value

-- a Variant value that means chess (this project)
unfoldable pub says_chess : List ℕ → Bool
says_chess value =
    str_eq_ignore_ascii_case value (codes "standard") || str_eq_ignore_ascii_case value (codes "chess")
    || str_eq_ignore_ascii_case value (codes "normal") || str_eq_ignore_ascii_case value (codes "from position")

-- a tag that is there and passes a test
abbrev pub passes : (List ℕ → Bool) → Option (List ℕ) → Bool
passes test None = false
passes test (Some value) = test value
