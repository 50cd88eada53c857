-- A result in place of the one that a game's text tells.
use Rattle.std.specs.Prelude.{ℕ, ◌==◌, Bool, true, false, not, ◌&&◌, ◌||◌, if◌then◌else◌, List, [], ◌∷◌, ◌++◌, take, drop, is_some, codes}
use Rattle.std.specs.List.{fold, list_any}
use Rattle.pgn_lex.specs.declared.classes.PgnClass.TheVariants.{WordByte}
use Rattle.pgn_lex.specs.Classes.{in_pgn_class}
use Rattle.pgn_lex.specs.declared.kinds.Token.{Token}
use Rattle.pgn_lex.specs.declared.kinds.Placed.{Placed}
use Rattle.pgn_lex.specs.Tokens.{tokens}
use Rattle.pgn_games.specs.declared.marks.ResultMark.{ResultMark}
use Rattle.pgn_games.specs.declared.marks.ResultMark.TheVariants.{WhiteWins, BlackWins, Draw, Unknown}
use Rattle.pgn_games.specs.Cutting.{mark_of, mark_text, depth_after}
use Rattle.pgn_games.specs.Fields.{outside, value_named}

-- what follows a value: its closing quote, which is the next one that no backslash escapes, and all behind that
unfoldable pub past_value : Bool → List ℕ → List ℕ
past_value escaped [] = []
past_value true (b ∷ bs) = past_value false bs
past_value false (b ∷ bs) = if b == 34 then b ∷ bs else past_value (b == 92) bs

-- bytes that begin with a tag pair, with a result as its value, between its quotes
unfoldable pub with_value : ResultMark → List ℕ → List ℕ
with_value mark [] = []
with_value mark (b ∷ bs) = if b == 34 then b ∷ (mark_text mark ++ past_value false bs) else b ∷ with_value mark bs

-- the last byte is one of a word, or a dollar sign: a word byte behind it would go on with it
abbrev pub leans : List ℕ → Bool
leans bytes = fold (λ before b. in_pgn_class WordByte b || (b == 36)) false bytes

-- the first byte is one of a word
abbrev pub begins_word : List ℕ → Bool
begins_word [] = false
begins_word (b ∷ bs) = in_pgn_class WordByte b

-- two texts, with a space between them only where they would make one word
abbrev pub apart : List ℕ → List ℕ → List ℕ
apart a b = if leans a && begins_word b then a ++ 32 ∷ b else a ++ b

-- A text with a result from one place to another. A star may touch a word (PGN standard, 7), and a result that is itself a word may not:
-- there a space is put between them.
abbrev pub with_token : ResultMark → ℕ → ℕ → List ℕ → List ℕ
with_token mark start end bytes = apart (take start bytes) (apart (mark_text mark) (drop end bytes))

-- a text with a result as the value of the tag pair that begins at a place
abbrev pub with_tag : ResultMark → ℕ → List ℕ → List ℕ
with_tag mark start bytes = take start bytes ++ with_value mark (drop start bytes)

-- a tag pair of the name Result (PGN standard, 8.1.1.7)
abbrev pub is_result_tag : Token → Bool
is_result_tag token = is_some (value_named (codes "Result") token)

-- a result that ends its game: one outside variations (PGN standard, 8.2.6)
abbrev pub is_result_at : ℕ → Token → Bool
is_result_at depth token = (depth == 0) && is_some (mark_of token)

-- the same, or the text as it is
abbrev pub with_tag_if : Bool → ResultMark → ℕ → List ℕ → List ℕ
with_tag_if true mark start bytes = with_tag mark start bytes
with_tag_if false mark start bytes = bytes

-- A text in which a game, of these tokens, has another result: as the value of its first tag pair Result, unless the flag says that
-- one came before, and in place of the result that ends it. What stands later is changed first, so that places stay where they are.
unfoldable pub with_mark : Bool → ℕ → ResultMark → List Placed → List ℕ → List ℕ
with_mark tagged depth mark [] bytes = bytes
with_mark tagged depth mark (t ∷ ts) bytes =
    if is_result_at depth t.token then with_token mark t.offset t.end bytes
    else with_tag_if (is_result_tag t.token && not tagged) mark t.offset
    (with_mark (tagged || is_result_tag t.token) (depth_after depth t.token) mark ts bytes)

-- a result outside variations stands among these tokens
unfoldable pub has_result : List Placed → Bool
has_result slice = list_any (λ t. is_some (mark_of t.token)) (outside 0 slice)

-- a result is told by a word
abbrev pub is_word : ResultMark → Bool
is_word WhiteWins = true
is_word BlackWins = true
is_word Draw = true
is_word Unknown = false

-- the space that follows a game with another result, where the next byte is one of a word
abbrev pub space_behind : ResultMark → List Placed → List ℕ → List ℕ
space_behind mark slice behind = if has_result slice && (is_word mark && begins_word behind) then 32 ∷ [] else []

-- the bytes of one game, from its first token to its last, with another result; the bytes behind it are known
abbrev pub game_with_mark : ResultMark → List ℕ → List ℕ → List ℕ
game_with_mark mark game behind = with_mark false 0 mark (tokens game) game ++ space_behind mark (tokens game) behind
