-- What is kept of the tokens of a game.
use Rattle.std.specs.Prelude.{◌≡◌, ℕ, ◌==◌, Bool, true, false, if◌then◌else◌, List, [], ◌∷◌, ◌++◌, length, take, filter_map, Option, Some, None, slice_get, codes}
use Rattle.std.specs.List.{list_any}
use Rattle.pgn_lex.specs.declared.kinds.Token.{Token}
use Rattle.pgn_lex.specs.declared.kinds.Placed.{Placed}
use Rattle.pgn_games.specs.declared.marks.ResultMark.{ResultMark}
use Rattle.pgn_games.specs.declared.played.Span.{Span}
use Rattle.pgn_games.specs.Cutting.{mark_of}
use Rattle.pgn_games.specs.Fields.{outside, depth_at_end, tag_value, move_word, move_words, sound_words, first_bad, is_unclosed, is_cut}

-- the move word of a token, where so many variations are open
abbrev pub word_outside : ℕ → Token → Option (List ℕ)
word_outside depth token = if depth == 0 then move_word token else None

-- words, and maybe one more
abbrev pub with_word : List (List ℕ) → Option (List ℕ) → List (List ℕ)
with_word words None = words
with_word words (Some word) = words ++ word ∷ []

-- how many move words stand before the first bad token, of which 12,000 count
abbrev pub sound_count : List Placed → ℕ
sound_count told = length (take 12000 (sound_words told))

-- the first result outside variations
abbrev pub first_mark : List Placed → Option ResultMark
first_mark told = slice_get (filter_map (λ t. mark_of t.token) (outside 0 told)) 0

-- where a game stands, with one token more: its first one, or a later one
abbrev pub span_with : Bool → Span → Placed → Span
span_with true span t = record { start = t.offset; end = t.end; line = t.line }
span_with false span t = record { start = span.start; end = t.end; line = span.line }

-- what is kept of the tag pairs of these tokens
pub record HasValues (told : List Placed) (variant fen termination : Option (List ℕ)) : Type 0 where
  pub variant_is : variant ≡ tag_value (codes "Variant") told
  pub fen_is : fen ≡ tag_value (codes "FEN") told
  pub termination_is : termination ≡ tag_value (codes "Termination") told

-- what is kept of these tokens beside
pub record IsSummary (told : List Placed) (empty : Bool) (depth : ℕ) (bad : Option ℕ) (unclosed cut : Bool) (recorded : Option ResultMark) (words : List (List ℕ)) : Type 0 where
  pub empty_is : empty ≡ (length told == 0)
  pub depth_is : depth ≡ depth_at_end told
  pub bad_is : bad ≡ first_bad told
  pub unclosed_is : unclosed ≡ list_any (λ t. is_unclosed t.token) told
  pub cut_is : cut ≡ list_any (λ t. is_cut t.token) told
  pub recorded_is : recorded ≡ first_mark told
  pub words_is : words ≡ take 12001 (move_words told)
