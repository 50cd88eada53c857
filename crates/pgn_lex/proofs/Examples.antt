-- Worked texts, computed from the definitions.
use Rattle.std.proofs.Common.{◌≡◌, ℕ, false, List, [], ◌∷◌, ◌++◌, refl}
use Rattle.std.specs.Prelude.{codes}
use Rattle.cha_list.specs.Bytes.{in_class}
use Rattle.pgn_lex.specs.Classes.{in_pgn_class}
use Rattle.pgn_lex.specs.declared.kinds.Token.{Token}
use Rattle.pgn_lex.specs.declared.kinds.Token.TheVariants.{Tag, BadTag, Word, Star, Enter, Leave, Bad, Unclosed}
use Rattle.pgn_lex.specs.declared.kinds.Placed.{Placed}
use Rattle.pgn_lex.specs.Pieces.{is_white, line_piece, comment_piece, annotation_piece, word_piece, word_token}
use Rattle.pgn_lex.specs.Tags.{past_byte, name_at, value_after, tag_at, tag_piece}
use Rattle.pgn_lex.specs.Tokens.{piece, line_after, tokens_after, has_mark, tokens}

-- a token from a place to another, in a line
at : ℕ → ℕ → ℕ → Token → Placed
at offset end line token = record { token = token; offset = offset; end = end; line = line }

-- a word of the first line
word : ℕ → ℕ → List ℕ → Placed
word offset end text = at offset end 1 (Word text)

-- Move numbers, comments, judgements and annotations give no token.
move_numbers_and_comments : tokens (codes "1. e4 {best} e5!? $1 ?! 2.Nf3 *") ≡ word 3 5 (codes "e4") ∷ word 13 17 (codes "e5!?") ∷ word 26 29 (codes "Nf3") ∷ at 30 31 1 Star ∷ []
unfolding tokens has_mark tokens_after line_after piece is_white in_class in_pgn_class line_piece comment_piece annotation_piece word_piece word_token tag_piece tag_at past_byte name_at value_after at word
move_numbers_and_comments = refl

-- Two tag pairs on one line, one of them without blanks.
tag_pairs : tokens (codes "[White \"A\"][Black\"B\"]") ≡ at 0 11 1 (Tag (codes "White") (codes "A") false) ∷ at 11 21 1 (Tag (codes "Black") (codes "B") false) ∷ []
unfolding tokens has_mark tokens_after line_after piece is_white in_class in_pgn_class line_piece comment_piece annotation_piece word_piece word_token tag_piece tag_at past_byte name_at value_after at word
tag_pairs = refl

-- A backslash stands for itself, but before a quote or a backslash.
escapes_in_a_value : tokens (codes "[A \"\\\"\\\\\\x\"]") ≡ at 0 12 1 (Tag (codes "A") (codes "\"\\\\x") false) ∷ []
unfolding tokens has_mark tokens_after line_after piece is_white in_class in_pgn_class line_piece comment_piece annotation_piece word_piece word_token tag_piece tag_at past_byte name_at value_after at word
escapes_in_a_value = refl

-- A value ends on its line, and what follows on the next line is read as ever.
value_over_two_lines : tokens (codes "[A \"b" ++ 10 ∷ codes "c\"]") ≡ at 0 5 1 BadTag ∷ at 6 7 2 (Word (codes "c")) ∷ at 7 8 2 Bad ∷ at 8 9 2 Bad ∷ []
unfolding tokens has_mark tokens_after line_after piece is_white in_class in_pgn_class line_piece comment_piece annotation_piece word_piece word_token tag_piece tag_at past_byte name_at value_after at word
value_over_two_lines = refl

-- A line that begins with a percent sign is skipped; a percent sign elsewhere is no token of PGN.
escaped_lines : tokens (codes "%x" ++ 13 ∷ 10 ∷ codes "%y" ++ 13 ∷ codes " %") ≡ at 8 9 2 Bad ∷ []
unfolding tokens has_mark tokens_after line_after piece is_white in_class in_pgn_class line_piece comment_piece annotation_piece word_piece word_token tag_piece tag_at past_byte name_at value_after at word
escaped_lines = refl

-- A comment ends at the first closing brace.
comments_do_not_nest : tokens (codes "{a{b;}c}") ≡ word 6 7 (codes "c") ∷ at 7 8 1 Bad ∷ []
unfolding tokens has_mark tokens_after line_after piece is_white in_class in_pgn_class line_piece comment_piece annotation_piece word_piece word_token tag_piece tag_at past_byte name_at value_after at word
comments_do_not_nest = refl

-- Parentheses end words.
variations : tokens (codes "e8(Q (*))") ≡ word 0 2 (codes "e8") ∷ at 2 3 1 Enter ∷ word 3 4 (codes "Q") ∷ at 5 6 1 Enter ∷ at 6 7 1 Star ∷ at 7 8 1 Leave ∷ at 8 9 1 Leave ∷ []
unfolding tokens has_mark tokens_after line_after piece is_white in_class in_pgn_class line_piece comment_piece annotation_piece word_piece word_token tag_piece tag_at past_byte name_at value_after at word
variations = refl

-- EF BB BF counts in offsets; the byte after it is the first of its line.
mark_of_utf_8 : tokens (239 ∷ 187 ∷ 191 ∷ codes "%x" ++ 10 ∷ codes "{") ≡ at 6 7 2 Unclosed ∷ []
unfolding tokens has_mark tokens_after line_after piece is_white in_class in_pgn_class line_piece comment_piece annotation_piece word_piece word_token tag_piece tag_at past_byte name_at value_after at word
mark_of_utf_8 = refl

-- Two bytes of that mark are two bytes that begin nothing.
mark_in_part : tokens (239 ∷ 187 ∷ []) ≡ at 0 1 1 Bad ∷ at 1 2 1 Bad ∷ []
unfolding tokens has_mark tokens_after line_after piece is_white in_class in_pgn_class line_piece comment_piece annotation_piece word_piece word_token tag_piece tag_at past_byte name_at value_after at word
mark_in_part = refl
