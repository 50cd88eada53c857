-- What a lexer that takes single bytes still gives, from the bytes that are to come.
use Rattle.std.specs.Prelude.{ℕ, suc, ◌+◌, false, true, List, [], ◌∷◌, ◌++◌, length, take, if◌then◌else◌, nat_lt}
use Rattle.std.specs.List.{prefix_len}
use Rattle.cha_list.specs.declared.classes.Class.TheVariants.{InLine, Digit}
use Rattle.cha_list.specs.Bytes.{in_class}
use Rattle.pgn_lex.specs.declared.classes.PgnClass.TheVariants.{WordByte}
use Rattle.pgn_lex.specs.Classes.{in_pgn_class}
use Rattle.pgn_lex.specs.declared.kinds.Token.TheVariants.{Tag, BadTag, Star, Enter, Leave, Bad}
use Rattle.pgn_lex.specs.declared.kinds.Placed.{Placed}
use Rattle.pgn_lex.specs.declared.pieces.Piece.{Piece}
use Rattle.pgn_lex.specs.declared.stages.Stage.{Stage}
use Rattle.pgn_lex.specs.declared.stages.Stage.TheVariants.{Start, MarkBegun, MarkGrown, RestOfLine, InComment, AfterDollar, InNumber, InWord, InTag, InName, AfterName, InValue, AfterBackslash, AfterValue, TagRead, Spoilt, StarRead, EnterRead, LeaveRead, BadRead}
use Rattle.pgn_lex.specs.Pieces.{silent_piece, spoken_piece, line_piece, comment_piece, annotation_piece, word_token}
use Rattle.pgn_lex.specs.Tags.{tag_at, tag_or_line}
use Rattle.pgn_lex.specs.Tokens.{placed, tokens_after, settled_after, tokens, settled_tokens}
use Rattle.pgn_lex.proofs.TagStages.{tag_valued, tag_in_value, tag_named, tag_in_name}
use Rattle.pgn_lex.specs.Stages.{Machine}

-- what is left of the piece that is being read
unfoldable pub left_of_piece : Stage → List ℕ → List ℕ → List ℕ → Piece
left_of_piece RestOfLine word value rest = line_piece rest
left_of_piece InComment word value rest = comment_piece rest
left_of_piece AfterDollar word value rest = annotation_piece rest
left_of_piece InNumber word value rest = silent_piece (prefix_len (in_class Digit) rest)
left_of_piece InWord word value rest =
    record { more = prefix_len (in_pgn_class WordByte) rest; token = word_token (take 255 (word ++ take (prefix_len (in_pgn_class WordByte) rest) rest)) }
left_of_piece InTag word value rest = tag_or_line rest (tag_at rest)
left_of_piece InName word value rest = tag_or_line rest (tag_in_name word rest)
left_of_piece AfterName word value rest = tag_or_line rest (tag_named word rest)
left_of_piece InValue word value rest = tag_or_line rest (tag_in_value false word value rest)
left_of_piece AfterBackslash word value rest = tag_or_line rest (tag_in_value true word value rest)
left_of_piece AfterValue word value rest = tag_or_line rest (tag_valued word value rest)
left_of_piece TagRead word value rest = spoken_piece (Tag (take 255 word) (take 4096 value) (nat_lt 4096 (length value))) 0
left_of_piece Spoilt word value rest = spoken_piece BadTag (prefix_len (in_class InLine) rest)
left_of_piece StarRead word value rest = spoken_piece Star 0
left_of_piece EnterRead word value rest = spoken_piece Enter 0
left_of_piece LeaveRead word value rest = spoken_piece Leave 0
left_of_piece BadRead word value rest = spoken_piece Bad 0
left_of_piece _ word value rest = silent_piece 0

-- the tokens from here on, whatever is still to come
unfoldable pub gives_at : Stage → Machine → List ℕ → List Placed
gives_at Start m rest = tokens rest
gives_at MarkBegun m rest = tokens (239 ∷ rest)
gives_at MarkGrown m rest = tokens (239 ∷ 187 ∷ rest)
gives_at stage m rest =
    placed m.start (m.at + (left_of_piece stage m.word m.value rest).more) m.start_line (left_of_piece stage m.word m.value rest).token
    ++ tokens_after (left_of_piece stage m.word m.value rest).more m.at m.line m.first rest

-- of these, the tokens that are settled once the rest has come
unfoldable pub settles_at : Stage → Machine → List ℕ → List Placed
settles_at Start m rest = settled_tokens rest
settles_at MarkBegun m rest = settled_tokens (239 ∷ rest)
settles_at MarkGrown m rest = settled_tokens (239 ∷ 187 ∷ rest)
settles_at stage m rest =
    (if nat_lt (left_of_piece stage m.word m.value rest).more (length rest)
    then placed m.start (m.at + (left_of_piece stage m.word m.value rest).more) m.start_line (left_of_piece stage m.word m.value rest).token else [])
    ++ settled_after (left_of_piece stage m.word m.value rest).more m.at m.line m.first rest

abbrev pub one_more : Piece → Piece
one_more p = record { more = suc p.more; token = p.token }
