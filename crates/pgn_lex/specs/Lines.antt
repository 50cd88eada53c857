-- Where lines begin.
use Rattle.std.specs.Prelude.{ℕ, Bool, true, not, if◌then◌else◌, List, drop}
use Rattle.std.specs.List.{fold}
use Rattle.cha_list.specs.declared.classes.Class.TheVariants.{InLine}
use Rattle.cha_list.specs.Bytes.{in_class}
use Rattle.pgn_lex.specs.Tokens.{line_after, has_mark}

-- how many line feeds there are
unfoldable pub line_feeds : List ℕ → ℕ
line_feeds bytes = fold line_after 0 bytes

-- what follows the bytes EF BB BF, where they stand in front
unfoldable pub past_mark : List ℕ → List ℕ
past_mark bytes = if has_mark bytes then drop 3 bytes else bytes

-- a byte behind these would be the first of its line: there is none but the mark, or the last one ends a line
unfoldable pub ends_line : List ℕ → Bool
ends_line bytes = fold (λ first b. not (in_class InLine b)) true (past_mark bytes)
