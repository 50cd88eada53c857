-- The tokens of a game that was made.
use Rattle.std.proofs.Common.{◌≡◌, ℕ, ◌+◌, ◌==◌, Bool, true, false, List, [], ◌∷◌, ◌++◌, Some, None, length, refl, sym, ap, subst, ◌∙◌, arith, append_assoc}
use Rattle.std.specs.Prelude.{⊤, codes, decimal}
use Rattle.std.specs.List.{fold}
use Rattle.std.proofs.lemmas.List.{length-append}
use Rattle.std.proofs.lemmas.List.Sums.{fold-append}
use Rattle.cha_board.specs.declared.men.Color.{Color}
use Rattle.cha_board.specs.declared.men.Color.TheVariants.{White, Black}
use Rattle.cha_board.specs.Men.{other_color}
use Rattle.cha_list.specs.Bytes.{in_class}
use Rattle.cha_moves.specs.declared.ends.Standing.{Standing}
use Rattle.cha_moves.specs.declared.ends.Standing.TheVariants.{Mate, Stalemate, Running}
use Rattle.cha_moves.specs.Standings.{standing_of}
use Rattle.pgn_lex.specs.Classes.{in_pgn_class}
use Rattle.pgn_lex.specs.declared.kinds.Token.TheVariants.{Word}
use Rattle.pgn_lex.specs.declared.kinds.Placed.{Placed}
use Rattle.pgn_lex.specs.Pieces.{is_white, word_token, word_piece}
use Rattle.pgn_lex.specs.Tags.{name_at}
use Rattle.pgn_lex.specs.Tokens.{piece, line_after, tokens_after}
use Rattle.pgn_games.specs.declared.marks.ResultMark.{ResultMark}
use Rattle.pgn_games.specs.Cutting.{mark_of}
use Rattle.pgn_games.specs.Wins.{win_of}
use Rattle.random_games.specs.Games.{MadeGame}
use Rattle.random_games.specs.Made.{win_text, result_text, termination_text, words_text, tag_line, tags_text, game_text}
use Rattle.random_games.specs.AsRead.{result_of}
use Rattle.random_games.proofs.Passed.{Spot, spot, a_word, first_behind, any_first, spaced, new_line, IsSpelled, word_read}
use Rattle.random_games.proofs.TagLines.{IsTagName, IsTagValue, five_and, a_tag, line_behind, tag_read}

-- a word that tells no result
pub record IsMoveWord (w : List ℕ) : Type 0 where
  pub spelled : IsSpelled w
  pub no_mark : mark_of (Word w) ≡ None

abbrev pub AllMoveWords : List (List ℕ) → Type 0
AllMoveWords [] = ⊤
AllMoveWords (w ∷ ws) = IsMoveWord w × AllMoveWords ws

-- where the next word stands
abbrev pub next_word : List ℕ → Spot → Spot
next_word w at = spot (at.start + length w + 1) (line_after (fold line_after at.line w) 32)

-- words, one behind another
abbrev pub placed_words : Spot → List (List ℕ) → List Placed
placed_words at [] = []
placed_words at (w ∷ ws) = a_word w at ∷ placed_words (next_word w at) ws

words_read : (ws : List (List ℕ)) (zs : List ℕ) (at line end : ℕ) (first : Bool) → AllMoveWords ws → ((k l : ℕ) (f : Bool) → tokens_after 0 k l f zs ≡ tokens_after 0 k l false zs)
    → end ≡ at + length (words_text ws) → tokens_after 0 at line first (words_text ws ++ zs) ≡ placed_words (spot at line) ws ++ tokens_after 0 end (fold line_after line (words_text ws)) false zs
unfolding words_text in_pgn_class
words_read [] zs at line end first all starts e = starts at line first ∙ ap (λ k. tokens_after 0 k line false zs) (omega (arith, e))
words_read (w ∷ ws) zs at line end first all starts e =
    let rest = words_text ws in
    let next = at + length w in
    let size = length-append w (32 ∷ rest) in
    let behind = fold line_after line w in
    ap (tokens_after 0 at line first) (append_assoc w (32 ∷ rest) zs)
    ∙ word_read w (rest ++ zs) 32 at line next first all.0.spelled refl refl
    ∙ ap (λ ts. a_word w (spot at line) ∷ ts) (spaced (rest ++ zs) next behind (first_behind first w) ∙ words_read ws zs (next + 1) (line_after behind 32) end false all.1 starts (omega (arith, e, size)))
    ∙ ap (λ l. placed_words (spot at line) (w ∷ ws) ++ tokens_after 0 end l false zs) (sym (fold-append line_after line w (32 ∷ rest)))

-- a result as it stands in the text
pub record IsResult (text : List ℕ) (mark : ResultMark) : Type 0 where
  pub spelled : IsSpelled text
  pub value : IsTagValue text
  pub no_escape : (spelled.byte == 37) ≡ false
  pub marks : mark_of (Word text) ≡ Some mark

one_nil : (first : Bool) (bs : List ℕ) → piece first 49 bs ≡ word_piece 49 bs
unfolding piece is_white in_pgn_class
one_nil true bs = refl
one_nil false bs = refl

nil_one : (first : Bool) (bs : List ℕ) → piece first 48 bs ≡ word_piece 48 bs
unfolding piece is_white in_pgn_class
nil_one true bs = refl
nil_one false bs = refl

win_result : (c : Color) → IsResult (win_text c) (win_of c)
unfolding word_token in_class in_pgn_class mark_of
win_result White = record {
  spelled = record { byte = 49; more = codes "-0"; is = refl; begins = one_nil; run = refl; told = refl; short = omega arith };
  value = record { plain = refl; short = omega arith };
  no_escape = refl;
  marks = refl;
}
win_result Black = record {
  spelled = record { byte = 48; more = codes "-1"; is = refl; begins = nil_one; run = refl; told = refl; short = omega arith };
  value = record { plain = refl; short = omega arith };
  no_escape = refl;
  marks = refl;
}

pub is_result : (side : Color) (standing : Standing) → IsResult (result_text side standing) (result_of side standing)
unfolding word_token in_class in_pgn_class mark_of
is_result side (Mate winner) = win_result winner
is_result side Running = win_result (other_color side)
is_result side Stalemate = record {
  spelled = record { byte = 49; more = codes "/2-1/2"; is = refl; begins = one_nil; run = refl; told = refl; short = omega arith };
  value = record { plain = refl; short = omega arith };
  no_escape = refl;
  marks = refl;
}

result_starts : (text zs : List ℕ) (mark : ResultMark) → IsResult text mark → (k l : ℕ) (f : Bool) → tokens_after 0 k l f (text ++ zs) ≡ tokens_after 0 k l false (text ++ zs)
result_starts text zs mark h k l f =
    let P : List ℕ → Type 0 = λ x. tokens_after 0 k l f (x ++ zs) ≡ tokens_after 0 k l false (x ++ zs) in
    let here : P (h.spelled.byte ∷ h.spelled.more) = any_first h.spelled.byte (h.spelled.more ++ zs) k l f h.no_escape in
    subst P (sym h.spelled.is) here

result_read : (text ys : List ℕ) (at line : ℕ) (first : Bool) → IsSpelled text
    → tokens_after 0 at line first (text ++ 10 ∷ 10 ∷ ys) ≡ a_word text (spot at line) ∷ tokens_after 0 (at + length text + 1 + 1) (line_after (line_after (fold line_after line text) 10) 10) true ys
unfolding in_pgn_class
result_read text ys at line first h =
    let behind = fold line_after line text in
    word_read text (10 ∷ ys) 10 at line (at + length text) first h refl refl
    ∙ ap (λ ts. a_word text (spot at line) ∷ ts) (new_line (10 ∷ ys) (at + length text) behind (first_behind first text) ∙ new_line ys (at + length text + 1) (line_after behind 10) true)

-- the values of the tags
pub termination_value : (standing : Standing) → IsTagValue (termination_text standing)
unfolding in_class
termination_value (Mate winner) = record { plain = refl; short = omega arith }
termination_value Stalemate = record { plain = refl; short = omega arith }
termination_value Running = record { plain = refl; short = omega arith }

event_name : IsTagName (codes "Event")
unfolding in_class in_pgn_class name_at
event_name = record { no_blanks = λ bs. refl; named = λ bs. refl; short = omega arith }

result_name : IsTagName (codes "Result")
unfolding in_class in_pgn_class name_at
result_name = record { no_blanks = λ bs. refl; named = λ bs. refl; short = omega arith }

termination_name : IsTagName (codes "Termination")
unfolding in_class in_pgn_class name_at
termination_name = record { no_blanks = λ bs. refl; named = λ bs. refl; short = omega arith }

-- the tokens of a game at these places
abbrev pub game_tokens : Spot → Spot → Spot → Spot → Spot → List ℕ → List ℕ → List ℕ → List (List ℕ) → List Placed
game_tokens a b c d e event result termination ws =
    a_tag (codes "Event") event a ∷ a_tag (codes "Result") result b ∷ a_tag (codes "Termination") termination c ∷ (placed_words d ws ++ a_word result e ∷ [])

-- the tokens of a text that begins with a game
pub record BeginsWith (bytes rest event result termination : List ℕ) (ws : List (List ℕ)) (at line : ℕ) (first : Bool) : Type 0 where
  pub b : Spot
  pub c : Spot
  pub d : Spot
  pub e : Spot
  pub end : ℕ
  pub end_line : ℕ
  pub tokens_are : tokens_after 0 at line first bytes ≡ game_tokens (spot at line) b c d e event result termination ws ++ tokens_after 0 end end_line true rest

three_and : (a b c ys : List ℕ) → (a ++ b ++ c) ++ ys ≡ a ++ (b ++ (c ++ ys))
three_and a b c ys = append_assoc (a ++ b) c ys ∙ append_assoc a b (c ++ ys)

pub game_read : (number : ℕ) (game : MadeGame) (ys : List ℕ) (at line : ℕ) (first : Bool) → IsTagValue (codes "gen " ++ decimal number) → AllMoveWords game.words
    → BeginsWith (game_text number game ++ ys) ys (codes "gen " ++ decimal number) (result_text game.last.side (standing_of game.last)) (termination_text (standing_of game.last)) game.words at line first
unfolding game_text tags_text
game_read number game ys at line first event all =
    let standing = standing_of game.last in
    let result = result_text game.last.side standing in
    let mark = result_of game.last.side standing in
    let termination = termination_text standing in
    let named = is_result game.last.side standing in
    let gen = codes "gen " ++ decimal number in
    let zs = result ++ 10 ∷ 10 ∷ ys in
    let line1 = tag_line (codes "Event") gen in
    let line2 = tag_line (codes "Result") result in
    let line3 = tag_line (codes "Termination") termination in
    let body = 10 ∷ (words_text game.words ++ zs) in
    let b = at + length line1 in
    let c = b + length line2 in
    let empty = c + length line3 in
    let d = empty + 1 in
    let e = d + length (words_text game.words) in
    let end = e + length result + 1 + 1 in
    let b_line = line_behind line (codes "Event") gen in
    let c_line = line_behind b_line (codes "Result") result in
    let empty_line = line_behind c_line (codes "Termination") termination in
    let d_line = line_after empty_line 10 in
    let e_line = fold line_after d_line (words_text game.words) in
    let end_line = line_after (line_after (fold line_after e_line result) 10) 10 in
    let text : game_text number game ++ ys ≡ line1 ++ (line2 ++ (line3 ++ body)) =
    five_and (tags_text number result termination) (codes "\n") (words_text game.words) result (codes "\n\n") ys ∙ three_and line1 line2 line3 body in
    let last : tokens_after 0 empty empty_line true body ≡ (placed_words (spot d d_line) game.words ++ a_word result (spot e e_line) ∷ []) ++ tokens_after 0 end end_line true ys =
    new_line (words_text game.words ++ zs) empty empty_line true
    ∙ words_read game.words zs d d_line e true all (result_starts result (10 ∷ 10 ∷ ys) mark named) refl
    ∙ ap (λ ts. placed_words (spot d d_line) game.words ++ ts) (result_read result ys e e_line false named.spelled)
    ∙ sym (append_assoc (placed_words (spot d d_line) game.words) (a_word result (spot e e_line) ∷ []) (tokens_after 0 end end_line true ys)) in
    let third = tag_read (codes "Termination") termination body c c_line empty true termination_name (termination_value standing) refl in
    let second = tag_read (codes "Result") result (line3 ++ body) b b_line c true result_name named.value refl in
    let whole = tag_read (codes "Event") gen (line2 ++ (line3 ++ body)) at line b first event_name event refl in
    let third' = third ∙ ap (λ ts. a_tag (codes "Termination") termination (spot c c_line) ∷ ts) last in
    let second' = second ∙ ap (λ ts. a_tag (codes "Result") result (spot b b_line) ∷ ts) third' in
    record {
      b = spot b b_line;
      c = spot c c_line;
      d = spot d d_line;
      e = spot e e_line;
      end = end;
      end_line = end_line;
      tokens_are = ap (tokens_after 0 at line first) text ∙ whole ∙ ap (λ ts. a_tag (codes "Event") gen (spot at line) ∷ ts) second';
    }
