-- The lexer makes of a text what it makes of the text that the kit's writer gives for the value that is meant.
use Rattle.std.proofs.Common.{◌≡◌, ℕ, Bool, true, false, cond, ◌&&◌, List, [], ◌∷◌, ◌++◌, map, refl, sym, ap, ap₂, ◌∙◌, append_assoc}
use Rattle.json.specs.Token.{Token, begin_object, end_object, begin_array, end_array, key, string, number, boolean, null, bad}
use Rattle.json.specs.Word.{ends_word, word}
use Rattle.json.specs.Lex.{token, comma, colon, string_token, lex, between}
use Rattle.json.specs.Print as plainly
use Rattle.json.proofs.Printed.Strings.{content-escape, lex-escape}
use Rattle.json.proofs.Printed.Numbers.{lex-number, in_word-ended}
use Rattle.json_text.specs.Escapes.{escaped, quoted, AreBytes}
use Rattle.json_text.specs.Texts.{token_text, text_from, IsWritable}
use Rattle.json_text.specs.Meant.{in_utf8}
use Rattle.json_text.proofs.Passing.{content-escaped, lex-escaped}

-- a token with the characters of its bytes
abbrev pub token_meant : Token → Token
token_meant (key name) = key (in_utf8 name)
token_meant (string bytes) = string (in_utf8 bytes)
token_meant begin_object = begin_object
token_meant end_object = end_object
token_meant begin_array = begin_array
token_meant end_array = end_array
token_meant (number digits) = number digits
token_meant (boolean b) = boolean b
token_meant null = null
token_meant bad = bad

-- tokens that can be read back
abbrev pub AreWritable : List Token → Type 0
AreWritable [] = Unit {0}
AreWritable (t ∷ ts) = IsWritable t × AreWritable ts

-- a string, in both texts
quoted_lexed : (bytes r : List ℕ) → AreBytes bytes → lex between (quoted bytes ++ r) ≡ token (string (in_utf8 bytes)) ∷ lex between r
unfolding lex
quoted_lexed bytes r h =
    ap (λ l. lex between (34 ∷ l)) (append_assoc (escaped bytes) (34 ∷ []) r)
    ∙ ap₂ (λ o l. token (string_token o) ∷ l) (content-escaped bytes r h) (lex-escaped bytes r h)

plainly_quoted_lexed : (s r : List ℕ) → lex between (plainly.quoted s ++ r) ≡ token (string s) ∷ lex between r
unfolding lex
plainly_quoted_lexed s r =
    ap (λ l. lex between (34 ∷ l)) (append_assoc (plainly.escape s) (34 ∷ []) r)
    ∙ ap₂ (λ o l. token (string_token o) ∷ l) (content-escape s r) (lex-escape s r)

-- the same token, and behind it texts of which the lexer makes the same
one_token : (t : Token) (r s : List ℕ) → IsWritable t → lex between r ≡ lex between s → (plainly.ends t ≡ true → (ends_word r ≡ true) × (ends_word s ≡ true))
    → lex between (token_text t ++ r) ≡ lex between (plainly.token_text (token_meant t) ++ s)
unfolding lex word
one_token begin_object r s h e ended = ap (λ l. token begin_object ∷ l) e
one_token end_object r s h e ended = ap (λ l. token end_object ∷ l) e
one_token begin_array r s h e ended = ap (λ l. token begin_array ∷ l) e
one_token end_array r s h e ended = ap (λ l. token end_array ∷ l) e
one_token (key name) r s h e ended =
    ap (lex between) (append_assoc (quoted name) (58 ∷ []) r) ∙ quoted_lexed name (58 ∷ r) h
    ∙ ap (λ l. token (string (in_utf8 name)) ∷ colon ∷ l) e
    ∙ sym (ap (lex between) (append_assoc (plainly.quoted (in_utf8 name)) (58 ∷ []) s) ∙ plainly_quoted_lexed (in_utf8 name) (58 ∷ s))
one_token (string bytes) r s h e ended = quoted_lexed bytes r h ∙ ap (λ l. token (string (in_utf8 bytes)) ∷ l) e ∙ sym (plainly_quoted_lexed (in_utf8 bytes) s)
one_token (number digits) r s h e ended =
    lex-number digits r h (ended refl).0 ∙ ap (λ l. token (number digits) ∷ l) e ∙ sym (lex-number digits s h (ended refl).1)
one_token (boolean true) r s h e ended =
    ap₂ (λ b l. token (cond b (boolean true) bad) ∷ l) ((ended refl).0 ∙ sym (ended refl).1) (in_word-ended r (ended refl).0 ∙ e ∙ sym (in_word-ended s (ended refl).1))
one_token (boolean false) r s h e ended =
    ap₂ (λ b l. token (cond b (boolean false) bad) ∷ l) ((ended refl).0 ∙ sym (ended refl).1) (in_word-ended r (ended refl).0 ∙ e ∙ sym (in_word-ended s (ended refl).1))
one_token null r s h e ended =
    ap₂ (λ b l. token (cond b null bad) ∷ l) ((ended refl).0 ∙ sym (ended refl).1) (in_word-ended r (ended refl).0 ∙ e ∙ sym (in_word-ended s (ended refl).1))
one_token bad r s h e ended = absurd h

-- behind a value stand a comma, a closing bracket or nothing
behind_ends : (ts : List Token) → ends_word (text_from true ts) ≡ true
unfolding text_from
behind_ends [] = refl
behind_ends (begin_object ∷ ts) = refl
behind_ends (end_object ∷ ts) = refl
behind_ends (begin_array ∷ ts) = refl
behind_ends (end_array ∷ ts) = refl
behind_ends (key s ∷ ts) = refl
behind_ends (string s ∷ ts) = refl
behind_ends (number s ∷ ts) = refl
behind_ends (boolean b ∷ ts) = refl
behind_ends (null ∷ ts) = refl
behind_ends (bad ∷ ts) = refl

plainly_ends : (ts : List Token) → ends_word (plainly.print_from true ts) ≡ true
unfolding plainly.print_from
plainly_ends [] = refl
plainly_ends (begin_object ∷ ts) = refl
plainly_ends (end_object ∷ ts) = refl
plainly_ends (begin_array ∷ ts) = refl
plainly_ends (end_array ∷ ts) = refl
plainly_ends (key s ∷ ts) = refl
plainly_ends (string s ∷ ts) = refl
plainly_ends (number s ∷ ts) = refl
plainly_ends (boolean b ∷ ts) = refl
plainly_ends (null ∷ ts) = refl
plainly_ends (bad ∷ ts) = refl

same_ends : (t : Token) → plainly.ends (token_meant t) ≡ plainly.ends t
same_ends begin_object = refl
same_ends end_object = refl
same_ends begin_array = refl
same_ends end_array = refl
same_ends (key s) = refl
same_ends (string s) = refl
same_ends (number s) = refl
same_ends (boolean b) = refl
same_ends null = refl
same_ends bad = refl

same_begins : (t : Token) → plainly.begins (token_meant t) ≡ plainly.begins t
same_begins begin_object = refl
same_begins end_object = refl
same_begins begin_array = refl
same_begins end_array = refl
same_begins (key s) = refl
same_begins (string s) = refl
same_begins (number s) = refl
same_begins (boolean b) = refl
same_begins null = refl
same_begins bad = refl

separated : (b : Bool) (r s : List ℕ) → lex between r ≡ lex between s → lex between (cond b (44 ∷ []) [] ++ r) ≡ lex between (cond b (44 ∷ []) [] ++ s)
unfolding lex
separated true r s e = ap (λ l. comma ∷ l) e
separated false r s e = e

pub same_lexemes : (c : Bool) (ts : List Token) → AreWritable ts → lex between (text_from c ts) ≡ lex between (plainly.print_from c (map token_meant ts))
unfolding text_from plainly.print_from
same_lexemes c [] h = refl
same_lexemes c (t ∷ ts) h =
    let r = text_from (plainly.ends t) ts in
    let s = plainly.print_from (plainly.ends (token_meant t)) (map token_meant ts) in
    let same : lex between r ≡ lex between s = same_lexemes (plainly.ends t) ts h.1 ∙ ap (λ b. lex between (plainly.print_from b (map token_meant ts))) (sym (same_ends t)) in
    let ended : plainly.ends t ≡ true → (ends_word r ≡ true) × (ends_word s ≡ true) = λ e. (
      ap (λ b. ends_word (text_from b ts)) e ∙ behind_ends ts,
      ap (λ b. ends_word (plainly.print_from b (map token_meant ts))) (same_ends t ∙ e) ∙ plainly_ends (map token_meant ts),
    ) in
    separated (c && plainly.begins t) _ _ (one_token t r s h.0 same ended)
    ∙ ap (λ b. lex between (cond (c && b) (44 ∷ []) [] ++ (plainly.token_text (token_meant t) ++ s))) (sym (same_begins t))
