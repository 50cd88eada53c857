-- What readers make of an escaped byte and of an escaped string.
use Rattle.std.proofs.Common.{◌≡◌, ◌≢◌, ℕ, ◌+◌, ◌*◌, ◌/◌, ◌%◌, ◌<◌, ◌≤◌, Bool, true, false, cond, List, [], ◌∷◌, ◌++◌, Some, refl, ap, ◌∙◌, arith, append_assoc}
use Rattle.std.proofs.lemmas.Bool.{ne_eqb, lt-ltb, le-ltb, lt-leb, and_parts, not-true, eqb-false, ltb-true, leb-true}
use Rattle.std.proofs.lemmas.Str.{encode_ascii, digit_value-digit_char}
use Rattle.std.specs.Char.{digit_char, encode_utf8}
use Rattle.json.specs.Text.{content, plain, prepend, code_unit}
use Rattle.json.specs.Word.{is_operator, is_space}
use Rattle.json.specs.Lex.{Lexeme, Mode, lex, lex_byte, between, in_string, operator, space, other}
use Rattle.json_text.specs.Escapes.{is_plain, escaped_byte, escaped, AreBytes}
use Rattle.json_text.specs.Meant.{in_utf8}

-- readers of a string take the escape of a byte for the character of its number, and stay in the string
pub record Passes (x : ℕ) : Type 0 where
  pub read : (r : List ℕ) → content plain (escaped_byte x ++ r) ≡ prepend (encode_utf8 x) (content plain r)
  pub lexed : (r : List ℕ) → lex in_string (escaped_byte x ++ r) ≡ lex in_string r

any_class : (o s : Bool) (x : ℕ) (r : List ℕ) (k : Mode → List Lexeme) → lex_byte in_string (cond o operator (cond s space other)) x r k ≡ k in_string
any_class true s x r k = refl
any_class false true x r k = refl
any_class false false x r k = refl

stays : (x : ℕ) (r : List ℕ) → x ≢ 34 → x ≢ 92 → lex in_string (x ∷ r) ≡ lex in_string r
unfolding lex
stays x r q b = rw (ne_eqb x 34 q, ne_eqb x 92 b) (any_class (is_operator x) (is_space x) x r (λ m. lex m r))

digit_apart : (d : ℕ) → d < 16 → (digit_char d ≢ 34) × (digit_char d ≢ 92)
digit_apart d h = grind arith

hex_value : (x : ℕ) → x < 256 → code_unit 48 48 (digit_char (x / 16)) (digit_char (x % 16)) ≡ Some x
unfolding code_unit
hex_value x h =
    let high : x / 16 < 16 = omega arith in
    let low : x % 16 < 16 = omega arith in
    let whole : 0 * 4096 + 0 * 256 + x / 16 * 16 + x % 16 ≡ x = omega arith in
    rw (digit_value-digit_char (x / 16) (omega arith), digit_value-digit_char (x % 16) (omega arith), lt-ltb (x / 16) 16 high, lt-ltb (x % 16) 16 low) (ap Some whole)

by_number : (x : ℕ) → x < 256 → escaped_byte x ≡ 92 ∷ 117 ∷ 48 ∷ 48 ∷ digit_char (x / 16) ∷ digit_char (x % 16) ∷ [] → Passes x
unfolding content lex
by_number x h e =
    let high = digit_apart (x / 16) (omega arith) in
    let low = digit_apart (x % 16) (omega arith) in
    record {
      read = λ r. rw (e, hex_value x h, lt-leb 0xd800 x (omega arith), lt-leb 0xdc00 x (omega arith));
      lexed = λ r. rw e (stays _ _ high.0 high.1 ∙ stays _ r low.0 low.1);
    }

by_itself : (x : ℕ) → 32 ≤ x → x < 127 → x ≢ 34 → x ≢ 92 → escaped_byte x ≡ x ∷ [] → Passes x
unfolding content
by_itself x low high q b e =
    record {
      read = λ r. rw (e, ne_eqb x 34 q, ne_eqb x 92 b, le-ltb x 32 low, encode_ascii x (omega arith));
      lexed = λ r. rw e (stays x r q b);
    }

-- the tests of a byte that stands for itself
plain_is : (x : ℕ) → is_plain x ≡ true → (32 ≤ x) × (x < 127) × (x ≢ 34) × (x ≢ 92)
plain_is x h =
    let last = and_parts _ _ h in
    let third = and_parts _ _ last.0 in
    let first = and_parts _ _ third.0 in
    (leb-true 32 x first.0, ltb-true x 127 first.1, eqb-false x 34 (not-true _ third.1), eqb-false x 92 (not-true _ last.1))

by_test : (x : ℕ) (b : Bool) → x < 256 → is_plain x ≡ b → Passes x
unfolding escaped_byte
by_test x true h e = let is = plain_is x e in by_itself x is.0 is.1 is.2 is.3 (rw e)
by_test x false h e = by_number x h (rw e)

pub passes : (x : ℕ) → x < 256 → Passes x
passes x h = by_test x (is_plain x) h refl

-- a string is read whole, and the lexer goes on behind its quotation mark
pub content-escaped : (bytes r : List ℕ) → AreBytes bytes → content plain (escaped bytes ++ 34 ∷ r) ≡ Some (in_utf8 bytes)
unfolding content
content-escaped [] r h = refl
content-escaped (x ∷ xs) r h =
    ap (content plain) (append_assoc (escaped_byte x) (escaped xs) (34 ∷ r)) ∙ (passes x h.0).read _ ∙ ap (prepend (encode_utf8 x)) (content-escaped xs r h.1)

pub lex-escaped : (bytes r : List ℕ) → AreBytes bytes → lex in_string (escaped bytes ++ 34 ∷ r) ≡ lex between r
unfolding lex
lex-escaped [] r h = refl
lex-escaped (x ∷ xs) r h = ap (lex in_string) (append_assoc (escaped_byte x) (escaped xs) (34 ∷ r)) ∙ (passes x h.0).lexed _ ∙ lex-escaped xs r h.1
