-- The text of a value in JSON, without blanks (RFC 8259).
use Rattle.std.specs.Prelude.{◌≡◌, ℕ, Bool, false, List, [], ◌∷◌, ◌++◌, ⊤}
use Rattle.json.specs.Token.{Token, begin_object, end_object, begin_array, end_array, key, string, number, boolean, null, bad}
use Rattle.json.specs.Print as plainly
use Rattle.json.specs.Json.{Json}
use Rattle.json.specs.Tree.{json_tokens}
use Rattle.json_text.specs.Escapes.{AreBytes, quoted}
use Rattle.json_text.specs.declared.writer.JsonText.{JsonText}

-- A token. A key has its colon.
abbrev pub token_text : Token → List ℕ
token_text begin_object = plainly.token_text begin_object
token_text end_object = plainly.token_text end_object
token_text begin_array = plainly.token_text begin_array
token_text end_array = plainly.token_text end_array
token_text (key name) = quoted name ++ 58 ∷ []
token_text (string bytes) = quoted bytes
token_text (number digits) = plainly.token_text (number digits)
token_text (boolean b) = plainly.token_text (boolean b)
token_text null = plainly.token_text null
token_text bad = []

-- tokens, with a comma between the end of a value and the beginning of the next; whether a value ended right before them
unfoldable pub text_from : Bool → List Token → List ℕ
text_from after_value [] = []
text_from after_value (t ∷ ts) = plainly.separator after_value t ++ (token_text t ++ text_from (plainly.ends t) ts)

-- a value
abbrev pub json_text : Json → List ℕ
json_text j = text_from false (json_tokens j)

-- a token that can be read back: its number is a number, and its string is of bytes
abbrev pub IsWritable : Token → Type 0
IsWritable begin_object = ⊤
IsWritable end_object = ⊤
IsWritable begin_array = ⊤
IsWritable end_array = ⊤
IsWritable (key name) = AreBytes name
IsWritable (string bytes) = AreBytes bytes
IsWritable (number digits) = plainly.IsNumber digits
IsWritable (boolean b) = ⊤
IsWritable null = ⊤
IsWritable bad = ⊥

-- one more token was written, which can be read back
pub record IsPut (old : JsonText) (t : Token) (new : JsonText) : Type 0 where
  pub text : new.text ≡ old.text ++ (plainly.separator old.after_value t ++ token_text t)
  pub after : new.after_value ≡ plainly.ends t
  pub writable : IsWritable t
