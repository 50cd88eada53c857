-- The text of a value written part by part (RFC 8259).
use Rattle.std.specs.Prelude.{◌≡◌, ℕ, Bool, true, false, if◌then◌else◌, List, [], ◌∷◌, ◌++◌, Some, codes}
use Rattle.json.specs.Json.{Json, null, boolean, number, string, array, object, Items, no_items, item, Members, no_members, member, document}
use Rattle.json.specs.Tree.{HasNumbers, ItemsHaveNumbers, MembersHaveNumbers}
use Rattle.json_text.specs.Escapes.{AreBytes, quoted}
use Rattle.json_text.specs.Meant.{meant, HasBytes, ItemsHaveBytes, MembersHaveBytes}
use Rattle.json_text.specs.Texts.{json_text}
use Rattle.json_text.specs.declared.writer.JsonText.{JsonText}

-- a comma behind a value
abbrev pub comma : Bool → List ℕ
comma after_value = if after_value then 44 ∷ [] else []

-- a key, with its colon
abbrev pub key_text : List ℕ → List ℕ
key_text name = quoted name ++ 58 ∷ []

-- a value; and items or members to the bracket that closes them, behind a value or not
abbrev mutual
  pub value_text : Json → List ℕ
  value_text null = codes "null"
  value_text (boolean true) = codes "true"
  value_text (boolean false) = codes "false"
  value_text (number digits) = digits
  value_text (string bytes) = quoted bytes
  value_text (array js) = 91 ∷ items_text false js
  value_text (object ms) = 123 ∷ members_text false ms

  pub items_text : Bool → Items → List ℕ
  items_text after_value no_items = 93 ∷ []
  items_text after_value (item j js) = comma after_value ++ (value_text j ++ items_text true js)

  pub members_text : Bool → Members → List ℕ
  members_text after_value no_members = 125 ∷ []
  members_text after_value (member name j ms) = comma after_value ++ (key_text name ++ (value_text j ++ members_text true ms))

-- what can be read back: its numbers are numbers, and its strings are of bytes
abbrev pub IsReadable : Json → Type 0
IsReadable j = HasNumbers j × HasBytes j

abbrev pub AllReadable : Items → Type 0
AllReadable js = ItemsHaveNumbers js × ItemsHaveBytes js

abbrev pub AreReadable : Members → Type 0
AreReadable ms = MembersHaveNumbers ms × MembersHaveBytes ms

-- one more value was written, which can be read back
pub record IsValue (old : JsonText) (j : Json) (new : JsonText) : Type 0 where
  pub text : new.text ≡ old.text ++ (comma old.after_value ++ value_text j)
  pub after : new.after_value ≡ true
  pub readable : IsReadable j

-- one more member was written, which can be read back
pub record IsMember (old : JsonText) (name : List ℕ) (j : Json) (new : JsonText) : Type 0 where
  pub text : new.text ≡ old.text ++ (comma old.after_value ++ (key_text name ++ value_text j))
  pub after : new.after_value ≡ true
  pub named : AreBytes name
  pub readable : IsReadable j

-- what stands once these members and the bracket behind them are written
unfoldable pub closed_by : JsonText → Members → List ℕ
closed_by now ms = now.text ++ members_text now.after_value ms

-- what stands once these items and the bracket behind them are written
abbrev pub ended_by : JsonText → Items → List ℕ
ended_by now js = now.text ++ items_text now.after_value js

-- The members that were to be written before are those that were written and those that are to be written now. They can be read back if these
-- can.
pub record Leads (old : JsonText) (ms : Members) (new : JsonText) (more : Members) : Type 0 where
  pub text : closed_by old ms ≡ closed_by new more
  pub readable : AreReadable more → AreReadable ms

-- the same of items
pub record ItemsLead (old : JsonText) (js : Items) (new : JsonText) (more : Items) : Type 0 where
  pub text : ended_by old js ≡ ended_by new more
  pub readable : AllReadable more → AllReadable js

-- the text of a value is read, by the grammar of RFC 8259, as the value that is meant
abbrev pub ReadsAs : Json → Type 0
ReadsAs j = document (json_text j) ≡ Some (meant j)
