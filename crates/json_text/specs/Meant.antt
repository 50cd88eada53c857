-- The value that a text means: each byte of a string is the character of its number (ISO 8859-1), and readers have it in UTF-8.
use Rattle.std.specs.Prelude.{◌≡◌, ℕ, ◌≤◌, List, flat_map, ⊤, Some}
use Rattle.std.specs.Char.{encode_utf8}
use Rattle.json.specs.Json.{Json, null, boolean, number, string, array, object, Items, no_items, item, Members, no_members, member, max_depth, document}
use Rattle.json.specs.Tree.{HasNumbers, depth}
use Rattle.json_text.specs.Escapes.{AreBytes}
use Rattle.json_text.specs.Texts.{json_text}

-- bytes as characters, in UTF-8
abbrev pub in_utf8 : List ℕ → List ℕ
in_utf8 bytes = flat_map encode_utf8 bytes

-- the same of each string and key of a value
abbrev mutual
  pub meant : Json → Json
  meant null = null
  meant (boolean b) = boolean b
  meant (number digits) = number digits
  meant (string bytes) = string (in_utf8 bytes)
  meant (array js) = array (items_meant js)
  meant (object ms) = object (members_meant ms)

  pub items_meant : Items → Items
  items_meant no_items = no_items
  items_meant (item j js) = item (meant j) (items_meant js)

  pub members_meant : Members → Members
  members_meant no_members = no_members
  members_meant (member name j ms) = member (in_utf8 name) (meant j) (members_meant ms)

-- the strings and keys of a value are bytes
abbrev mutual
  pub HasBytes : Json → Type 0
  HasBytes null = ⊤
  HasBytes (boolean b) = ⊤
  HasBytes (number digits) = ⊤
  HasBytes (string bytes) = AreBytes bytes
  HasBytes (array js) = ItemsHaveBytes js
  HasBytes (object ms) = MembersHaveBytes ms

  pub ItemsHaveBytes : Items → Type 0
  ItemsHaveBytes no_items = ⊤
  ItemsHaveBytes (item j js) = HasBytes j × ItemsHaveBytes js

  pub MembersHaveBytes : Members → Type 0
  MembersHaveBytes no_members = ⊤
  MembersHaveBytes (member name j ms) = AreBytes name × HasBytes j × MembersHaveBytes ms

-- The text of a value whose numbers are numbers, whose strings are bytes and which nests at most 128 deep is read as what it means.
abbrev pub ReadsBack : Json → Type 0
ReadsBack j = HasNumbers j → HasBytes j → depth j ≤ max_depth → document (json_text j) ≡ Some (meant j)
