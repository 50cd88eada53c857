-- The grammar reads the text of a value as the value that is meant.
use Rattle.std.proofs.Common.{◌≡◌, List, [], ◌∷◌, ◌++◌, map, option_and_then, suc, max, false, refl, ap, ap₂, ◌∙◌}
use Rattle.json.specs.Token.{Token}
use Rattle.json.specs.Lex.{punctuate, fresh, lex, between}
use Rattle.json.specs.Json.{Json, null, boolean, number, string, array, object, Items, no_items, item, Members, no_members, member, value, if_last, max_depth}
use Rattle.json.specs.Tree.{json_tokens, items_tokens, members_tokens, depth, items_depth, members_depth, HasNumbers, ItemsHaveNumbers, MembersHaveNumbers}
use Rattle.json.specs.Print as plainly
use Rattle.json.proofs.Printed.Trees.{document-print}
use Rattle.json_text.specs.Meant.{meant, items_meant, members_meant, HasBytes, ItemsHaveBytes, MembersHaveBytes, ReadsBack}
use Rattle.json_text.proofs.Lexed.{token_meant, AreWritable, same_lexemes}

writable_both : (ts us : List Token) → AreWritable ts → AreWritable us → AreWritable (ts ++ us)
writable_both [] us h k = k
writable_both (t ∷ ts) us h k = (h.0, writable_both ts us h.1 k)

mapped_both : (ts us : List Token) → map token_meant (ts ++ us) ≡ map token_meant ts ++ map token_meant us
mapped_both [] us = refl
mapped_both (t ∷ ts) us = ap (λ l. token_meant t ∷ l) (mapped_both ts us)

mutual
  pub writable : (j : Json) → HasNumbers j → HasBytes j → AreWritable (json_tokens j)
  writable null n b = (tt, tt)
  writable (boolean x) n b = (tt, tt)
  writable (number s) n b = (n, tt)
  writable (string s) n b = (b, tt)
  writable (array js) n b = (tt, items_writable js n b)
  writable (object ms) n b = (tt, members_writable ms n b)

  items_writable : (js : Items) → ItemsHaveNumbers js → ItemsHaveBytes js → AreWritable (items_tokens js)
  items_writable no_items n b = (tt, tt)
  items_writable (item j js) n b = writable_both _ _ (writable j n.0 b.0) (items_writable js n.1 b.1)

  members_writable : (ms : Members) → MembersHaveNumbers ms → MembersHaveBytes ms → AreWritable (members_tokens ms)
  members_writable no_members n b = (tt, tt)
  members_writable (member name j ms) n b = (b.0, writable_both _ _ (writable j n.0 b.1) (members_writable ms n.1 b.2))

mutual
  pub tokens_meant : (j : Json) → map token_meant (json_tokens j) ≡ json_tokens (meant j)
  tokens_meant null = refl
  tokens_meant (boolean x) = refl
  tokens_meant (number s) = refl
  tokens_meant (string s) = refl
  tokens_meant (array js) = ap (λ l. Token.begin_array ∷ l) (items_tokens_meant js)
  tokens_meant (object ms) = ap (λ l. Token.begin_object ∷ l) (members_tokens_meant ms)

  items_tokens_meant : (js : Items) → map token_meant (items_tokens js) ≡ items_tokens (items_meant js)
  items_tokens_meant no_items = refl
  items_tokens_meant (item j js) = mapped_both (json_tokens j) (items_tokens js) ∙ ap₂ (λ (a b : List Token). a ++ b) (tokens_meant j) (items_tokens_meant js)

  members_tokens_meant : (ms : Members) → map token_meant (members_tokens ms) ≡ members_tokens (members_meant ms)
  members_tokens_meant no_members = refl
  members_tokens_meant (member name j ms) =
      ap (λ l. token_meant (Token.key name) ∷ l) (mapped_both (json_tokens j) (members_tokens ms) ∙ ap₂ (λ (a b : List Token). a ++ b) (tokens_meant j) (members_tokens_meant ms))

mutual
  numbers_meant : (j : Json) → HasNumbers j → HasNumbers (meant j)
  numbers_meant null n = n
  numbers_meant (boolean x) n = n
  numbers_meant (number s) n = n
  numbers_meant (string s) n = n
  numbers_meant (array js) n = items_numbers_meant js n
  numbers_meant (object ms) n = members_numbers_meant ms n

  items_numbers_meant : (js : Items) → ItemsHaveNumbers js → ItemsHaveNumbers (items_meant js)
  items_numbers_meant no_items n = n
  items_numbers_meant (item j js) n = (numbers_meant j n.0, items_numbers_meant js n.1)

  members_numbers_meant : (ms : Members) → MembersHaveNumbers ms → MembersHaveNumbers (members_meant ms)
  members_numbers_meant no_members n = n
  members_numbers_meant (member name j ms) n = (numbers_meant j n.0, members_numbers_meant ms n.1)

mutual
  depth_meant : (j : Json) → depth (meant j) ≡ depth j
  depth_meant null = refl
  depth_meant (boolean x) = refl
  depth_meant (number s) = refl
  depth_meant (string s) = refl
  depth_meant (array js) = ap (λ d. suc d) (items_depth_meant js)
  depth_meant (object ms) = ap (λ d. suc d) (members_depth_meant ms)

  items_depth_meant : (js : Items) → items_depth (items_meant js) ≡ items_depth js
  items_depth_meant no_items = refl
  items_depth_meant (item j js) = ap₂ max (depth_meant j) (items_depth_meant js)

  members_depth_meant : (ms : Members) → members_depth (members_meant ms) ≡ members_depth ms
  members_depth_meant no_members = refl
  members_depth_meant (member name j ms) = ap₂ max (depth_meant j) (members_depth_meant ms)

pub reads_back : (j : Json) → ReadsBack j
reads_back j numbers bytes shallow =
    ap (λ ls. option_and_then (λ p. if_last p.0 p.1) (value max_depth (punctuate fresh ls)))
    (same_lexemes false (json_tokens j) (writable j numbers bytes) ∙ ap (λ ts. lex between (plainly.print ts)) (tokens_meant j))
    ∙ document-print (meant j) (numbers_meant j numbers) (rw (depth_meant j) shallow)
