-- The text of a value, token by token.
use Rattle.std.proofs.Common.{◌≡◌, ◌≤◌, ℕ, Bool, true, false, List, [], ◌∷◌, ◌++◌, Some, refl, sym, ap, ◌∙◌, append_assoc, append-nil}
use Rattle.json.specs.Json.{Json, null, boolean, number, string, array, object, Items, no_items, item, Members, no_members, member, max_depth, document}
use Rattle.json.specs.Token.{Token}
use Rattle.json.specs.Tree.{json_tokens, items_tokens, members_tokens, depth}
use Rattle.json.specs.Print as plainly
use Rattle.json_text.specs.Texts.{text_from, token_text, json_text, IsPut}
use Rattle.json_text.specs.Meant.{meant}
use Rattle.json_text.proofs.Reading.{reads_back}
use Rattle.json_text.specs.declared.writer.JsonText.{JsonText}
use Rattle.json_report.specs.Spelled.{comma, key_text, value_text, items_text, members_text, IsValue, IsMember, Leads, ItemsLead, closed_by, ended_by}

-- a bracket that opens an object, and members behind it
pub opened : (old new : JsonText) (ms : Members) → IsPut old Token.begin_object new → closed_by new ms ≡ old.text ++ (comma old.after_value ++ value_text (object ms))
unfolding closed_by
opened old new ms put = opened_by old.after_value old.text new.text new.after_value put.text put.after ms
  where
    opened_by : (a : Bool) (t t' : List ℕ) (a' : Bool) → t' ≡ t ++ (plainly.separator a Token.begin_object ++ token_text Token.begin_object) → a' ≡ plainly.ends Token.begin_object → (ms : Members)
        → t' ++ members_text a' ms ≡ t ++ (comma a ++ (123 ∷ members_text false ms))
    opened_by true t t' a' e f ms = rw (e, f) (append_assoc t (44 ∷ 123 ∷ []) (members_text false ms))
    opened_by false t t' a' e f ms = rw (e, f) (append_assoc t (123 ∷ []) (members_text false ms))

-- what is written in one step and then in another
infixr 10 ◌then◌
pub ◌then◌ : {old between new : JsonText} {ms further more : Members} → Leads old ms between further → Leads between further new more → Leads old ms new more
first then last = record { text = first.text ∙ last.text; readable = λ r. first.readable (last.readable r) }

infixr 10 ◌before◌
pub ◌before◌ : {old between new : JsonText} {js further more : Items} → ItemsLead old js between further → ItemsLead between further new more → ItemsLead old js new more
first before last = record { text = first.text ∙ last.text; readable = λ r. first.readable (last.readable r) }

-- nothing is written
pub stays : (json : JsonText) (ms : Members) → Leads json ms json ms
stays json ms = record { text = refl; readable = λ r. r }

next_text : (old new : JsonText) (name : List ℕ) (j : Json) (ms : Members) → IsMember old name j new → closed_by old (member name j ms) ≡ closed_by new ms
unfolding closed_by
next_text old new name j ms is = rw (is.text, is.after) (simp (append_assoc) refl)

pub items_stay : (json : JsonText) (js : Items) → ItemsLead json js json js
items_stay json js = record { text = refl; readable = λ r. r }

-- one member more
pub next : (old new : JsonText) (name : List ℕ) (j : Json) (ms : Members) → IsMember old name j new → Leads old (member name j ms) new ms
next old new name j ms is = record { text = next_text old new name j ms is; readable = λ r. ((is.readable.0, r.0), (is.named, is.readable.1, r.1)) }

-- the bracket that closes it
pub closed : (old new : JsonText) → IsPut old Token.end_object new → closed_by old no_members ≡ new.text
unfolding closed_by
closed old new put = closed_after old.after_value old.text new.text put.text
  where
    closed_after : (a : Bool) (t t' : List ℕ) → t' ≡ t ++ (plainly.separator a Token.end_object ++ token_text Token.end_object) → t ++ (125 ∷ []) ≡ t'
    closed_after true t t' e = sym e
    closed_after false t t' e = sym e

-- a whole object
pub whole : (old first last new : JsonText) (ms : Members) → IsPut old Token.begin_object first → Leads first ms last no_members → IsPut last Token.end_object new → IsValue old (object ms) new
whole old first last new ms begins through ends = record {
  text = sym (sym (opened old first ms begins) ∙ through.text ∙ closed last new ends);
  after = ends.after;
  readable = through.readable (tt, tt);
}

-- a bracket that opens an array, and items behind it
pub array_opened : (old new : JsonText) (js : Items) → IsPut old Token.begin_array new → ended_by new js ≡ old.text ++ (comma old.after_value ++ value_text (array js))
array_opened old new js put = opened_by old.after_value old.text new.text new.after_value put.text put.after js
  where
    opened_by : (a : Bool) (t t' : List ℕ) (a' : Bool) → t' ≡ t ++ (plainly.separator a Token.begin_array ++ token_text Token.begin_array) → a' ≡ plainly.ends Token.begin_array → (js : Items)
        → t' ++ items_text a' js ≡ t ++ (comma a ++ (91 ∷ items_text false js))
    opened_by true t t' a' e f js = rw (e, f) (append_assoc t (44 ∷ 91 ∷ []) (items_text false js))
    opened_by false t t' a' e f js = rw (e, f) (append_assoc t (91 ∷ []) (items_text false js))

-- one item more
pub next_item : (old new : JsonText) (j : Json) (js : Items) → IsValue old j new → ItemsLead old (item j js) new js
next_item old new j js is = record { text = rw (is.text, is.after) (simp (append_assoc) refl); readable = λ r. ((is.readable.0, r.0), (is.readable.1, r.1)) }

-- so is a number
pub number_is : (old new : JsonText) (digits : List ℕ) → IsPut old (Token.number digits) new → IsValue old (number digits) new
number_is old new digits put = number_by old.after_value old new digits refl put
  where
    number_by : (a : Bool) (old new : JsonText) (digits : List ℕ) → old.after_value ≡ a → IsPut old (Token.number digits) new → IsValue old (number digits) new
    number_by true old new digits e put = record { text = rw e (rw e at put.text); after = put.after; readable = (put.writable, tt) }
    number_by false old new digits e put = record { text = rw e (rw e at put.text); after = put.after; readable = (put.writable, tt) }

-- the bracket that closes it
pub array_closed : (old new : JsonText) → IsPut old Token.end_array new → ended_by old no_items ≡ new.text
array_closed old new put = closed_after old.after_value old.text new.text put.text
  where
    closed_after : (a : Bool) (t t' : List ℕ) → t' ≡ t ++ (plainly.separator a Token.end_array ++ token_text Token.end_array) → t ++ (93 ∷ []) ≡ t'
    closed_after true t t' e = sym e
    closed_after false t t' e = sym e

-- a whole array
pub whole_array : (old first last new : JsonText) (js : Items) → IsPut old Token.begin_array first → ItemsLead first js last no_items → IsPut last Token.end_array new → IsValue old (array js) new
whole_array old first last new js begins through ends = record {
  text = sym (sym (array_opened old first js begins) ∙ through.text ∙ array_closed last new ends);
  after = ends.after;
  readable = through.readable (tt, tt);
}

-- a key and a value are a member
pub keyed : (old between new : JsonText) (name : List ℕ) (j : Json) → IsPut old (Token.key name) between → IsValue between j new → IsMember old name j new
keyed old between new name j put is = keyed_by old.after_value old between new name j refl put is
  where
    keyed_by : (a : Bool) (old between new : JsonText) (name : List ℕ) (j : Json) → old.after_value ≡ a → IsPut old (Token.key name) between → IsValue between j new → IsMember old name j new
    keyed_by true old between new name j e put is =
        let text = rw e at put.text in
        let after = put.after in
        record { text = is.text ∙ rw (text, after, e) (simp (append_assoc) refl); after = is.after; named = put.writable; readable = is.readable }
    keyed_by false old between new name j e put is =
        let text = rw e at put.text in
        let after = put.after in
        record { text = is.text ∙ rw (text, after, e) (simp (append_assoc) refl); after = is.after; named = put.writable; readable = is.readable }

-- the text of a value, as tokens
mutual
  unfolding text_from

  spelled_value : (a : Bool) (j : Json) (ts : List Token) → text_from a (json_tokens j ++ ts) ≡ comma a ++ (value_text j ++ text_from true ts)
  spelled_value true null ts = refl
  spelled_value false null ts = refl
  spelled_value true (boolean true) ts = refl
  spelled_value true (boolean false) ts = refl
  spelled_value false (boolean true) ts = refl
  spelled_value false (boolean false) ts = refl
  spelled_value true (number digits) ts = refl
  spelled_value false (number digits) ts = refl
  spelled_value true (string bytes) ts = refl
  spelled_value false (string bytes) ts = refl
  spelled_value true (array js) ts = ap (λ x. 44 ∷ 91 ∷ x) (spelled_items false js ts)
  spelled_value false (array js) ts = ap (λ x. 91 ∷ x) (spelled_items false js ts)
  spelled_value true (object ms) ts = ap (λ x. 44 ∷ 123 ∷ x) (spelled_members false ms ts)
  spelled_value false (object ms) ts = ap (λ x. 123 ∷ x) (spelled_members false ms ts)

  spelled_items : (a : Bool) (js : Items) (ts : List Token) → text_from a (items_tokens js ++ ts) ≡ items_text a js ++ text_from true ts
  spelled_items true no_items ts = refl
  spelled_items false no_items ts = refl
  spelled_items a (item j js) ts =
      ap (text_from a) (append_assoc (json_tokens j) (items_tokens js) ts)
      ∙ spelled_value a j (items_tokens js ++ ts)
      ∙ ap (λ x. comma a ++ (value_text j ++ x)) (spelled_items true js ts)
      ∙ simp (append_assoc) refl

  spelled_members : (a : Bool) (ms : Members) (ts : List Token) → text_from a (members_tokens ms ++ ts) ≡ members_text a ms ++ text_from true ts
  spelled_members true no_members ts = refl
  spelled_members false no_members ts = refl
  spelled_members true (member name j ms) ts =
      ap (λ x. 44 ∷ (key_text name ++ x)) (ap (text_from false) (append_assoc (json_tokens j) (members_tokens ms) ts)
      ∙ spelled_value false j (members_tokens ms ++ ts)
      ∙ ap (λ x. value_text j ++ x) (spelled_members true ms ts))
      ∙ simp (append_assoc) refl
  spelled_members false (member name j ms) ts =
      ap (λ x. key_text name ++ x) (ap (text_from false) (append_assoc (json_tokens j) (members_tokens ms) ts)
      ∙ spelled_value false j (members_tokens ms ++ ts)
      ∙ ap (λ x. value_text j ++ x) (spelled_members true ms ts))
      ∙ simp (append_assoc) refl

pub spelled : (j : Json) → json_text j ≡ value_text j
unfolding text_from
spelled j = sym (ap (text_from false) (append-nil (json_tokens j))) ∙ spelled_value false j [] ∙ append-nil (value_text j)

-- a whole line
pub lined : (first last : JsonText) (j : Json) (old between new : List ℕ) → first.text ≡ [] → first.after_value ≡ false → IsValue first j last → between ≡ old ++ last.text → new ≡ between ++ 10 ∷ [] → new ≡ old ++ (json_text j ++ 10 ∷ [])
lined first last j old between new empty fresh is copied fed = rw (fed, copied, is.text, empty, fresh, spelled j) (append_assoc old (value_text j) (10 ∷ []))

-- what was written of a whole text reads back, if it nests no deeper than the grammar allows
pub reads_back_from : (first last : JsonText) (j : Json) → IsValue first j last → depth j ≤ max_depth → document (json_text j) ≡ Some (meant j)
reads_back_from first last j is shallow = reads_back j is.readable.0 is.readable.1 shallow
