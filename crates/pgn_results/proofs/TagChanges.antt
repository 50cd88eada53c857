-- A tag pair with another value.
use Rattle.std.proofs.Common.{◌≡◌, ℕ, ◌==◌, Bool, true, false, not, ◌||◌, if◌then◌else◌, List, [], ◌∷◌, ◌++◌, Option, Some, None, refl, sym, ap, ◌∙◌, append_assoc}
use Rattle.std.proofs.lemmas.Bool.{eqb-true}
use Rattle.cha_list.specs.declared.classes.Class.TheVariants.{Blank, InLine}
use Rattle.cha_list.specs.Bytes.{in_class}
use Rattle.pgn_lex.specs.declared.classes.PgnClass.TheVariants.{NameByte}
use Rattle.pgn_lex.specs.Classes.{in_pgn_class}
use Rattle.pgn_lex.specs.Tags.{◌>>=◌, Read, TagRead, onto, past_blanks, past_byte, name_at, value_after, tag_at}
use Rattle.pgn_lex.proofs.TagStages.{tag_valued, tag_in_value, tag_named, tag_in_name}
use Rattle.pgn_lex.proofs.TagSteps.{valued_blank, valued_closes, valued_breaks, named_blank, named_opens, named_breaks, name_goes_on, name_ends, opened_blank, opened_name, opened_breaks}
use Rattle.pgn_games.specs.declared.marks.ResultMark.{ResultMark}
use Rattle.pgn_games.specs.declared.marks.ResultMark.TheVariants.{WhiteWins, BlackWins, Draw, Unknown}
use Rattle.pgn_games.specs.Cutting.{mark_text}
use Rattle.pgn_results.specs.Replacing.{past_value, with_value}

-- a chain that answers
bind_some : {A B : Type 0} (o : Option A) (f : A → Option B) (y : B) → (o >>= f) ≡ Some y → (x : A) × (o ≡ Some x) × (f x ≡ Some y)
bind_some None f y e = cc
bind_some (Some x) f y e = (x, refl, e)

onto_some : (b : ℕ) (o : Option Read) (r : Read) → onto b o ≡ Some r → (s : Read) × (o ≡ Some s) × (s.rest ≡ r.rest)
onto_some b None r e = cc
onto_some b (Some s) r e = (s, refl, cc)

-- bytes that end with a byte before others
abbrev pub EndsWith : ℕ → List ℕ → List ℕ → Type 0
EndsWith c bs rest = (z : List ℕ) × (bs ≡ z ++ c ∷ rest)

one_more_before : (c b : ℕ) (bs rest : List ℕ) → EndsWith c bs rest → EndsWith c (b ∷ bs) rest
one_more_before c b bs rest (z, e) = (b ∷ z, ap (λ xs. b ∷ xs) e)

more_before : (c : ℕ) (xs bs rest : List ℕ) → EndsWith c bs rest → EndsWith c (xs ++ bs) rest
more_before c [] bs rest h = h
more_before c (x ∷ xs) bs rest h = one_more_before c x (xs ++ bs) rest (more_before c xs bs rest h)

-- the closing quote of a value
abbrev Closes : Bool → List ℕ → Read → Type 0
Closes escaped bs r = past_value escaped bs ≡ 34 ∷ r.rest × EndsWith 34 bs r.rest

plain_closes : (q l s : Bool) (b : ℕ) (bs : List ℕ) (r : Read) → (b == 34) ≡ q → (b == 92) ≡ s
    → (if q then Some (record { text = []; rest = bs }) else (if l then None else (if s then value_after true bs else onto b (value_after false bs)))) ≡ Some r
    → ((r : Read) → value_after true bs ≡ Some r → Closes true bs r) → ((r : Read) → value_after false bs ≡ Some r → Closes false bs r) → Closes false (b ∷ bs) r
unfolding past_value
plain_closes true l s b bs r d f e g h =
    let is = eqb-true b 34 d in
    let same : bs ≡ r.rest = cc in
    (rw d (ap (λ x. x ∷ bs) is ∙ ap (λ xs. 34 ∷ xs) same), ([], ap (λ x. x ∷ bs) is ∙ ap (λ xs. 34 ∷ xs) same))
plain_closes false true s b bs r d f e g h = cc
plain_closes false false true b bs r d f e g h =
    let x = g r e in
    (rw (d, f) (x.0), one_more_before 34 b bs r.rest (x.1))
plain_closes false false false b bs r d f e g h =
    let o = onto_some b (value_after false bs) r e in
    let x = h o.0 o.1 in
    (rw (d, f) (x.0 ∙ ap (λ xs. 34 ∷ xs) o.2), (b ∷ x.1.0, ap (λ xs. b ∷ xs) (x.1.1 ∙ ap (λ xs. x.1.0 ++ 34 ∷ xs) o.2)))

escaped_closes : (q l : Bool) (b : ℕ) (bs : List ℕ) (r : Read) → (if q then onto b (value_after false bs) else (if l then None else onto 92 (onto b (value_after false bs)))) ≡ Some r
    → ((r : Read) → value_after false bs ≡ Some r → Closes false bs r) → Closes true (b ∷ bs) r
unfolding past_value
escaped_closes true l b bs r e h =
    let o = onto_some b (value_after false bs) r e in
    let x = h o.0 o.1 in
    (x.0 ∙ ap (λ xs. 34 ∷ xs) o.2, (b ∷ x.1.0, ap (λ xs. b ∷ xs) (x.1.1 ∙ ap (λ xs. x.1.0 ++ 34 ∷ xs) o.2)))
escaped_closes false true b bs r e h = cc
escaped_closes false false b bs r e h =
    let p = onto_some 92 (onto b (value_after false bs)) r e in
    let o = onto_some b (value_after false bs) p.0 p.1 in
    let x = h o.0 o.1 in
    (x.0 ∙ ap (λ xs. 34 ∷ xs) (o.2 ∙ p.2), (b ∷ x.1.0, ap (λ xs. b ∷ xs) (x.1.1 ∙ ap (λ xs. x.1.0 ++ 34 ∷ xs) (o.2 ∙ p.2))))

value_closes : (escaped : Bool) (bs : List ℕ) (r : Read) → value_after escaped bs ≡ Some r → Closes escaped bs r
unfolding value_after
value_closes true [] r e = cc
value_closes false [] r e = cc
value_closes true (b ∷ bs) r e = escaped_closes ((b == 34) || (b == 92)) (not (in_class InLine b)) b bs r e (λ s f. value_closes false bs s f)
value_closes false (b ∷ bs) r e =
    plain_closes (b == 34) (not (in_class InLine b)) (b == 92) b bs r refl refl e (λ s f. value_closes true bs s f) (λ s f. value_closes false bs s f)

-- the text of a result is a value as it stands
mark_value : (mark : ResultMark) (rest : List ℕ) → value_after false (mark_text mark ++ 34 ∷ rest) ≡ Some (record { text = mark_text mark; rest = rest })
unfolding value_after in_class
mark_value WhiteWins rest = refl
mark_value BlackWins rest = refl
mark_value Draw rest = refl
mark_value Unknown rest = refl

-- behind the closing quote
valued_name : (name value : List ℕ) (o : Option (List ℕ)) (t : TagRead) → (o >>= (λ rest. Some (record { name = name; value = value; rest = rest }))) ≡ Some t → (o ≡ Some t.rest) × (t.name ≡ name)
valued_name name value None t e = cc
valued_name name value (Some rest) t e = (cc, cc)

abbrev pub changed : ResultMark → TagRead → TagRead
changed mark t = record { name = t.name; value = mark_text mark; rest = t.rest }

valued_changed : (mark : ResultMark) (name value bs : List ℕ) (t : TagRead) → tag_valued name value bs ≡ Some t → tag_valued name (mark_text mark) bs ≡ Some (changed mark t)
unfolding tag_valued
valued_changed mark name value bs t e =
    let x = valued_name name value (past_byte 93 (past_blanks bs)) t e in
    rw (x.0) (ap (λ n. Some (record { name = n; value = mark_text mark; rest = t.rest })) (sym x.1))

valued_by : (v w : Bool) (name value : List ℕ) (b : ℕ) (bs : List ℕ) (t : TagRead) → in_class Blank b ≡ v → (b == 93) ≡ w → tag_valued name value (b ∷ bs) ≡ Some t
    → (tag_valued name value bs ≡ Some t → EndsWith 93 bs t.rest) → EndsWith 93 (b ∷ bs) t.rest
valued_by true w name value b bs t d f e h = one_more_before 93 b bs t.rest (h (sym (valued_blank name value b bs d) ∙ e))
valued_by false true name value b bs t d f e h =
    let is = valued_closes name value b bs d f in
    let same : Some (record { name = name; value = value; rest = bs }) ≡ Some t = sym is ∙ e in
    let rest_is : bs ≡ t.rest = cc in
    ([], ap (λ x. x ∷ bs) (eqb-true b 93 f) ∙ ap (λ xs. 93 ∷ xs) rest_is)
valued_by false false name value b bs t d f e h =
    let is = valued_breaks name value b bs d f in
    let no : None ≡ Some t = sym is ∙ e in
    cc

valued_none : (name value : List ℕ) (t : TagRead) → tag_valued name value [] ≡ Some t → ⊥
unfolding tag_valued past_byte
valued_none name value t e = cc

valued_ends : (name value bs : List ℕ) (t : TagRead) → tag_valued name value bs ≡ Some t → EndsWith 93 bs t.rest
valued_ends name value [] t e = absurd (valued_none name value t e)
valued_ends name value (b ∷ bs) t e = valued_by (in_class Blank b) (b == 93) name value b bs t refl refl e (λ f. valued_ends name value bs t f)

-- within the value
in_value_ends : (name front bs : List ℕ) (t : TagRead) → tag_in_value false name front bs ≡ Some t → EndsWith 93 bs t.rest
unfolding tag_in_value
in_value_ends name front bs t e =
    let x = bind_some (value_after false bs) _ t e in
    let closed = value_closes false bs x.0 x.1 in
    let ends = valued_ends name (front ++ x.0.text) x.0.rest t x.2 in
    let z = more_before 93 closed.1.0 (34 ∷ x.0.rest) t.rest (one_more_before 93 34 x.0.rest t.rest ends) in
    (z.0, closed.1.1 ∙ z.1)

in_value_changed : (mark : ResultMark) (name bs : List ℕ) (t : TagRead) → tag_in_value false name [] bs ≡ Some t → tag_in_value false name [] (mark_text mark ++ past_value false bs) ≡ Some (changed mark t)
unfolding tag_in_value
in_value_changed mark name bs t e =
    let x = bind_some (value_after false bs) _ t e in
    let closed = value_closes false bs x.0 x.1 in
    let there : value_after false (mark_text mark ++ past_value false bs) ≡ Some (record { text = mark_text mark; rest = x.0.rest }) = ap (λ xs. value_after false (mark_text mark ++ xs)) closed.0 ∙ mark_value mark x.0.rest in
    rw there (valued_changed mark name x.0.text x.0.rest t x.2)

-- behind the name
not_quote : (p : ℕ → Bool) (b : ℕ) (q : Bool) → (b == 34) ≡ q → p b ≡ true → p 34 ≡ false → (b == 34) ≡ false
not_quote p b false d e f = d
not_quote p b true d e f = let g : p b ≡ false = ap p (eqb-true b 34 d) ∙ f in cc

blank_no_quote : (b : ℕ) → in_class Blank b ≡ true → (b == 34) ≡ false
unfolding in_class
blank_no_quote b e = not_quote (in_class Blank) b (b == 34) refl e refl

name_no_quote : (b : ℕ) → in_pgn_class NameByte b ≡ true → (b == 34) ≡ false
unfolding in_pgn_class
name_no_quote b e = not_quote (in_pgn_class NameByte) b (b == 34) refl e refl

passes_on : (mark : ResultMark) (b : ℕ) (bs : List ℕ) → (b == 34) ≡ false → with_value mark (b ∷ bs) ≡ b ∷ with_value mark bs
unfolding with_value
passes_on mark b bs e = rw e refl

opens : (mark : ResultMark) (b : ℕ) (bs : List ℕ) → (b == 34) ≡ true → with_value mark (b ∷ bs) ≡ b ∷ (mark_text mark ++ past_value false bs)
unfolding with_value
opens mark b bs e = rw e refl

-- what follows stays as it is
abbrev Within : ResultMark → List ℕ → Type 0
Within mark bs = (more : List ℕ) → with_value mark (bs ++ more) ≡ with_value mark bs ++ more

within_on : (mark : ResultMark) (b : ℕ) (bs : List ℕ) → (b == 34) ≡ false → Within mark bs → Within mark (b ∷ bs)
within_on mark b bs e h more = passes_on mark b (bs ++ more) e ∙ ap (λ xs. b ∷ xs) (h more) ∙ ap (λ xs. xs ++ more) (sym (passes_on mark b bs e))

past_by : (q : Bool) (b : ℕ) (bs more rest : List ℕ) → (b == 34) ≡ q → past_value false (b ∷ bs) ≡ 34 ∷ rest
    → (past_value (b == 92) bs ≡ 34 ∷ rest → past_value (b == 92) (bs ++ more) ≡ past_value (b == 92) bs ++ more) → past_value false (b ∷ bs ++ more) ≡ past_value false (b ∷ bs) ++ more
unfolding past_value
past_by true b bs more rest d e later = rw d refl
past_by false b bs more rest d e later = rw d (later (rw d at e))

past_within : (escaped : Bool) (bs more rest : List ℕ) → past_value escaped bs ≡ 34 ∷ rest → past_value escaped (bs ++ more) ≡ past_value escaped bs ++ more
unfolding past_value
past_within true [] more rest e = cc
past_within false [] more rest e = cc
past_within true (b ∷ bs) more rest e = past_within false bs more rest e
past_within false (b ∷ bs) more rest e = past_by (b == 34) b bs more rest refl e (λ f. past_within (b == 92) bs more rest f)

within_opened : (mark : ResultMark) (b : ℕ) (bs rest : List ℕ) → (b == 34) ≡ true → past_value false bs ≡ 34 ∷ rest → Within mark (b ∷ bs)
within_opened mark b bs rest e f more =
    opens mark b (bs ++ more) e ∙ ap (λ xs. b ∷ (mark_text mark ++ xs)) (past_within false bs more rest f)
    ∙ ap (λ xs. b ∷ xs) (sym (append_assoc (mark_text mark) (past_value false bs) more)) ∙ ap (λ xs. xs ++ more) (sym (opens mark b bs e))

in_value_closes : (name bs : List ℕ) (t : TagRead) → tag_in_value false name [] bs ≡ Some t → (rest : List ℕ) × (past_value false bs ≡ 34 ∷ rest)
unfolding tag_in_value
in_value_closes name bs t e =
    let x = bind_some (value_after false bs) _ t e in
    (x.0.rest, (value_closes false bs x.0 x.1).0)

-- what a part of a tag pair reads, with another value
abbrev Alters : ResultMark → (List ℕ → Option TagRead) → List ℕ → TagRead → Type 0
Alters mark part bs t = (part (with_value mark bs) ≡ Some (changed mark t)) × EndsWith 93 bs t.rest × Within mark bs

named_by : (v w : Bool) (mark : ResultMark) (name : List ℕ) (b : ℕ) (bs : List ℕ) (t : TagRead) → in_class Blank b ≡ v → (b == 34) ≡ w → tag_named name (b ∷ bs) ≡ Some t
    → (tag_named name bs ≡ Some t → Alters mark (tag_named name) bs t) → Alters mark (tag_named name) (b ∷ bs) t
named_by true w mark name b bs t d f e h =
    let x = h (sym (named_blank name b bs d) ∙ e) in
    (ap (tag_named name) (passes_on mark b bs (blank_no_quote b d)) ∙ named_blank name b (with_value mark bs) d ∙ x.0, one_more_before 93 b bs t.rest x.1, within_on mark b bs (blank_no_quote b d) x.2)
named_by false true mark name b bs t d f e h =
    let g : tag_in_value false name [] bs ≡ Some t = sym (named_opens name b bs d f) ∙ e in
    let closed = in_value_closes name bs t g in (
      ap (tag_named name) (opens mark b bs f) ∙ named_opens name b (mark_text mark ++ past_value false bs) d f ∙ in_value_changed mark name bs t g,
      one_more_before 93 b bs t.rest (in_value_ends name [] bs t g),
      within_opened mark b bs closed.0 f closed.1,
    )
named_by false false mark name b bs t d f e h =
    let no : None ≡ Some t = sym (named_breaks name b bs d f) ∙ e in
    cc

named_none : (name : List ℕ) (t : TagRead) → tag_named name [] ≡ Some t → ⊥
unfolding tag_named past_byte
named_none name t e = cc

named_alters : (mark : ResultMark) (name bs : List ℕ) (t : TagRead) → tag_named name bs ≡ Some t → Alters mark (tag_named name) bs t
named_alters mark name [] t e = absurd (named_none name t e)
named_alters mark name (b ∷ bs) t e = named_by (in_class Blank b) (b == 34) mark name b bs t refl refl e (λ f. named_alters mark name bs t f)

-- within the name
name_by : (v w : Bool) (mark : ResultMark) (front : List ℕ) (b : ℕ) (bs : List ℕ) (t : TagRead) → in_pgn_class NameByte b ≡ v → (b == 34) ≡ w → tag_in_name front (b ∷ bs) ≡ Some t
    → (tag_in_name (front ++ b ∷ []) bs ≡ Some t → Alters mark (tag_in_name (front ++ b ∷ [])) bs t) → Alters mark (tag_in_name front) (b ∷ bs) t
name_by true w mark front b bs t d f e h =
    let x = h (sym (name_goes_on front b bs d) ∙ e) in
    (ap (tag_in_name front) (passes_on mark b bs (name_no_quote b d)) ∙ name_goes_on front b (with_value mark bs) d ∙ x.0, one_more_before 93 b bs t.rest x.1, within_on mark b bs (name_no_quote b d) x.2)
name_by false true mark front b bs t d f e h =
    let x = named_alters mark front (b ∷ bs) t (sym (name_ends front b bs d) ∙ e) in
    let o = opens mark b bs f in
    (ap (tag_in_name front) o ∙ name_ends front b (mark_text mark ++ past_value false bs) d ∙ ap (tag_named front) (sym o) ∙ x.0, x.1, x.2)
name_by false false mark front b bs t d f e h =
    let x = named_alters mark front (b ∷ bs) t (sym (name_ends front b bs d) ∙ e) in
    let o = passes_on mark b bs f in
    (ap (tag_in_name front) o ∙ name_ends front b (with_value mark bs) d ∙ ap (tag_named front) (sym o) ∙ x.0, x.1, x.2)

name_none : (front : List ℕ) (t : TagRead) → tag_in_name front [] ≡ Some t → ⊥
unfolding tag_in_name tag_named past_byte
name_none front t e = cc

name_alters : (mark : ResultMark) (front bs : List ℕ) (t : TagRead) → tag_in_name front bs ≡ Some t → Alters mark (tag_in_name front) bs t
name_alters mark front [] t e = absurd (name_none front t e)
name_alters mark front (b ∷ bs) t e = name_by (in_pgn_class NameByte b) (b == 34) mark front b bs t refl refl e (λ f. name_alters mark (front ++ b ∷ []) bs t f)

-- behind the bracket
at_by : (v w : Bool) (mark : ResultMark) (b : ℕ) (bs : List ℕ) (t : TagRead) → in_class Blank b ≡ v → in_pgn_class NameByte b ≡ w → tag_at (b ∷ bs) ≡ Some t
    → (tag_at bs ≡ Some t → Alters mark tag_at bs t) → Alters mark tag_at (b ∷ bs) t
at_by true w mark b bs t d f e h =
    let x = h (sym (opened_blank b bs d) ∙ e) in
    (ap tag_at (passes_on mark b bs (blank_no_quote b d)) ∙ opened_blank b (with_value mark bs) d ∙ x.0, one_more_before 93 b bs t.rest x.1, within_on mark b bs (blank_no_quote b d) x.2)
at_by false true mark b bs t d f e h =
    let x = name_alters mark (b ∷ []) bs t (sym (opened_name b bs d f) ∙ e) in
    (ap tag_at (passes_on mark b bs (name_no_quote b f)) ∙ opened_name b (with_value mark bs) d f ∙ x.0, one_more_before 93 b bs t.rest x.1, within_on mark b bs (name_no_quote b f) x.2)
at_by false false mark b bs t d f e h =
    let no : None ≡ Some t = sym (opened_breaks b bs d f) ∙ e in
    cc

at_none : (t : TagRead) → tag_at [] ≡ Some t → ⊥
unfolding tag_at name_at
at_none t e = cc

-- a tag pair with another value is read as one with that value, and what follows it stays
pub tag_alters : (mark : ResultMark) (bs : List ℕ) (t : TagRead) → tag_at bs ≡ Some t → (tag_at (with_value mark bs) ≡ Some (changed mark t)) × EndsWith 93 bs t.rest × ((more : List ℕ) → with_value mark (bs ++ more) ≡ with_value mark bs ++ more)
tag_alters mark [] t e = absurd (at_none t e)
tag_alters mark (b ∷ bs) t e = at_by (in_class Blank b) (in_pgn_class NameByte b) mark b bs t refl refl e (λ f. tag_alters mark bs t f)
