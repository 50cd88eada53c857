-- What is written so far, one item after another.
use Rattle.std.proofs.Common.{◌≡◌, ◌≢◌, ℕ, ◌+◌, ◌^◌, ◌<◌, ◌≤◌, Bool, if◌then◌else◌, List, [], ◌∷◌, ◌++◌, length, map, take, drop, Option, refl, sym, ap, ◌∙◌, arith, append_assoc, append-nil, length-append, take-append-drop, zero-add, subst}
use Rattle.std.specs.List.{count_by}
use Rattle.std.specs.Io.KnownBytes.{Appends}
use Rattle.std.proofs.lemmas.List.Sums.{sum_by-append, count_by-le-length}
use Rattle.std.proofs.lemmas.List.{map-append}
use Rattle.std.proofs.KnownBytes.{Appends-nil, Appends-trans}
use Rattle.cha_outcome.specs.declared.items.Item.{Item}
use Rattle.cha_outcome.specs.declared.outcomes.Outcome.{Outcome}
use Rattle.cha_outcome.specs.declared.questions.Question.{Question}
use Rattle.cha_outcome.specs.declared.totals.Totals.{Totals}
use Rattle.cha_outcome.specs.Outcomes.{item_of, IsSoundOutcome, Answers, AllSound, is_refused, is_dead_position, is_changed_game, is_open, has_mates}
use Rattle.cha_outcome.specs.Totals.{totals_of, one_if, counted, HasRoom}
use Rattle.report_style.specs.declared.styles.Style.{Style}
use Rattle.flag_report.specs.Styles.{block, blocks, summary}
use Rattle.adjudicate.specs.Jobs.{Job}
use Rattle.adjudicate.specs.Report.{HasReport, HasBlocks, HasCutBlock, IsFront}
use Rattle.adjudicate.specs.Runs.{Grew}

-- of all items, those before these have sound outcomes whose blocks were written and whose totals are these
abbrev pub WroteUpTo : Job → List Item → List Item → Option (List ℕ) → Option (List ℕ) → Totals → Type 0
WroteUpTo j all later old new s =
    (done : List Item) × (all ≡ done ++ later)
    × ((os : List Outcome) × (map item_of os ≡ done) × AllSound j.question os × Appends old new (blocks j.style 1 os) × (s ≡ totals_of os))

-- one more outcome
pub sound_more : (question : Question) (os : List Outcome) (o : Outcome) → AllSound question os → IsSoundOutcome question o → AllSound question (os ++ o ∷ [])
sound_more question [] o all one = (one, tt)
sound_more question (first ∷ os) o all one = (all.0, sound_more question os o all.1 one)

blocks_more : (style : Style) (n : ℕ) (os : List Outcome) (o : Outcome) → blocks style n (os ++ o ∷ []) ≡ blocks style n os ++ block style (n + length os) o
unfolding blocks
blocks_more style n [] o = let same : n + 0 ≡ n = omega arith in rw same (append-nil (block style n o))
blocks_more style n (first ∷ os) o =
    let next : n + 1 + length os ≡ n + length (first ∷ os) = omega arith in
    ap (λ rest. block style n first ++ rest) (blocks_more style (n + 1) os o ∙ ap (λ k. blocks style (n + 1) os ++ block style k o) next)
    ∙ sym (append_assoc (block style n first) (blocks style (n + 1) os) (block style (n + length (first ∷ os)) o))

count_more : (p : Outcome → Bool) (os : List Outcome) (o : Outcome) → count_by p (os ++ o ∷ []) ≡ count_by p os + one_if (p o)
count_more p os o = sum_by-append (λ x. if p x then 1 else 0) os (o ∷ []) ∙ ap (λ n. count_by p os + n) (zero-add (one_if (p o)))

pub totals_more : (os : List Outcome) (o : Outcome) → counted (totals_of os) o ≡ totals_of (os ++ o ∷ [])
totals_more os o = λ i. record {
  items = sym (length-append os (o ∷ [])) i;
  refused = sym (count_more is_refused os o) i;
  changed = sym (count_more is_changed_game os o) i;
  dead = sym (count_more is_dead_position os o) i;
  undecided = sym (count_more is_open os o) i;
  found = sym (count_more has_mates os o) i;
}

-- before the first item
pub nothing_written : (j : Job) (all : List Item) (a : Option (List ℕ)) → WroteUpTo j all all a a (totals_of [])
unfolding blocks
nothing_written j all a = ([], refl, ([], refl, tt, Appends-nil a, refl))

-- the block of the next item is written whole
pub one_more : (j : Job) (all here later : List Item) (item : Item) (o : Outcome) (old now next : Option (List ℕ)) (s : Totals) (text : List ℕ) → WroteUpTo j all here old now s → here ≡ item ∷ later
    → Answers j.question item o → text ≡ block j.style (s.items + 1) o → Appends now next text → WroteUpTo j all later old next (counted s o)
one_more j all here later item o old now next s text w here_is answers text_is added =
    let os = w.2.0 in
    let number : s.items ≡ length os = ap (λ t. t.items) w.2.4 in
    let shown : text ≡ block j.style (1 + length os) o = text_is ∙ ap (λ k. block j.style k o) (let e : s.items + 1 ≡ 1 + length os = omega arith in e) in
    let out : Appends old next (blocks j.style 1 os ++ text) = Appends-trans old now next (blocks j.style 1 os) text w.2.3 added in
    let whole : blocks j.style 1 os ++ text ≡ blocks j.style 1 (os ++ o ∷ []) = ap (λ x. blocks j.style 1 os ++ x) shown ∙ sym (blocks_more j.style 1 os o) in (
      w.0 ++ item ∷ [],
      w.1 ∙ ap (λ x. w.0 ++ x) here_is ∙ sym (append_assoc w.0 (item ∷ []) later),
      (
        os ++ o ∷ [],
        map-append item_of os (o ∷ []) ∙ ap (λ x. x ++ item_of o ∷ []) w.2.1 ∙ ap (λ x. w.0 ++ x ∷ []) answers.0,
        sound_more j.question os o w.2.2 answers.1,
        subst (λ x. Appends old next x) whole out,
        ap (λ t. counted t o) w.2.4 ∙ totals_more os o,
      ),
    )

-- the block of the next item is written in part
pub cut_block : (j : Job) (bytes : List ℕ) (here later : List Item) (item : Item) (o : Outcome) (old now next : Option (List ℕ)) (s : Totals) (text : List ℕ) (n : ℕ) → WroteUpTo j (j.items bytes) here old now s → here ≡ item ∷ later
    → Answers j.question item o → text ≡ block j.style (s.items + 1) o → text ≢ [] → Appends now next (take n text)
    → (Allows : ℕ → Type 0) → Allows (s.items + 1) → Grew old next (HasCutBlock j Allows bytes)
cut_block j bytes here later item o old now next s text n w here_is answers text_is some added Allows allowed =
    let os = w.2.0 in
    let number : s.items ≡ length os = ap (λ t. t.items) w.2.4 in
    let shown : text ≡ block j.style (length os + 1) o = text_is ∙ ap (λ k. block j.style (k + 1) o) number in (
      blocks j.style 1 os ++ take n text,
      Appends-trans old now next (blocks j.style 1 os) (take n text) w.2.3 added,
      (
        os,
        o,
        later,
        take n text,
        w.1 ∙ ap (λ x. w.0 ++ x) (here_is ∙ ap (λ x. x ∷ later) (sym answers.0)) ∙ ap (λ x. x ++ item_of o ∷ later) (sym w.2.1),
        w.2.2,
        answers.1,
        refl,
        (drop n text, sym shown ∙ sym (take-append-drop n text)),
        (λ none. some (shown ∙ none)),
        subst (λ k. Allows (k + 1)) number allowed,
      ),
    )

-- nothing of the next item is written
pub whole_blocks : (j : Job) (bytes : List ℕ) (here : List Item) (old now : Option (List ℕ)) (s : Totals) (Allows : ℕ → Type 0) → WroteUpTo j (j.items bytes) here old now s → Allows s.items → Grew old now (HasBlocks j Allows bytes)
whole_blocks j bytes here old now s Allows w allowed =
    let os = w.2.0 in
    let number : s.items ≡ length os = ap (λ t. t.items) w.2.4 in
    (blocks j.style 1 os, w.2.3, (os, here, w.1 ∙ ap (λ x. x ++ here) (sym w.2.1), w.2.2, refl, subst Allows number allowed))

-- no item is left: the outcomes of all items make the report
all_outcomes : (j : Job) (bytes : List ℕ) (old now : Option (List ℕ)) (s : Totals) → (w : WroteUpTo j (j.items bytes) [] old now s) → HasReport j bytes (blocks j.style 1 w.2.0 ++ summary j.style j.subject (j.closed bytes) s)
all_outcomes j bytes old now s w = (w.2.0, w.2.1 ∙ sym (w.1 ∙ append-nil w.0), w.2.2, ap (λ t. blocks j.style 1 w.2.0 ++ summary j.style j.subject (j.closed bytes) t) w.2.4)

-- and the summary is written whole
pub finished : (j : Job) (bytes : List ℕ) (old now next : Option (List ℕ)) (s : Totals) → WroteUpTo j (j.items bytes) [] old now s → Appends now next (summary j.style j.subject (j.closed bytes) s) → Grew old next (HasReport j bytes)
finished j bytes old now next s w added =
    let front = blocks j.style 1 w.2.0 in
    (front ++ summary j.style j.subject (j.closed bytes) s, Appends-trans old now next front (summary j.style j.subject (j.closed bytes) s) w.2.3 added, all_outcomes j bytes old now s w)

-- or in part
pub cut_summary : (j : Job) (bytes : List ℕ) (old now next : Option (List ℕ)) (s : Totals) (n : ℕ) → WroteUpTo j (j.items bytes) [] old now s → Appends now next (take n (summary j.style j.subject (j.closed bytes) s))
    → Grew old next (λ out. (whole : List ℕ) × HasReport j bytes whole × IsFront out whole)
cut_summary j bytes old now next s n w added =
    let front = blocks j.style 1 w.2.0 in
    let end = summary j.style j.subject (j.closed bytes) s in (
      front ++ take n end,
      Appends-trans old now next front (take n end) w.2.3 added,
      (front ++ end, all_outcomes j bytes old now s w, (drop n end, ap (λ x. front ++ x) (sym (take-append-drop n end)) ∙ sym (append_assoc front (take n end) (drop n end)))),
    )

-- one more outcome can be counted
pub room : (j : Job) (all here : List Item) (old now : Option (List ℕ)) (s : Totals) → WroteUpTo j all here old now s → s.items < 2 ^ 63 → HasRoom s
room j all here old now s w few =
    let os = w.2.0 in
    let number : s.items ≡ length os = ap (λ t. t.items) w.2.4 in
    let refused : s.refused ≤ length os = rw (ap (λ t. t.refused) w.2.4) (count_by-le-length is_refused os) in
    let changed : s.changed ≤ length os = rw (ap (λ t. t.changed) w.2.4) (count_by-le-length is_changed_game os) in
    let dead : s.dead ≤ length os = rw (ap (λ t. t.dead) w.2.4) (count_by-le-length is_dead_position os) in
    let undecided : s.undecided ≤ length os = rw (ap (λ t. t.undecided) w.2.4) (count_by-le-length is_open os) in
    let found : s.found ≤ length os = rw (ap (λ t. t.found) w.2.4) (count_by-le-length has_mates os) in
    record { few_items = few; few_refused = omega arith; few_changed = omega arith; few_dead = omega arith; few_undecided = omega arith; few_found = omega arith }
