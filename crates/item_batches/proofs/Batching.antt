-- A queue of work on items: how it grows, how it is worked on, and how its first goes.
use Rattle.std.proofs.Common.{IfSome, ◌≡◌, ℕ, zero, suc, ◌+◌, ◌-◌, ◌^◌, ◌<◌, ◌≤◌, ◌⊎◌, inl, inr, Bool, true, false, List, [], ◌∷◌, ◌++◌, length, Option, Some, None, slice_get, slice_index_or, option_to_list, length-append, append_assoc, append-nil, refl, sym, ap, ◌∙◌, arith, subst}
use Rattle.std.specs.List.{All}
use Rattle.cha_outcome.specs.declared.items.Item.{Item}
use Rattle.cha_outcome.specs.declared.questions.Question.{Question}
use Rattle.side_by_side.specs.declared.cuts.Cut.{Cut}
use Rattle.side_by_side.specs.declared.progress.Progress.{Progress}
use Rattle.side_by_side.specs.declared.progress.Progress.TheVariants.{Cut as OnlyCut}
use Rattle.side_by_side.specs.declared.cuts.ItemKind.{ItemKind}
use Rattle.side_by_side.specs.Cuts.{item_of_cut, IsAskedOf}
use Rattle.side_by_side.specs.Progresses.{IsOf, AreAsked, AllGoOn}
use Rattle.item_batches.specs.declared.readers.ItemReader.{ItemReader}
use Rattle.item_batches.specs.Items.{TookAsNeeded}
use Rattle.item_batches.specs.Readers.{kind_of, taken_by, given_by, has_ended, items_by, settled_by, CanGoOn}
use Rattle.side_by_side.specs.declared.parts.Part.{Part}
use Rattle.side_by_side.specs.Parts.{items_of, items_of_all}
use Rattle.item_batches.specs.Batches.{IsCutAt, IsWorkAt, AreWorkFrom, IsQueued}

-- an element by its index
there : (ps : List Progress) (i : ℕ) (d : Progress) → i < length ps → slice_get ps i ≡ Some (slice_index_or ps i d)
there [] i d few = absurd (omega (arith, few))
there (p ∷ ps) zero d few = refl
there (p ∷ ps) (suc i) d few = there ps i d (omega (arith, few))

is_there : (ps : List Progress) (i : ℕ) (p : Progress) → slice_get ps i ≡ Some p → (i < length ps) × (slice_index_or ps i p ≡ p)
is_there [] i p e = cc
is_there (first ∷ ps) zero p e = (omega arith, cc)
is_there (first ∷ ps) (suc i) p e = let more = is_there ps i p e in (omega (arith, more.0), more.1)

in_front : (ps : List Progress) (last : Progress) (i : ℕ) (p : Progress) → slice_get (ps ++ last ∷ []) i ≡ Some p → (slice_get ps i ≡ Some p) ⊎ ((i ≡ length ps) × (p ≡ last))
in_front [] last zero p e = inr (refl, cc)
in_front [] last (suc i) p e = cc
in_front (first ∷ ps) last zero p e = inl e
in_front (first ∷ ps) last (suc i) p e = elim (in_front ps last i p e) [
  | inl more ↦ inl more
  | inr end ↦ inr (ap suc end.0, end.1)
]

-- what is cut at a place is work on its item
pub cut_is_work : (question : Question) (kind : ItemKind) (bytes : List ℕ) (number : ℕ) (cut : Cut) → IsAskedOf kind question → IsCutAt kind bytes number cut → IsWorkAt question (items_by kind bytes) number (OnlyCut cut)
cut_is_work question kind bytes number cut asked at = (item_of_cut cut, at.0, (refl, at.1, subst (λ k. IsAskedOf k question) (sym at.2) asked))

pub no_work : (question : Question) (items : List Item) (first : ℕ) → AreWorkFrom question items first []
unfolding AreWorkFrom
no_work question items first = λ i p e. cc

-- one more
pub pushed : (question : Question) (items : List Item) (first : ℕ) (queue : List Progress) (p : Progress) → AreWorkFrom question items first queue → IsWorkAt question items (first + length queue) p → AreWorkFrom question items first (queue ++ p ∷ [])
unfolding AreWorkFrom
pushed question items first queue p work one = λ i x e. elim (in_front queue p i x e) [
  | inl before ↦ work i x before
  | inr end ↦ subst (λ n. IsWorkAt question items (first + n) x) (sym end.0) (subst (λ y. IsWorkAt question items (first + length queue) y) (sym end.1) one)
]

in_either : (xs ys : List Progress) (i : ℕ) (p : Progress) → slice_get (xs ++ ys) i ≡ Some p → (slice_get xs i ≡ Some p) ⊎ ((k : ℕ) × (i ≡ length xs + k) × (slice_get ys k ≡ Some p))
in_either [] ys i p e = inr (i, omega arith, e)
in_either (x ∷ xs) ys zero p e = inl e
in_either (x ∷ xs) ys (suc i) p e = elim (in_either xs ys i p e) [
  | inl more ↦ inl more
  | inr end ↦ inr (end.0, omega (arith, end.1), end.2)
]

-- more behind them
appended : (question : Question) (items : List Item) (first : ℕ) (xs ys : List Progress) → AreWorkFrom question items first xs → AreWorkFrom question items (first + length xs) ys → AreWorkFrom question items first (xs ++ ys)
unfolding AreWorkFrom
appended question items first xs ys work behind = λ i x e. elim (in_either xs ys i x e) [
  | inl before ↦ work i x before
  | inr end ↦ (
      let place : first + length xs + end.0 ≡ first + i = omega (arith, end.1) in
      subst (λ n. IsWorkAt question items n x) place (behind end.0 x end.2))
]

-- each is asked about
pub all_asked : (question : Question) (items : List Item) (first : ℕ) (queue : List Progress) → AreWorkFrom question items first queue → AreAsked question queue
unfolding AreWorkFrom
all_asked question items first queue work = λ i d few. let at = work i (slice_index_or queue i d) (there queue i d few) in (at.0, at.2)

-- what was worked on is work on the same items
pub worked_on : (question : Question) (items : List Item) (first : ℕ) (old new : List Progress) → AreWorkFrom question items first old → length new ≡ length old → AllGoOn question old new → AreWorkFrom question items first new
unfolding AreWorkFrom AllGoOn
worked_on question items first old new work size same = λ i p e. (
    let at = is_there new i p e in
    let few : i < length old = omega (arith, size, at.0) in
    let was = work i (slice_index_or old i p) (there old i p few) in
    (was.0, was.1, subst (λ x. IsOf question was.0 x) at.1 (same i p few was.0 was.2)))

-- the first goes
pub first_of : (question : Question) (items : List Item) (first : ℕ) (p : Progress) (queue : List Progress) → AreWorkFrom question items first (p ∷ queue) → IsWorkAt question items first p
unfolding AreWorkFrom
first_of question items first p queue work = let none : first + 0 ≡ first = omega arith in subst (λ n. IsWorkAt question items n p) none (work 0 p refl)

pub rest_of : (question : Question) (items : List Item) (first : ℕ) (p : Progress) (queue : List Progress) → AreWorkFrom question items first (p ∷ queue) → AreWorkFrom question items (first + 1) queue
unfolding AreWorkFrom
rest_of question items first p queue work = λ i x e. (
    let more : first + suc i ≡ first + 1 + i = omega arith in
    subst (λ n. IsWorkAt question items n x) more (work (suc i) x e))

-- nothing is queued before the first item
pub first_queue : (reader : ItemReader) (question : Question) → CanGoOn reader → IsAskedOf (kind_of reader) question → given_by reader ≡ 0 → IsQueued reader question [] false
first_queue reader question goes_on asked none = record {
  asked = asked;
  few = omega arith;
  work = no_work question (items_by (kind_of reader) (taken_by reader)) (given_by reader - 0);
  goes_on = λ _. goes_on;
  most = λ _. omega (arith, none);
  settled = λ _ _. omega (arith, none);
  waits = λ some. absurd (omega (arith, some));
}

-- where a call failed nothing is queued
pub no_queue : (reader : ItemReader) (question : Question) → IsAskedOf (kind_of reader) question → IsQueued reader question [] true
no_queue reader question asked = record {
  asked = asked;
  few = omega arith;
  work = no_work question (items_by (kind_of reader) (taken_by reader)) (given_by reader - 0);
  goes_on = λ e. cc;
  most = λ e. cc;
  settled = λ e. cc;
  waits = λ some. absurd (omega (arith, some));
}

-- no fewer items are given later
pub took_later : (settled : List ℕ → ℕ) (taken : List ℕ) (given given' : ℕ) → given ≤ given' → TookAsNeeded settled taken given → TookAsNeeded settled taken given'
took_later settled taken given given' more took = (took.0, (took.1.0, took.1.1, took.1.2, omega (arith, took.1.3, more)))

-- the first of what is queued goes
pub popped : (reader : ItemReader) (question : Question) (p : Progress) (queue : List Progress) (failed : Bool) → IsQueued reader question (p ∷ queue) failed → IsQueued reader question queue failed
popped reader question p queue failed h =
    let few = h.few in
    let next : given_by reader - suc (length queue) + 1 ≡ given_by reader - length queue = omega (arith, few) in
    record {
      asked = h.asked;
      few = omega (arith, few);
      work = subst (λ n. AreWorkFrom question (items_by (kind_of reader) (taken_by reader)) n queue) next (rest_of question (items_by (kind_of reader) (taken_by reader)) (given_by reader - suc (length queue)) p queue h.work);
      goes_on = h.goes_on;
      most = h.most;
      settled = h.settled;
      waits = λ some. took_later (settled_by (kind_of reader)) (taken_by reader) (given_by reader - suc (length queue)) (given_by reader - length queue) (omega (arith, next)) (h.waits (omega arith));
    }

-- whatever is taken from the front
pub popped_any : (reader : ItemReader) (question : Question) (found : Option Progress) (all queue behind : List Progress) (failed : Bool) → all ≡ option_to_list found ++ queue → IsQueued reader question (all ++ behind) failed → IsQueued reader question (queue ++ behind) failed
popped_any reader question None all queue behind failed e h = subst (λ q. IsQueued reader question (q ++ behind) failed) e h
popped_any reader question (Some p) all queue behind failed e h = popped reader question p (queue ++ behind) failed (subst (λ q. IsQueued reader question (q ++ behind) failed) e h)

-- it is work on the item with the first number
pub first_found : (question : Question) (found : Option Progress) (all queue behind : List Progress) (k k' : ItemKind) (t t' : List ℕ) (n n' : ℕ) → k' ≡ k → t' ≡ t → n' ≡ n → all ≡ option_to_list found ++ queue → AreWorkFrom question (items_by k t) n (all ++ behind)
    → IfSome found (IsWorkAt question (items_by k' t') n')
first_found question None all queue behind k k' t t' n n' kind taken number e work = tt
first_found question (Some p) all queue behind k k' t t' n n' kind taken number e work =
    let one = first_of question (items_by k t) n p (queue ++ behind) (subst (λ q. AreWorkFrom question (items_by k t) n (q ++ behind)) e work) in
    subst (λ x. IsWorkAt question (items_by x t') n' p) (sym kind) (subst (λ x. IsWorkAt question (items_by k x) n' p) (sym taken) (subst (λ x. IsWorkAt question (items_by k t) x p) (sym number) one))

-- where no item is left
pub none_left : (reader reader' : ItemReader) (question : Question) (old queue : List Progress) (failed : Bool) → IsQueued reader question old failed → queue ≡ [] → kind_of reader' ≡ kind_of reader → given_by reader' ≡ given_by reader → CanGoOn reader' → has_ended reader' ≡ true
    → IsQueued reader' question queue failed
none_left reader reader' question old queue failed h none kind given goes_on ended = subst (λ q. IsQueued reader' question q failed) (sym none) (record {
  asked = subst (λ k. IsAskedOf k question) (sym kind) h.asked;
  few = omega arith;
  work = no_work question (items_by (kind_of reader') (taken_by reader')) (given_by reader' - 0);
  goes_on = λ _. goes_on;
  most = λ f. (let was = h.most f in omega (arith, given, was));
  settled = λ f more_comes. (let e = sym ended ∙ more_comes in cc);
  waits = λ some. absurd (omega (arith, some));
})

-- where the reader failed
pub failed_queue : (reader reader' : ItemReader) (question : Question) (old queue : List Progress) (failed : Bool) → IsQueued reader question old failed → queue ≡ [] → kind_of reader' ≡ kind_of reader → IsQueued reader' question queue true
failed_queue reader reader' question old queue failed h none kind = subst (λ q. IsQueued reader' question q true) (sym none) (no_queue reader' question (subst (λ k. IsAskedOf k question) (sym kind) h.asked))

-- work on the items of these bytes that were given last
queued : (reader : ItemReader) (question : Question) (k : ItemKind) (t : List ℕ) (first : ℕ) (queue : List Progress) → kind_of reader ≡ k → taken_by reader ≡ t → given_by reader ≡ first + length queue → IsAskedOf k question → CanGoOn reader → given_by reader ≤ 2 ^ 62
    → (has_ended reader ≡ false → given_by reader ≤ settled_by k t) → TookAsNeeded (settled_by k) t first → AreWorkFrom question (items_by k t) first queue → IsQueued reader question queue false
queued reader question k t first queue kind taken given asked goes_on most settled took work =
    let start : first ≡ given_by reader - length queue = omega (arith, given) in
    record {
      asked = subst (λ x. IsAskedOf x question) (sym kind) asked;
      few = omega (arith, given);
      work = subst (λ x. AreWorkFrom question (items_by x (taken_by reader)) (given_by reader - length queue) queue) (sym kind)
          (subst (λ x. AreWorkFrom question (items_by k x) (given_by reader - length queue) queue) (sym taken) (subst (λ n. AreWorkFrom question (items_by k t) n queue) start work));
      goes_on = λ _. goes_on;
      most = λ _. most;
      settled = λ _ more_comes. subst (λ x. given_by reader ≤ settled_by x (taken_by reader)) (sym kind) (subst (λ x. given_by reader ≤ settled_by k x) (sym taken) (settled more_comes));
      waits = λ _. subst (λ x. TookAsNeeded (settled_by x) (taken_by reader) (given_by reader - length queue)) (sym kind)
          (subst (λ x. TookAsNeeded (settled_by k) x (given_by reader - length queue)) (sym taken) (subst (λ n. TookAsNeeded (settled_by k) t n) start took));
    }

-- an item that has come
pub come : (reader reader' : ItemReader) (question : Question) (cut : Cut) → IsAskedOf (kind_of reader) question → kind_of reader' ≡ kind_of reader → CanGoOn reader' → given_by reader' ≡ given_by reader + 1 → given_by reader < 2 ^ 62
    → (has_ended reader' ≡ false → given_by reader < settled_by (kind_of reader) (taken_by reader')) → TookAsNeeded (settled_by (kind_of reader)) (taken_by reader') (given_by reader) → IsCutAt (kind_of reader) (taken_by reader') (given_by reader) cut
    → IsQueued reader' question (OnlyCut cut ∷ []) false
come reader reader' question cut asked kind goes_on given few settled took at =
    let n = given_by reader in
    let items = items_by (kind_of reader) (taken_by reader') in
    let none : n + 0 ≡ n = omega arith in
    let one = subst (λ m. IsWorkAt question items m (OnlyCut cut)) (sym none) (cut_is_work question (kind_of reader) (taken_by reader') n cut asked at) in
    queued reader' question (kind_of reader) (taken_by reader') n (OnlyCut cut ∷ []) kind refl given asked goes_on (omega (arith, given, few)) (λ more_comes. (let s = settled more_comes in omega (arith, given, s))) took
    (pushed question items n [] (OnlyCut cut) (no_work question items n) one)

-- the last piece was taken when the first of a queue was needed, or the next item, where none is queued
first_took : (reader : ItemReader) (question : Question) (queue : List Progress) → IsQueued reader question queue false → TookAsNeeded (settled_by (kind_of reader)) (taken_by reader) (given_by reader)
    → TookAsNeeded (settled_by (kind_of reader)) (taken_by reader) (given_by reader - length queue)
first_took reader question [] h took = took_later (settled_by (kind_of reader)) (taken_by reader) (given_by reader) (given_by reader - 0) (omega arith) took
first_took reader question (p ∷ queue) h took = h.waits (omega arith)

-- one more is cut
pub one_more : (reader reader' : ItemReader) (question : Question) (queue : List Progress) (cut : Cut) → IsQueued reader question queue false → kind_of reader' ≡ kind_of reader → taken_by reader' ≡ taken_by reader → CanGoOn reader' → given_by reader' ≡ given_by reader + 1 → given_by reader < 2 ^ 62
    → given_by reader < settled_by (kind_of reader) (taken_by reader) → TookAsNeeded (settled_by (kind_of reader)) (taken_by reader') (given_by reader) → IsCutAt (kind_of reader) (taken_by reader) (given_by reader) cut
    → IsQueued reader' question (queue ++ OnlyCut cut ∷ []) false
one_more reader reader' question queue cut h kind taken goes_on given few settled took at =
    let items = items_by (kind_of reader) (taken_by reader) in
    let size : length (queue ++ OnlyCut cut ∷ []) ≡ length queue + 1 = length-append queue (OnlyCut cut ∷ []) in
    let first = given_by reader - length queue in
    let place : given_by reader ≡ first + length queue = omega (arith, h.few) in
    let one = subst (λ n. IsWorkAt question items n (OnlyCut cut)) place (cut_is_work question (kind_of reader) (taken_by reader) (given_by reader) cut h.asked at) in
    queued reader' question (kind_of reader) (taken_by reader) first (queue ++ OnlyCut cut ∷ []) kind taken (omega (arith, size, given, place)) h.asked goes_on (omega (arith, given, few)) (λ _. omega (arith, given, settled))
    (first_took reader question queue h (subst (λ x. TookAsNeeded (settled_by (kind_of reader)) x (given_by reader)) taken took))
    (pushed question items first queue (OnlyCut cut) h.work one)

-- where a game was written, nothing of what is queued changes
pub same_queue : (reader reader' : ItemReader) (question : Question) (queue : List Progress) (failed : Bool) → IsQueued reader question queue failed → kind_of reader' ≡ kind_of reader → taken_by reader' ≡ taken_by reader → given_by reader' ≡ given_by reader → has_ended reader' ≡ has_ended reader → (failed ≡ false → CanGoOn reader')
    → IsQueued reader' question queue failed
same_queue reader reader' question queue failed h kind taken given ended goes_on = record {
  asked = subst (λ k. IsAskedOf k question) (sym kind) h.asked;
  few = omega (arith, h.few, given);
  work = subst (λ k. AreWorkFrom question (items_by k (taken_by reader')) (given_by reader' - length queue) queue) (sym kind)
      (subst (λ t. AreWorkFrom question (items_by (kind_of reader) t) (given_by reader' - length queue) queue) (sym taken) (subst (λ n. AreWorkFrom question (items_by (kind_of reader) (taken_by reader)) (n - length queue) queue) (sym given) h.work));
  goes_on = goes_on;
  most = λ f. (let was = h.most f in omega (arith, was, given));
  settled = λ f more_comes. subst (λ k. given_by reader' ≤ settled_by k (taken_by reader')) (sym kind)
      (subst (λ t. given_by reader' ≤ settled_by (kind_of reader) t) (sym taken) (subst (λ n. n ≤ settled_by (kind_of reader) (taken_by reader)) (sym given) (h.settled f (sym ended ∙ more_comes))));
  waits = λ some. subst (λ k. TookAsNeeded (settled_by k) (taken_by reader') (given_by reader' - length queue)) (sym kind)
      (subst (λ t. TookAsNeeded (settled_by (kind_of reader)) t (given_by reader' - length queue)) (sym taken) (subst (λ n. TookAsNeeded (settled_by (kind_of reader)) (taken_by reader) (n - length queue)) (sym given) (h.waits some)));
}

-- the parts of two lists behind one another
get_front : (xs ys : List Progress) (i : ℕ) (p : Progress) → slice_get xs i ≡ Some p → slice_get (xs ++ ys) i ≡ Some p
get_front [] ys i p e = cc
get_front (x ∷ xs) ys zero p e = e
get_front (x ∷ xs) ys (suc i) p e = get_front xs ys i p e

get_back : (xs ys : List Progress) (i n : ℕ) (p : Progress) → n ≡ length xs + i → slice_get ys i ≡ Some p → slice_get (xs ++ ys) n ≡ Some p
get_back [] ys i n p at e = let same : n ≡ i = omega (arith, at) in subst (λ k. slice_get ys k ≡ Some p) (sym same) e
get_back (x ∷ xs) ys i zero p at e = absurd (omega (arith, at))
get_back (x ∷ xs) ys i (suc n) p at e = get_back xs ys i n p (omega (arith, at)) e

front_work : (question : Question) (items : List Item) (first : ℕ) (xs ys : List Progress) → AreWorkFrom question items first (xs ++ ys) → AreWorkFrom question items first xs
unfolding AreWorkFrom
front_work question items first xs ys work = λ i p e. work i p (get_front xs ys i p e)

back_work : (question : Question) (items : List Item) (first : ℕ) (xs ys : List Progress) → AreWorkFrom question items first (xs ++ ys) → AreWorkFrom question items (first + length xs) ys
unfolding AreWorkFrom
back_work question items first xs ys work = λ i p e. (
    let place : first + (length xs + i) ≡ first + length xs + i = omega arith in
    subst (λ n. IsWorkAt question items n p) place (work (length xs + i) p (get_back xs ys i (length xs + i) p refl e)))

-- the work on the last of them went on
last_went_on : (question : Question) (items : List Item) (first : ℕ) (xs old new : List Progress) → AreWorkFrom question items first (xs ++ old) → length new ≡ length old → AllGoOn question old new → AreWorkFrom question items first (xs ++ new)
last_went_on question items first xs old new work size goes =
    appended question items first xs new (front_work question items first xs old work) (worked_on question items (first + length xs) old new (back_work question items first xs old work) size goes)

-- the work on the first of them went on
first_went_on : (question : Question) (items : List Item) (first : ℕ) (old new ys : List Progress) → AreWorkFrom question items first (old ++ ys) → length new ≡ length old → AllGoOn question old new → AreWorkFrom question items first (new ++ ys)
first_went_on question items first old new ys work size goes =
    appended question items first new ys (worked_on question items first old new (front_work question items first old ys work) size goes) (subst (λ n. AreWorkFrom question items (first + n) ys) (sym size) (back_work question items first old ys work))

-- a queue of as many items, on which the work went on
went_on : (reader : ItemReader) (question : Question) (old new : List Progress) → IsQueued reader question old false → length new ≡ length old → ((items : List Item) (first : ℕ) → AreWorkFrom question items first old → AreWorkFrom question items first new) → IsQueued reader question new false
went_on reader question old new h size step =
    let items = items_by (kind_of reader) (taken_by reader) in
    record {
      asked = h.asked;
      few = omega (arith, h.few, size);
      work = subst (λ n. AreWorkFrom question items (given_by reader - n) new) (sym size) (step items (given_by reader - length old) h.work);
      goes_on = h.goes_on;
      most = h.most;
      settled = h.settled;
      waits = λ some. subst (λ n. TookAsNeeded (settled_by (kind_of reader)) (taken_by reader) (given_by reader - n)) (sym size) (h.waits (omega (arith, some, size)));
    }

-- one more part
items_of_more : (parts : List Part) (part : Part) → items_of_all (parts ++ part ∷ []) ≡ items_of_all parts ++ items_of part
items_of_more [] part = append-nil (items_of part)
items_of_more (first ∷ parts) part = ap (λ x. items_of first ++ x) (items_of_more parts part) ∙ sym (append_assoc (items_of first) (items_of_all parts) (items_of part))

-- how many items are queued
pub queued_count : (worked : List Progress) (begun : List Part) (cut : List Progress) → length (worked ++ (items_of_all begun ++ cut)) ≡ length worked + (length (items_of_all begun) + length cut)
queued_count worked begun cut = length-append worked (items_of_all begun ++ cut) ∙ ap (λ n. length worked + n) (length-append (items_of_all begun) cut)

more_count : (parts : List Part) (part : Part) → length (items_of_all (parts ++ part ∷ [])) ≡ length (items_of_all parts) + length (items_of part)
more_count parts part = ap length (items_of_more parts part) ∙ length-append (items_of_all parts) (items_of part)

-- the work on what was cut is begun
pub begun_size : (worked cut : List Progress) (begun begun' : List Part) (part : Part) → begun' ≡ begun ++ part ∷ [] → length (items_of part) ≡ length cut → length (worked ++ (items_of_all begun' ++ [])) ≡ length (worked ++ (items_of_all begun ++ cut))
begun_size worked cut begun begun' part is size =
    let more = ap (λ b. length (items_of_all b)) is ∙ more_count begun part in
    omega (arith, queued_count worked begun' [], queued_count worked begun cut, more, size)

pub begun_queue : (reader : ItemReader) (question : Question) (worked cut : List Progress) (begun begun' : List Part) (part : Part) → begun' ≡ begun ++ part ∷ [] → length (items_of part) ≡ length cut → AllGoOn question cut (items_of part)
    → IsQueued reader question (worked ++ (items_of_all begun ++ cut)) false → IsQueued reader question (worked ++ (items_of_all begun' ++ [])) false
begun_queue reader question worked cut begun begun' part is size goes h =
    let A = items_of_all begun in
    let items_are : items_of_all begun' ++ [] ≡ A ++ items_of part = append-nil (items_of_all begun') ∙ ap items_of_all is ∙ items_of_more begun part in
    went_on reader question _ _ h (begun_size worked cut begun begun' part is size) (λ items first work.
    subst (λ x. AreWorkFrom question items first (worked ++ x)) (sym items_are)
    (appended question items first worked (A ++ items_of part) (front_work question items first worked (A ++ cut) work)
    (last_went_on question items (first + length worked) A cut (items_of part) (back_work question items first worked (A ++ cut) work) size goes)))

-- the work on the first part has ended
pub ended_size : (worked cut : List Progress) (begun begun' : List Part) (part : Part) → begun ≡ part ∷ begun' → length worked ≡ length (items_of part) → length (worked ++ (items_of_all begun' ++ cut)) ≡ length (items_of_all begun ++ cut)
ended_size worked cut begun begun' part is size =
    let more = ap (λ b. length (items_of_all b)) is ∙ length-append (items_of part) (items_of_all begun') in
    omega (arith, queued_count worked begun' cut, length-append (items_of_all begun) cut, more, size)

pub ended_queue : (reader : ItemReader) (question : Question) (worked cut : List Progress) (begun begun' : List Part) (part : Part) → begun ≡ part ∷ begun' → length worked ≡ length (items_of part) → AllGoOn question (items_of part) worked
    → IsQueued reader question (items_of_all begun ++ cut) false → IsQueued reader question (worked ++ (items_of_all begun' ++ cut)) false
ended_queue reader question worked cut begun begun' part is size goes h =
    let A = items_of_all begun' in
    let items_are : items_of_all begun ++ cut ≡ items_of part ++ (A ++ cut) = ap (λ b. items_of_all b ++ cut) is ∙ append_assoc (items_of part) A cut in
    went_on reader question _ _ h (ended_size worked cut begun begun' part is size) (λ items first work.
    first_went_on question items first (items_of part) worked (A ++ cut) (subst (λ x. AreWorkFrom question items first x) items_are work) size goes)

-- what is cut of a queue is asked about
pub cut_asked : (reader : ItemReader) (question : Question) (worked cut : List Progress) (begun : List Part) → IsQueued reader question (worked ++ (items_of_all begun ++ cut)) false → AreAsked question cut
cut_asked reader question worked cut begun h =
    let items = items_by (kind_of reader) (taken_by reader) in
    let A = items_of_all begun in
    let first = given_by reader - length (worked ++ (A ++ cut)) in
    all_asked question items (first + length worked + length A) cut (back_work question items (first + length worked) A cut (back_work question items first worked (A ++ cut) h.work))

-- what holds of each part holds of the first and of those behind it
pub first_part : (P : Part → Type 0) (part : Part) (rest parts : List Part) → parts ≡ part ∷ rest → All P parts → P part
first_part P part rest parts is all = (subst (All P) is all) 0 part (omega arith)

pub rest_parts : (P : Part → Type 0) (part : Part) (rest parts : List Part) → parts ≡ part ∷ rest → All P parts → All P rest
rest_parts P part rest parts is all = λ k d less. (subst (All P) is all) (suc k) d (omega (arith, less))

-- of no part
pub no_part : (P : Part → Type 0) (parts : List Part) → parts ≡ [] → All P parts
no_part P parts none = subst (All P) (sym none) (λ k d less. absurd (omega (arith, less)))

-- some item is queued where the work on one has ended, some part is begun or some item is cut
pub some_item : (worked cut : List Progress) (begun : List Part) → All (λ part. 1 ≤ length (items_of part)) begun → 1 ≤ length worked + (length begun + length cut) → 1 ≤ length (worked ++ (items_of_all begun ++ cut))
some_item worked cut [] each some = omega (arith, queued_count worked [] cut, some)
some_item worked cut (part ∷ parts) each some = omega (arith, queued_count worked (part ∷ parts) cut, length-append (items_of part) (items_of_all parts), each 0 part (omega arith))

-- no item
pub no_item : (worked cut : List Progress) (begun : List Part) → worked ≡ [] → begun ≡ [] → cut ≡ [] → worked ++ (items_of_all begun ++ cut) ≡ []
no_item worked cut begun no_work no_part_begun no_cut = ap (λ w. w ++ (items_of_all begun ++ cut)) no_work ∙ ap (λ b. items_of_all b ++ cut) no_part_begun ∙ no_cut

-- one item alone, where none was queued
pub one_item : (worked cut cut' : List Progress) (begun : List Part) (p : Progress) → worked ++ (items_of_all begun ++ cut) ≡ [] → cut' ≡ cut ++ p ∷ [] → worked ++ (items_of_all begun ++ cut') ≡ p ∷ []
one_item worked cut cut' begun p none one =
    let A = items_of_all begun in
    ap (λ x. worked ++ (A ++ x)) one ∙ ap (λ x. worked ++ x) (sym (append_assoc A cut (p ∷ []))) ∙ sym (append_assoc worked (A ++ cut) (p ∷ [])) ∙ ap (λ x. x ++ p ∷ []) none
