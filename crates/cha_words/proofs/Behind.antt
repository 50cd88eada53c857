-- Words behind a command, read one after the other.
use Rattle.std.proofs.Common.{◌≡◌, ℕ, suc, ◌+◌, ◌-◌, ◌<◌, ◌≤◌, List, [], ◌∷◌, ◌++◌, map, length, get_or, take, drop, codes, Some, None, String, Global, string_bytes, refl, sym, ap, ◌∙◌, subst, arith, add-one, append-nil}
use Rattle.std.proofs.lemmas.List.{take-append-drop, take_all, length-map}
use Rattle.cha_words.specs.declared.orders.Order.{Order}
use Rattle.cha_words.specs.declared.orders.Order.TheVariants.{CheckCert}
use Rattle.cha_words.specs.declared.table.Command.{Command}
use Rattle.cha_words.specs.declared.table.Setting.{Setting}
use Rattle.cha_words.specs.declared.table.Setting.TheVariants.{Budget, Workers, Depth, Entries, Certs, Json, San, Fens, FlaggedDraws, Changed}
use Rattle.cha_words.specs.declared.given.Given.{Given}
use Rattle.cha_words.specs.declared.given.Said.TheVariants.{Nothing}
use Rattle.cha_words.specs.declared.given.Progress.{Progress}
use Rattle.cha_words.specs.declared.faults.Expected.{Expected}
use Rattle.cha_words.specs.declared.faults.Expected.TheVariants.{First, Behind}
use Rattle.cha_words.specs.Language.{command_named, range, order_by, order_of}
use Rattle.cha_words.specs.Reading.{value_in, order_from, order_with, IsGivenIn, Stands, TakesWord}
use Rattle.cha_words.specs.Faults.{IsFaultOf}
use Rattle.cha_words.proofs.Cutting.{cut_same}
use Rattle.cha_words.proofs.Completing.{goes_on}

-- nothing is given
abbrev pub nothing : Given
nothing = record { budget = None; workers = None; depth = None; entries = None; certs = None; json = None; san = None; fens = None; flagged_draws = None; changed = None; said = Nothing }

abbrev start : Progress
start = record { given = nothing; awaited = None }

pub started : (c : Command) (more : List (List ℕ)) → order_by c more ≡ order_with c start more
unfolding order_by order_from
started c more = rw (cut_same more) refl

pub nothing_stands : (c : Command) → Stands c start
nothing_stands c = record { fits = record { settings = open_; said = tt }; awaits = tt }
  where
    open_ : (s : Setting) → IsGivenIn (range c s) (value_in s nothing)
    open_ Budget = tt
    open_ Workers = tt
    open_ Depth = tt
    open_ Entries = tt
    open_ Certs = tt
    open_ Json = tt
    open_ San = tt
    open_ Fens = tt
    open_ FlaggedDraws = tt
    open_ Changed = tt

-- one word more
pub next_word : (words : List (String Global)) (i : ℕ) (item : String Global) (text : List ℕ) → i < length words → item ≡ get_or words i item → text ≡ string_bytes item → (more : List (List ℕ)) → take (suc i) (map string_bytes words) ++ more ≡ take i (map string_bytes words) ++ (text ∷ more)
next_word [] i item text inside is reads more = absurd (omega (arith, inside))
next_word (word ∷ words) Prim.Native.Nat.zero item text inside is reads more = ap (λ t. t ∷ more) (sym (reads ∙ ap string_bytes is))
next_word (word ∷ words) (suc i) item text inside is reads more = ap (λ ws. string_bytes word ∷ ws) (next_word words i item text (omega (arith, inside)) is reads more)

abbrev Same : Command → List (List ℕ) → Progress → Type 0
Same c read p = (more : List (List ℕ)) → order_by c (read ++ more) ≡ order_with c p more

pub went_on : (c : Command) (p next : Progress) (words : List (String Global)) (i : ℕ) (text : List ℕ) → ((more : List (List ℕ)) → take (suc i) (map string_bytes words) ++ more ≡ take i (map string_bytes words) ++ (text ∷ more))
    → Same c (take i (map string_bytes words)) p → TakesWord c p text (Some next) → Same c (take (i + 1) (map string_bytes words)) next
unfolding TakesWord
went_on c p next words i text cut same takes = λ more. rw (add-one, cut more) (same (text ∷ more) ∙ takes.1 more)

pub stands_on : (c : Command) (p next : Progress) (text : List ℕ) → TakesWord c p text (Some next) → Stands c next
unfolding TakesWord
stands_on c p next text takes = takes.0

pub stopped : (c : Command) (p : Progress) (words : List (String Global)) (i : ℕ) (text : List ℕ) → ((more : List (List ℕ)) → take (suc i) (map string_bytes words) ++ more ≡ take i (map string_bytes words) ++ (text ∷ more))
    → Same c (take i (map string_bytes words)) p → TakesWord c p text None → (more : List (List ℕ)) → order_by c (take (suc i) (map string_bytes words) ++ more) ≡ None
unfolding TakesWord
stopped c p words i text cut same takes more = rw (cut more) (same (text ∷ more) ∙ takes more)

-- the fault at a word, and behind all words
pub fault_at : (c : Command) (p : Progress) (words : List (List ℕ)) (i : ℕ) → Stands c p → i ≤ length words → Same c (take i words) p → ((more : List (List ℕ)) → order_by c (take (suc i) words ++ more) ≡ None) → IsFaultOf (order_by c) words i (Behind c p)
fault_at c p words i stands within same stops =
    let goes = goes_on c p stands in record {
      refused = subst (λ ws. order_by c ws ≡ None) (take-append-drop (suc i) words) (stops (drop (suc i) words));
      within = within;
      before = (goes.0, goes.1, same goes.0 ∙ goes.2);
      wrong = λ inside. stops;
      stands = stands;
      expected = same;
    }

pub whole_words : (c : Command) (p : Progress) (words : List (List ℕ)) (i : ℕ) → length words ≤ i → Same c (take i words) p → order_by c words ≡ order_with c p []
whole_words c p words i at_end same = let all : take i words ≡ words = take_all i words at_end in sym (ap (order_by c) (append-nil (take i words) ∙ all)) ∙ same []

pub fault_end : (c : Command) (p : Progress) (words : List (List ℕ)) (i : ℕ) → Stands c p → i ≤ length words → length words ≤ i → Same c (take i words) p → order_with c p [] ≡ None → IsFaultOf (order_by c) words i (Behind c p)
fault_end c p words i stands within at_end same none =
    let goes = goes_on c p stands in record {
      refused = whole_words c p words i at_end same ∙ none;
      within = within;
      before = (goes.0, goes.1, same goes.0 ∙ goes.2);
      wrong = λ inside. absurd (omega (arith, inside, at_end));
      stands = stands;
      expected = same;
    }

-- the same behind the command's own word
behind_word : (c : Command) (word : List ℕ) (more : List (List ℕ)) → command_named word ≡ Some c → order_of (word ∷ more) ≡ order_by c more
unfolding order_of
behind_word c word more e = rw e refl

pub order_whole : (c : Command) (word : List ℕ) (words : List (List ℕ)) (order : Order) → command_named word ≡ Some c → order_by c words ≡ Some order → order_of (word ∷ words) ≡ Some order
order_whole c word words order e h = behind_word c word words e ∙ h

pub fault_whole : (c : Command) (word : List ℕ) (words : List (List ℕ)) (i : ℕ) (what : Expected) → command_named word ≡ Some c → IsFaultOf (order_by c) words i what → IsFaultOf order_of (word ∷ words) (suc i) what
fault_whole c word words i what e f = record {
  refused = behind_word c word words e ∙ f.refused;
  within = omega (arith, f.within);
  before = (f.before.0, f.before.1, behind_word c word (take i words ++ f.before.0) e ∙ f.before.2);
  wrong = λ inside more. behind_word c word (take (suc i) words ++ more) e ∙ f.wrong (omega (arith, inside)) more;
  stands = f.stands;
  expected = λ more. behind_word c word (take i words ++ more) e ∙ f.expected more;
}

-- words that begin with no command
check_ordered : order_of (codes "check" ∷ []) ≡ Some CheckCert
unfolding order_of order_by command_named
check_ordered = refl

pub no_command : (word : List ℕ) (words : List (List ℕ)) → command_named word ≡ None → IsFaultOf order_of (word ∷ words) 0 First
unfolding order_of
no_command word words e = record {
  refused = rw e refl;
  within = omega arith;
  before = (codes "check" ∷ [], CheckCert, check_ordered);
  wrong = λ inside more. rw e refl;
  stands = tt;
  expected = λ more. refl;
}

pub no_words : IsFaultOf order_of [] 0 First
unfolding order_of
no_words = record {
  refused = refl;
  within = omega arith;
  before = (codes "check" ∷ [], CheckCert, check_ordered);
  wrong = λ inside more. absurd (omega (arith, inside));
  stands = tt;
  expected = λ more. refl;
}

pub first_text : (words : List (String Global)) (item : String Global) (text : List ℕ) → 1 ≤ length words → item ≡ get_or words 0 item → text ≡ string_bytes item → map string_bytes words ≡ text ∷ map string_bytes (take (length words - 1) (drop 1 words))
first_text [] item text some is reads = absurd (omega (arith, some))
first_text (word ∷ words) item text some is reads =
    let all : take (length (word ∷ words) - 1) words ≡ words = take_all (length (word ∷ words) - 1) words (omega arith) in
    rw (all, reads, ← is) refl

pub no_texts : (words : List (String Global)) → length words ≤ 0 → map string_bytes words ≡ []
no_texts [] few = refl
no_texts (word ∷ words) few = absurd (omega (arith, few))

-- the number of the texts is that of the words
pub within : (words : List (String Global)) (i : ℕ) → i ≤ length words → i ≤ length (map string_bytes words)
within words i h = subst (λ n. i ≤ n) (sym (length-map words string_bytes)) h

pub beyond : (words : List (String Global)) (i : ℕ) → length words ≤ i → length (map string_bytes words) ≤ i
beyond words i h = subst (λ n. n ≤ i) (sym (length-map words string_bytes)) h
