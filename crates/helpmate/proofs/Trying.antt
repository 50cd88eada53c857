-- Moves that were tried one after the other, and the calls of a place that were made by it.
use Rattle.std.proofs.Common.{◌≡◌, ℕ, zero, suc, ◌+◌, ◌-◌, ◌<◌, ◌≤◌, List, [], ◌∷◌, ◌++◌, length, get_or, take, Option, Some, None, Result, Ok, inl, inr, refl, sym, ◌∙◌, ap, subst, arith}
use Rattle.std.specs.List.{Contains}
use Rattle.std.proofs.lemmas.List.{take_more, take_all}
use Rattle.std.proofs.lemmas.List.Elements.{Contains-append_right, Contains-push, Contains-push_cases}
use Rattle.cha_list.specs.declared.memory.NoMemory.{NoMemory}
use Rattle.cha_board.specs.declared.men.Color.{Color}
use Rattle.cha_board.specs.Men.{other_color}
use Rattle.cha_board.specs.Board.{Board}
use Rattle.cha_moves.specs.Step.{Move}
use Rattle.cha_moves.specs.Moves.{after, legal}
use Rattle.cha_moves.specs.Ends.{IsMated, HasNoMateWithin}
use Rattle.cha_moves.proofs.Contained.{not_in_nothing, Contains-cons_here}
use Rattle.cha_fact.specs.declared.calls.Probe.{Probe}
use Rattle.cha_fact.specs.declared.calls.Probe.TheVariants.{Found, Miss, Refused}
use Rattle.cha_fact.specs.declared.calls.Stored.{Stored}
use Rattle.cha_fact.specs.Truths.{Claim}
use Rattle.cha_fact.specs.Keys.{key_of}
use Rattle.cha_fact.specs.Entries.{Entry, probe_entry, store_entry, none_within, HasProbe, HasFound, HasStore, IsSearched}
use Rattle.cha_fact.proofs.Searching.{front_within, back_within, searched_more}
use Rattle.helpmate.specs.declared.answers.RoundAnswer.{RoundAnswer}
use Rattle.helpmate.specs.declared.answers.RoundAnswer.TheVariants.{NoneWithin}
use Rattle.helpmate.specs.declared.answers.RoundDone.{RoundDone}
use Rattle.helpmate.specs.Rounds.{decided_by, AsksFirst, IsLeft, KeepsNone, led_answer, AreExpandedAfter, AreExpandedBy, FollowsProbe, RoundCalls}
use Rattle.helpmate.specs.Searches.{AreSearched, IsExpanded, Expands, BeginsWithProbe, Searches, RootSearches}
use Rattle.helpmate.proofs.Saying.{says_none}
use Rattle.helpmate.proofs.Expanding.{AreCountedBy, AfterMove, AreExpandedByAll, none_by_all, more_by_all, ended_after, all_after, with_the_root, left_alone, not_asked_for}

-- after none of these moves there is a mate within so many plies
unfoldable pub HaveNoMate : Board → Color → ℕ → List Move → Type 0
HaveNoMate q w d ms = (m : Move) → Contains ms m → HasNoMateWithin (after q m) w d

-- what holds of some moves and of one more
one_more : (P : Move → Type 0) (ms : List Move) (i : ℕ) (m : Move) → ((x : Move) → Contains (take i ms) x → P x) → P m → i < length ms → m ≡ get_or ms i m → (x : Move) → Contains (take (i + 1) ms) x → P x
one_more P ms i m before here inside at x there =
    let L : List Move → Type 0 = λ l. Contains l x in
    elim (Contains-push_cases (take i ms) (get_or ms i m) x (subst L (take_more ms i m inside) there)) [
      | inl h ↦ before x h
      | inr e ↦ subst P (at ∙ e) here
    ]

pub no_mate_yet : (q : Board) (w : Color) (d : ℕ) → HaveNoMate q w d []
unfolding HaveNoMate
no_mate_yet q w d m there = absurd (not_in_nothing m there)

pub no_mate_more : (q : Board) (w : Color) (d : ℕ) (ms : List Move) (i : ℕ) (m : Move) → HaveNoMate q w d (take i ms) → HasNoMateWithin (after q m) w d → i < length ms → m ≡ get_or ms i m → HaveNoMate q w d (take (i + 1) ms)
unfolding HaveNoMate
no_mate_more q w d ms i m before here inside at = one_more (λ x. HasNoMateWithin (after q x) w d) ms i m before here inside at

-- no position after a legal move has a mate within one ply less
pub no_mate_at_all : (q : Board) (w : Color) (d : ℕ) (ms : List Move) (i : ℕ) → HaveNoMate q w (d - 1) (take i ms) → length ms ≤ i → ms ≡ legal q → (IsMated q (other_color w) → ⊥) → HasNoMateWithin q w d
unfolding HaveNoMate
no_mate_at_all q w d ms i all end listed running [] few line = running line
no_mate_at_all q w d ms i all end listed running (m ∷ rest) few line =
    let L : List Move → Type 0 = λ l. Contains l m in
    all m (subst L (sym (take_all i ms end ∙ listed)) line.0) rest (omega arith) line.1

-- each position after one of these moves was searched without a mate, by calls that were made from one state of a place to a
-- later one, and n positions were expanded
unfoldable pub Tried : {S : Type 0} → (S → List Entry → S → Type 0) → S → S → Board → Color → ℕ → List Move → ℕ → Type 0
Tried made old new q w d ms n = (entries : List Entry) × made old entries new × AreSearched entries q w d ms × AreExpandedByAll (AfterMove q w d) ms entries n

pub none_tried : {S : Type 0} (made : S → List Entry → S → Type 0) (s : S) (q : Board) (w : Color) (d n : ℕ) → made s [] s → n ≡ 0 → Tried made s s q w d [] n
unfolding Tried AreSearched
none_tried made s q w d n none nothing = ([], none, (λ m there. absurd (not_in_nothing m there)), none_by_all (AfterMove q w d) n nothing)

-- what a search expanded, by its entries
counted : {S : Type 0} (made : S → List Entry → S → Type 0) (old new : S) (q r : Board) (w : Color) (d positions : ℕ) (m : Move) (result : Result RoundAnswer NoMemory) (answer : RoundAnswer)
    → (h : Searches made old new r w d positions result) → result ≡ Ok answer → r ≡ after q m → AfterMove q w d m h.entries answer positions
unfolding AreCountedBy AsksFirst BeginsWithProbe
counted made old new q r w zero positions m result answer h ends next =
    subst (λ (b : Board). AreCountedBy h.entries b w zero answer positions) next (not_asked_for h.entries r w zero positions answer (omega arith) (h.last (omega arith) answer ends))
counted made old new q r w (suc zero) positions m result answer h ends next =
    subst (λ (b : Board). AreCountedBy h.entries b w (suc zero) answer positions) next (not_asked_for h.entries r w (suc zero) positions answer (omega arith) (h.last (omega arith) answer ends))
counted made old new q r w (suc (suc d)) positions m result answer h ends next =
    let first = h.first (omega arith) in
    let here : AreCountedBy h.entries r w (suc (suc d)) answer positions = (first.0, first.1, first.2, first.3 answer ends) in
    subst (λ (b : Board). AreCountedBy h.entries b w (suc (suc d)) answer positions) next here

pub one_more_tried : {S : Type 0} (made : S → List Entry → S → Type 0) (old mid new : S) (q r : Board) (w : Color) (d positions n v : ℕ) (ms : List Move) (i : ℕ) (m : Move) (result : Result RoundAnswer NoMemory)
    → ((a b c : S) (xs ys : List Entry) → made a xs b → made b ys c → made a (xs ++ ys) c)
    → Tried made old mid q w d (take i ms) n → Searches made mid new r w d positions result → result ≡ Ok NoneWithin → r ≡ after q m → i < length ms → m ≡ get_or ms i m → v ≡ n + positions → Tried made old new q w d (take (i + 1) ms) v
unfolding Tried AreSearched
one_more_tried made old mid new q r w d positions n v ms i m result both before here none next inside at sum =
    let xs = before.0 in
    let ys = here.entries in
    let P : Board → Type 0 = λ b. IsSearched ys b w d in (
      xs ++ ys,
      both old mid new xs ys before.1 here.entered,
      one_more (λ x. IsSearched (xs ++ ys) (after q x) w d) ms i m (λ x there. searched_more xs (xs ++ ys) (front_within xs ys) (after q x) w d (before.2 x there))
          (searched_more ys (xs ++ ys) (back_within xs ys) (after q m) w d (subst P next (here.searched none))) inside at,
      more_by_all (AfterMove q w d) ms i m xs ys n positions v before.3 (counted made mid new q r w d positions m result NoneWithin here none next) inside at sum,
    )

-- the calls of an expansion that was refused memory
pub ends_refused : {S : Type 0} (made : S → List Entry → S → Type 0) (old mid new : S) (q r : Board) (w : Color) (d e positions n k : ℕ) (ms : List Move) (inner result : Result RoundAnswer NoMemory)
    → ((a b c : S) (xs ys : List Entry) → made a xs b → made b ys c → made a (xs ++ ys) c)
    → Tried made old mid q w e ms n → Searches made mid new r w e k inner → ((a : RoundAnswer) → result ≡ Ok a → ⊥) → Expands made old new q w d positions result
unfolding Tried Expands
ends_refused made old mid new q r w d e positions n k ms inner result both tried here refused =
    (tried.0 ++ here.entries, both old mid new tried.0 here.entries tried.1 here.entered, (λ same. absurd (refused NoneWithin same)), (λ a same. absurd (refused a same)))

-- no move was tried, since the position is left, or memory was refused
pub ends_at_once : {S : Type 0} (made : S → List Entry → S → Type 0) (s : S) (q : Board) (w : Color) (d positions : ℕ) (result : Result RoundAnswer NoMemory)
    → made s [] s → 0 < d → positions ≡ 0 → (result ≡ Ok NoneWithin → ⊥) → ((a : RoundAnswer) → result ≡ Ok a → IsLeft q w a) → Expands made s s q w d positions result
unfolding Expands
ends_at_once made s q w d positions result none some nothing other left = ([], none, (λ same. absurd (other same)), (λ a same. left_alone q w d positions a some nothing (left a same)))

pub ends_refused_at_once : {S : Type 0} (made : S → List Entry → S → Type 0) (s : S) (q : Board) (w : Color) (d positions : ℕ) (result : Result RoundAnswer NoMemory)
    → made s [] s → ((a : RoundAnswer) → result ≡ Ok a → ⊥) → Expands made s s q w d positions result
unfolding Expands
ends_refused_at_once made s q w d positions result none refused = ([], none, (λ same. absurd (refused NoneWithin same)), (λ a same. absurd (refused a same)))

pub the_answer : (a b : RoundAnswer) (o : Result RoundAnswer NoMemory) → o ≡ Ok a → o ≡ Ok b → a ≡ b
the_answer a b o e f = cc

-- a search below ended otherwise than without a mate
pub ends_below : {S : Type 0} (made : S → List Entry → S → Type 0) (old mid new : S) (q r : Board) (w : Color) (d e positions n k : ℕ) (ms : List Move) (i : ℕ) (m : Move) (inner result : Result RoundAnswer NoMemory) (end answer : RoundAnswer)
    → ((a b c : S) (xs ys : List Entry) → made a xs b → made b ys c → made a (xs ++ ys) c)
    → Tried made old mid q w e (take i ms) n → Searches made mid new r w e k inner → inner ≡ Ok end → result ≡ Ok answer → (end ≡ NoneWithin → ⊥) → (answer ≡ NoneWithin → ⊥) → answer ≡ led_answer m end
    → r ≡ after q m → i < length ms → m ≡ get_or ms i m → ms ≡ legal q → d ≡ e + 1 → 0 < e → (IsMated q (other_color w) → ⊥) → positions ≡ n + k + 1 → Expands made old new q w d positions result
unfolding Tried Expands
ends_below made old mid new q r w d e positions n k ms i m inner result end answer both tried here ended ends other otherwise led next inside at listed deep some running sum =
    let xs = tried.0 in
    let ys = here.entries in
    let after_all = ended_after (AfterMove q w e) (KeepsNone q w d) ms i m xs ys n k (n + k) answer end tried.3 (counted made mid new q r w e k m inner end here ended next) inside at refl other led in
    let L : List Move → Type 0 = λ l. AreExpandedAfter (AfterMove q w e) (KeepsNone q w d) l (xs ++ ys) answer (n + k) in
    let whole = with_the_root q w d e (n + k) positions (xs ++ ys) answer deep some running (subst L listed after_all) sum in
    let A : RoundAnswer → Type 0 = λ a. AreExpandedBy (xs ++ ys) q w d a positions in (
      xs ++ ys,
      both old mid new xs ys tried.1 here.entered,
      (λ same. absurd (otherwise (the_answer answer NoneWithin result ends same))),
      (λ a same. subst A (the_answer answer a result ends same) whole),
    )

-- all legal moves were tried, and what came out was given to keep
pub all_tried : {S : Type 0} (made : S → List Entry → S → Type 0) (old mid new : S) (q : Board) (w : Color) (d positions n : ℕ) (ms : List Move) (i : ℕ) (row : Claim) (reply : Stored)
    → ((a b c : S) (xs ys : List Entry) → made a xs b → made b ys c → made a (xs ++ ys) c)
    → Tried made old mid q w (d - 1) (take i ms) n → length ms ≤ i → ms ≡ legal q → made mid (store_entry row reply ∷ []) new → row ≡ none_within q w d → 1 < d → (IsMated q (other_color w) → ⊥) → positions ≡ n + 1
    → Expands made old new q w d positions (Ok NoneWithin)
unfolding Tried Expands IsExpanded AreSearched HasStore
all_tried made old mid new q w d positions n ms i row reply both tried end listed stored is deep running sum =
    let xs = tried.0 in
    let last = store_entry (none_within q w d) reply in
    let same_moves = take_all i ms end ∙ listed in
    let M : Claim → Type 0 = λ r. made mid (store_entry r reply ∷ []) new in
    let B : List Move → Type 0 = λ l. AreExpandedByAll (AfterMove q w (d - 1)) l xs n in
    let whole = with_the_root q w d (d - 1) n positions (xs ++ last ∷ []) NoneWithin (omega (arith, deep)) (omega (arith, deep)) running (all_after (AfterMove q w (d - 1)) (KeepsNone q w d) (legal q) xs (last ∷ []) n (subst B same_moves tried.3) (reply, refl)) sum in
    let A : RoundAnswer → Type 0 = λ a. AreExpandedBy (xs ++ last ∷ []) q w d a positions in (
      xs ++ last ∷ [],
      both old mid new xs (last ∷ []) tried.1 (subst M is stored),
      (λ same. (
        (reply, Contains-push xs last),
        (λ m there.
            let L : List Move → Type 0 = λ l. Contains l m in
            searched_more xs (xs ++ last ∷ []) (front_within xs (last ∷ [])) (after q m) w (d - 1) (tried.2 m (subst L (sym same_moves) there))),
      )),
      (λ a same. subst A (the_answer NoneWithin a (Ok NoneWithin) refl same) whole),
    )

found_here : (entries : List Entry) (q : Board) (w : Color) (d : ℕ) (row : Claim) → Contains entries (probe_entry (key_of q w) (Found row)) → decided_by d row.fact ≡ Some NoneWithin → HasFound entries q w d
unfolding HasFound
found_here entries q w d row there e = (let s = says_none d row.fact e in (row, s.0, s.1, s.2, there))

by_found : (entries : List Entry) (q : Board) (w : Color) (d : ℕ) → HasFound entries q w d → IsSearched entries q w d
by_found entries q w zero found = tt
by_found entries q w (suc zero) found = tt
by_found entries q w (suc (suc d)) found = inl found

-- for one ply or none nothing is asked
not_asked : (entries : List Entry) (q : Board) (w : Color) (d : ℕ) → d ≤ 1 → IsSearched entries q w d
not_asked entries q w zero few = tt
not_asked entries q w (suc zero) few = tt
not_asked entries q w (suc (suc d)) few = absurd (omega (arith, few))

pub the_same : (a b : RoundAnswer) (o : Option RoundAnswer) → o ≡ Some a → o ≡ Some b → a ≡ b
the_same a b o e f = cc

-- what was found decides
pub follows_found : (q : Board) (w : Color) (d positions : ℕ) (reply : Probe) (row : Claim) (answer : RoundAnswer) → reply ≡ Found row → decided_by d row.fact ≡ Some answer → positions ≡ 0 → FollowsProbe q w d reply [] answer positions
follows_found q w d positions reply row answer is decided none =
    let F : Probe → Type 0 = λ p. FollowsProbe q w d p [] answer positions in
    subst F (sym is) ((λ b says. (the_same answer b (decided_by d row.fact) decided says, none, refl)), (λ not. cc))

pub decides : {S : Type 0} (made : S → List Entry → S → Type 0) (old new : S) (q : Board) (w : Color) (d positions : ℕ) (reply : Probe) (row : Claim) (answer : RoundAnswer) (result : Result RoundAnswer NoMemory)
    → made old (probe_entry (key_of q w) reply ∷ []) new → reply ≡ Found row → decided_by d row.fact ≡ Some answer → positions ≡ 0 → result ≡ Ok answer → RootSearches made old new q w d positions result
unfolding BeginsWithProbe
decides made old new q w d positions reply row answer result entered is decided none ends =
    let first = probe_entry (key_of q w) reply in
    let there : Contains (first ∷ []) (probe_entry (key_of q w) (Found row)) = Contains-cons_here first [] (probe_entry (key_of q w) (Found row)) (ap (λ (p : Probe). probe_entry (key_of q w) p) is) in
    record {
      entries = first ∷ [];
      entered = entered;
      searched = λ same. by_found (first ∷ []) q w d (found_here (first ∷ []) q w d row there (decided ∙ ap Some (the_answer answer NoneWithin result ends same)));
      first = (
        reply,
        [],
        refl,
        (λ a same.
            let A : RoundAnswer → Type 0 = λ x. FollowsProbe q w d reply [] x positions in
            subst A (the_answer answer a result ends same) (follows_found q w d positions reply row answer is decided none)),
      );
    }

-- a search whose position was asked for
pub of_root : {S : Type 0} (made : S → List Entry → S → Type 0) (old new : S) (q : Board) (w : Color) (d positions : ℕ) (result : Result RoundAnswer NoMemory) → RootSearches made old new q w d positions result → 1 < d → Searches made old new q w d positions result
of_root made old new q w d positions result h deep = record { entries = h.entries; entered = h.entered; searched = h.searched; first = λ deep. h.first; last = λ few. absurd (omega (arith, few, deep)) }

by_parts : (entries : List Entry) (q : Board) (w : Color) (d : ℕ) → HasProbe entries q w → HasStore entries q w d → AreSearched entries q w (d - 1) (legal q) → IsSearched entries q w d
unfolding AreSearched
by_parts entries q w zero probed stored all = tt
by_parts entries q w (suc zero) probed stored all = tt
by_parts entries q w (suc (suc d)) probed stored all =
    let same : suc (suc d) - 1 ≡ suc d = omega arith in
    let P : ℕ → Type 0 = λ n. (m : Move) → Contains (legal q) m → IsSearched entries (after q m) w n in
    inr (probed, stored, subst P same all)

store_later : (e : Entry) (entries : List Entry) (q : Board) (w : Color) (d : ℕ) → HasStore entries q w d → HasStore (e ∷ entries) q w d
unfolding HasStore
store_later e entries q w d has = (has.0, Contains-append_right (e ∷ []) entries _ has.1)

probe_first : (entries : List Entry) (q : Board) (w : Color) (reply : Probe) → HasProbe (probe_entry (key_of q w) reply ∷ entries) q w
unfolding HasProbe
probe_first entries q w reply = (reply, Contains-cons_here (probe_entry (key_of q w) reply) entries (probe_entry (key_of q w) reply) refl)

all_later : (e : Entry) (entries : List Entry) (q : Board) (w : Color) (d : ℕ) (ms : List Move) → AreSearched entries q w d ms → AreSearched (e ∷ entries) q w d ms
unfolding AreSearched
all_later e entries q w d ms all m there = searched_more entries (e ∷ entries) (back_within (e ∷ []) entries) (after q m) w d (all m there)

-- what was found does not decide, or nothing was found, and the position was expanded
pub expanded : {S : Type 0} (made : S → List Entry → S → Type 0) (old mid new : S) (q : Board) (w : Color) (d positions : ℕ) (reply : Probe) (result : Result RoundAnswer NoMemory)
    → ((a b c : S) (xs ys : List Entry) → made a xs b → made b ys c → made a (xs ++ ys) c)
    → made old (probe_entry (key_of q w) reply ∷ []) mid → Expands made mid new q w d positions result → 1 < d → ((rest : List Entry) (a : RoundAnswer) → AreExpandedBy rest q w d a positions → FollowsProbe q w d reply rest a positions) → Searches made old new q w d positions result
unfolding BeginsWithProbe Expands IsExpanded
expanded made old mid new q w d positions reply result both entered h deep follows =
    let first = probe_entry (key_of q w) reply in
    let rest = h.0 in
    record {
      entries = first ∷ rest;
      entered = both old mid new (first ∷ []) rest entered h.1;
      searched = λ same. (let parts = h.2 same in by_parts (first ∷ rest) q w d (probe_first rest q w reply) (store_later first rest q w d parts.0) (all_later first rest q w (d - 1) (legal q) parts.1));
      first = λ _. (reply, rest, refl, (λ a same. follows rest a (h.3 a same)));
      last = λ few. absurd (omega (arith, few, deep));
    }

-- nothing is decided by what was found
pub undecided : (q : Board) (w : Color) (d positions : ℕ) (reply : Probe) (row : Claim) → reply ≡ Found row → decided_by d row.fact ≡ None → (rest : List Entry) (a : RoundAnswer) → AreExpandedBy rest q w d a positions → FollowsProbe q w d reply rest a positions
undecided q w d positions reply row is none rest a expanded =
    let F : Probe → Type 0 = λ p. FollowsProbe q w d p rest a positions in
    subst F (sym is) ((λ b says. cc), (λ not. expanded))

pub missed : (q : Board) (w : Color) (d positions : ℕ) (reply : Probe) → reply ≡ Miss → (rest : List Entry) (a : RoundAnswer) → AreExpandedBy rest q w d a positions → FollowsProbe q w d reply rest a positions
missed q w d positions reply is rest a expanded = (let F : Probe → Type 0 = λ p. FollowsProbe q w d p rest a positions in subst F (sym is) expanded)

pub refused : (q : Board) (w : Color) (d positions : ℕ) (reply : Probe) → reply ≡ Refused → (rest : List Entry) (a : RoundAnswer) → AreExpandedBy rest q w d a positions → FollowsProbe q w d reply rest a positions
refused q w d positions reply is rest a expanded = (let F : Probe → Type 0 = λ p. FollowsProbe q w d p rest a positions in subst F (sym is) expanded)

the_done : (a b : RoundDone) (o : Result RoundDone NoMemory) → o ≡ Ok a → o ≡ Ok b → a ≡ b
the_done a b o e f = cc

-- a round of one ply or none asks once
pub asks_once : {S : Type 0} (made : S → List Entry → S → Type 0) (old new : S) (q : Board) (w : Color) (d positions : ℕ) (reply : Probe) (result : Result RoundAnswer NoMemory) → made old (probe_entry (key_of q w) reply ∷ []) new → d ≤ 1 → ((a : RoundAnswer) → result ≡ Ok a → FollowsProbe q w d reply [] a positions) → RootSearches made old new q w d positions result
unfolding BeginsWithProbe
asks_once made old new q w d positions reply result entered few follows =
    let first = probe_entry (key_of q w) reply in
    record {
      entries = first ∷ [];
      entered = entered;
      searched = λ same. not_asked (first ∷ []) q w d few;
      first = (reply, [], refl, follows);
    }

-- the calls of a search are those of its round
pub round_of_search : {S : Type 0} (made : S → List Entry → S → Type 0) (old new : S) (q : Board) (w : Color) (d positions : ℕ) (inner : Result RoundAnswer NoMemory) (result : Result RoundDone NoMemory)
    → RootSearches made old new q w d positions inner → ((done : RoundDone) → result ≡ Ok done → (inner ≡ Ok done.round) × (done.positions ≡ positions)) → RoundCalls made old new q w d result
unfolding BeginsWithProbe
round_of_search made old new q w d positions inner result h ends =
    let begins = h.first in
    let M : List Entry → Type 0 = λ es. made old es new in
    let E : List Entry → Type 0 = λ es. IsSearched es q w d in
    record {
      reply = begins.0;
      rest = begins.1;
      entered = subst M begins.2 h.entered;
      follows = λ done same. (
          let e = ends done same in
          let U : ℕ → Type 0 = λ n. FollowsProbe q w d begins.0 begins.1 done.round n in
          subst U (sym e.1) (begins.3 done.round e.0));
      searched = λ done same none. subst E begins.2 (h.searched ((ends done same).0 ∙ ap Ok none));
    }

pub round_ends : (inner : Result RoundAnswer NoMemory) (a : RoundAnswer) (n : ℕ) (o : Result RoundDone NoMemory) (done : RoundDone) → inner ≡ Ok a → o ≡ Ok (record { round = a; positions = n }) → o ≡ Ok done → (inner ≡ Ok done.round) × (done.positions ≡ n)
round_ends inner a n o done is ends same =
    let one : RoundDone = record { round = a; positions = n } in
    let e = the_done one done o ends same in
    let A : RoundDone → Type 0 = λ x. inner ≡ Ok x.round in
    (subst A e is, sym (ap (λ (x : RoundDone). x.positions) e))
