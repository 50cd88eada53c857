-- What the rounds answer, and their calls from the first to the last.
use Rattle.std.proofs.Common.{◌≡◌, ℕ, ◌-◌, ◌%◌, ◌<◌, ◌≤◌, ◌⊎◌, List, [], ◌∷◌, ◌++◌, length, Option, Some, None, Result, Ok, Err, IfOk, inl, inr, refl, sym, ap, subst, arith}
use Rattle.std.specs.List.{Contains, slice_get}
use Rattle.std.proofs.Math.Nat.{mod-lt}
use Rattle.std.proofs.lemmas.Bool.{cases_lt}
use Rattle.std.proofs.lemmas.List.Elements.{Contains-push}
use Rattle.cha_list.specs.declared.memory.NoMemory.{NoMemory}
use Rattle.cha_board.specs.declared.men.Color.{Color}
use Rattle.cha_board.specs.Board.{Board}
use Rattle.cha_moves.specs.Step.{Move}
use Rattle.cha_moves.specs.Moves.{after, legal}
use Rattle.cha_moves.specs.Ends.{IsMatingLine, IsUnwinnable}
use Rattle.cha_moves.specs.Lines.{HasLines}
use Rattle.cha_moves.proofs.Contained.{Contains-cons_here}
use Rattle.cha_limits.specs.Bounds.{Bounds}
use Rattle.cha_fact.specs.declared.fact.Fact.{Fact}
use Rattle.cha_fact.specs.declared.fact.Fact.TheVariants.{Mate as MateFact, NoneWithin as NoneFact}
use Rattle.cha_fact.specs.declared.calls.Probe.{Probe}
use Rattle.cha_fact.specs.declared.calls.Probe.TheVariants.{Found, Miss, Refused}
use Rattle.cha_fact.specs.Keys.{key_of}
use Rattle.cha_fact.specs.Truths.{Claim}
use Rattle.cha_fact.specs.Entries.{Entry, probe_entry, store_entry, HasFound, IsSearched}
use Rattle.cha_fact.proofs.Searching.{front_within, back_within, searched_more}
use Rattle.helpmate.specs.declared.answers.RoundAnswer.{RoundAnswer}
use Rattle.helpmate.specs.declared.answers.RoundAnswer.TheVariants.{NoneWithin as NoneAnswer}
use Rattle.helpmate.specs.Rounds.{decided_by}
use Rattle.helpmate.proofs.Saying.{says_none}
use Rattle.helpmate.proofs.Trying.{the_same}
use Rattle.root_workers.specs.declared.task.RoundTask.{RoundTask}
use Rattle.root_workers.specs.declared.work.Work.{Work}
use Rattle.root_workers.specs.declared.answers.RoundsEnd.{RoundsEnd}
use Rattle.root_workers.specs.declared.answers.RoundsEnd.TheVariants.{Mate, NoneWithin}
use Rattle.root_workers.specs.Shares.{IsShare, AreSharesSearched, ShareCalls, AllGrow, AllGrowTo}
use Rattle.root_workers.specs.RoundAnswers.{IsMateEnd, IsEnd, IsAmple, IsDecidedEnd, FollowsFirst, IsUndecided, HasEndStore, IsEndStore, RoundsCalls, claim_of}
use Rattle.root_workers.specs.Deepens.{plies_of, IsFrom, DeepenCalls, KeepCalls, KeptCalls}
use Rattle.root_workers.proofs.Going.{the_end, none_depth}

-- lines of fewer moves are lines of at most more
lines_up : (q : Board) (d e n : ℕ) → d ≤ e → HasLines q d n → HasLines q e n
unfolding HasLines
lines_up q d e n few h = (h.0, h.1, h.2, (λ line there. let l = h.3 line there in (l.0, (let short = l.1 in omega (arith, few, short)))))

-- with an ample budget the rounds go to the limit
to_limit : (q : Board) (limits : Bounds) (d : ℕ) → IsAmple q limits → d ≤ limits.depth → (d ≡ limits.depth) ⊎ HasLines q d limits.budget → (d < limits.depth) ⊎ (limits.depth ≤ d) → d ≡ limits.depth
to_limit q limits d ample most (inl same) less = same
to_limit q limits d ample most (inr lines) (inl less) = absurd (ample (lines_up q d (limits.depth - 1) limits.budget (omega (arith, less)) lines))
to_limit q limits d ample most (inr lines) (inr least) = omega (arith, most, least)

ample_mate : (q : Board) (w : Color) (limits : Bounds) (end : RoundsEnd) → IsEnd q w limits end → (line : List Move) → IsAmple q limits → IsMatingLine q w line → length line ≤ limits.depth → IsMateEnd end
ample_mate q w limits (Mate found) e line ample mates short = tt
ample_mate q w limits (NoneWithin d) e line ample mates short =
    let same = to_limit q limits d ample e.2 e.3 (cases_lt d limits.depth) in
    absurd (e.0 line (omega (arith, same, short)) mates)

pub finds : (q : Board) (w : Color) (limits : Bounds) (result : Result RoundsEnd NoMemory) → IfOk result (λ (end : RoundsEnd). IsEnd q w limits end) → IfOk result (λ (end : RoundsEnd). (line : List Move) → IsAmple q limits → IsMatingLine q w line → length line ≤ limits.depth → IsMateEnd end)
finds q w limits (Ok end) e = ample_mate q w limits end e
finds q w limits (Err refused) e = tt

ample_none : (q : Board) (w : Color) (limits : Bounds) (end : RoundsEnd) → IsEnd q w limits end → IsAmple q limits → IsUnwinnable q w → end ≡ NoneWithin limits.depth
ample_none q w limits (Mate found) e ample none = absurd (none found e.0)
ample_none q w limits (NoneWithin d) e ample none = ap NoneWithin (to_limit q limits d ample e.2 e.3 (cases_lt d limits.depth))

pub finds_none : (q : Board) (w : Color) (limits : Bounds) (result : Result RoundsEnd NoMemory) → IfOk result (λ (end : RoundsEnd). IsEnd q w limits end) → IfOk result (λ (end : RoundsEnd). IsAmple q limits → IsUnwinnable q w → end ≡ NoneWithin limits.depth)
finds_none q w limits (Ok end) e = ample_none q w limits end e
finds_none q w limits (Err refused) e = tt

some_none : {A : Type 0} (a : A) (o : Option A) → o ≡ Some a → o ≡ None → ⊥
some_none a o e f = cc

-- what was found of no mate within so many plies is found among more entries
found_first : (q : Board) (w : Color) (reply : Probe) (rest : List Entry) (row : Claim) (d n : ℕ) → reply ≡ Found row → row.fact ≡ NoneFact n → d ≤ n → HasFound (probe_entry (key_of q w) reply ∷ rest) q w d
unfolding HasFound
found_first q w reply rest row d n is fact few = (row, n, few, fact, Contains-cons_here (probe_entry (key_of q w) reply) rest (probe_entry (key_of q w) (Found row)) (ap (λ (p : Probe). probe_entry (key_of q w) p) is))

-- the rounds that a found fact decides: there is no mate
pub decided_none : {S : Type 0} (made : S → List Entry → S → Type 0) (made_by : ℕ → S → List Entry → S → Type 0) (count : ℕ) (old new : S) (q : Board) (w : Color) (limits : Bounds) (reply : Probe) (row : Claim) (depth : ℕ)
    → made old (probe_entry (key_of q w) reply ∷ []) new → AllGrow made_by old new count → reply ≡ Found row → decided_by depth row.fact ≡ Some NoneAnswer → depth ≡ limits.depth
    → RoundsCalls made made_by count old new q w limits (Ok (NoneWithin depth))
decided_none made made_by count old new q w limits reply row depth entered grow is decided same =
    let one : RoundsEnd = NoneWithin depth in
    let dec : decided_by limits.depth row.fact ≡ Some NoneAnswer = subst (λ (n : ℕ). decided_by n row.fact ≡ Some NoneAnswer) same decided in
    record {
      reply = reply;
      rest = [];
      entered = entered;
      follows = λ end ends. subst (λ (x : RoundsEnd). FollowsFirst limits.depth reply [] x) (the_end one end (Ok one) refl ends)
          (subst (λ (p : Probe). FollowsFirst limits.depth p [] one) (sym is) (λ answer says. (
            subst (λ (a : RoundAnswer). IsDecidedEnd limits.depth a (NoneWithin depth)) (the_same NoneAnswer answer (decided_by limits.depth row.fact) dec says) (ap NoneWithin same),
            refl,
          )));
      stores = λ end ends und. absurd (some_none NoneAnswer (decided_by limits.depth row.fact) dec (subst (λ (p : Probe). IsUndecided limits.depth p) is und));
      few = λ end ends few und. absurd (some_none NoneAnswer (decided_by limits.depth row.fact) dec (subst (λ (p : Probe). IsUndecided limits.depth p) is und));
      searched = λ d ends deep none i m at. (
          let s = says_none depth row.fact decided in
          let f : depth ≡ d = none_depth depth d (the_end one (NoneWithin d) (Ok one) refl ends) in
          let few = s.1 in
          absurd (none (found_first q w reply [] row d s.0 is s.2 (omega (arith, few, f)))));
      grows = grow;
    }

follows_none : (depth : ℕ) (reply : Probe) (rest : List Entry) (end : RoundsEnd) → IsUndecided depth reply → FollowsFirst depth reply rest end
follows_none depth Miss rest end und = tt
follows_none depth Refused rest end und = tt
follows_none depth (Found row) rest end und = λ answer says. absurd (some_none answer (decided_by depth row.fact) says und)

ok_holds : (P : RoundsEnd → Type 0) (result : Result RoundsEnd NoMemory) (end : RoundsEnd) → IfOk result P → result ≡ Ok end → P end
ok_holds P result end holds is = subst (λ (r : Result RoundsEnd NoMemory). IfOk r P) is holds

two_least : (q : Board) (w : Color) (limits : Bounds) (d : ℕ) → IsEnd q w limits (NoneWithin d) → 2 ≤ d
two_least q w limits d holds = holds.1

one_searched : (entries : List Entry) (q : Board) (w : Color) (d : ℕ) (moves : List Move) (number count i : ℕ) (m : Move) → AreSharesSearched entries q w d moves number count → slice_get moves i ≡ Some m → i % count ≡ number → IsSearched entries (after q m) w d
unfolding AreSharesSearched
one_searched entries q w d moves number count i m searched at own = searched i m at own

-- the rounds after a first probe that does not decide
pub rounds_calls : {S : Type 0} (made : S → List Entry → S → Type 0) (made_by : ℕ → S → List Entry → S → Type 0) (count other from : ℕ) (old mid new : S) (q : Board) (w : Color) (limits : Bounds) (reply : Probe) (result : Result RoundsEnd NoMemory)
    → ((a b c : S) (xs ys : List Entry) → made a xs b → made b ys c → made a (xs ++ ys) c)
    → ((i : ℕ) (a b c : S) (xs ys : List Entry) → made_by i a xs b → made_by i b ys c → made_by i a (xs ++ ys) c)
    → 0 < count → other ≡ count → made old (probe_entry (key_of q w) reply ∷ []) mid → AllGrow made_by old mid count → IsUndecided limits.depth reply
    → ((d : ℕ) → d ≤ from → 2 ≤ d → (rest : List Entry) → HasFound (probe_entry (key_of q w) reply ∷ rest) q w d)
    → DeepenCalls made_by mid new q w from other result → KeptCalls made mid new q w limits.depth result
    → IfOk result (λ (end : RoundsEnd). IsEnd q w limits end) → IfOk result (λ (end : RoundsEnd). IsFrom from end)
    → RoundsCalls made made_by count old new q w limits result
unfolding DeepenCalls KeptCalls AllGrow
rounds_calls made made_by count other from old mid new q w limits reply result both both_by some same entered grow und known deepened kept ends least =
    let first = probe_entry (key_of q w) reply in
    record {
      reply = reply;
      rest = kept.0;
      entered = both old mid new (first ∷ []) kept.0 entered kept.1;
      follows = λ end is. follows_none limits.depth reply kept.0 end und;
      stores = λ end is u. (kept.2 end is).0;
      few = λ end is few u. (kept.2 end is).1 few;
      searched = λ d is deep none i m at. (
          let small : i % count < count = mod-lt i some in
          let g = grow (i % count) small in
          let c = deepened (i % count) (omega (arith, small, same)) in
          elim (cases_lt from d) [
            | inl less ↦ (
              g.0 ++ c.0,
              both_by (i % count) old mid new g.0 c.0 g.1 c.1,
              searched_more c.0 (g.0 ++ c.0) (back_within g.0 c.0) (after q m) w (d - 1) (one_searched c.0 q w (d - 1) (legal q) (i % count) other i m (c.2 d is less deep) at (ap (λ (n : ℕ). i % n) same)),
            )
            | inr few ↦ absurd (none (known d few (two_least q w limits d (ok_holds (λ (x : RoundsEnd). IsEnd q w limits x) result (NoneWithin d) ends is)) kept.0))
          ]);
      grows = λ i less. (
          let g = grow i less in
          let c = deepened i (omega (arith, less, same)) in
          (g.0 ++ c.0, both_by i old mid new g.0 c.0 g.1 c.1));
    }

-- a missed probe tells of no plies
pub known_missed : (q : Board) (w : Color) (reply : Probe) (d : ℕ) → d ≤ 0 → 2 ≤ d → (rest : List Entry) → HasFound (probe_entry (key_of q w) reply ∷ rest) q w d
known_missed q w reply d few many rest = absurd (omega (arith, few, many))

known_fact : (q : Board) (w : Color) (reply : Probe) (row : Claim) (fact : Fact) → reply ≡ Found row → row.fact ≡ fact → (d : ℕ) → d ≤ plies_of fact → 2 ≤ d → (rest : List Entry) → HasFound (probe_entry (key_of q w) reply ∷ rest) q w d
known_fact q w reply row (MateFact line) is same d few many rest = absurd (omega (arith, few, many))
known_fact q w reply row (NoneFact n) is same d few many rest = found_first q w reply rest row d n is same few

pub known_found : (q : Board) (w : Color) (reply : Probe) (row : Claim) (from : ℕ) → reply ≡ Found row → from ≡ plies_of row.fact → (d : ℕ) → d ≤ from → 2 ≤ d → (rest : List Entry) → HasFound (probe_entry (key_of q w) reply ∷ rest) q w d
known_found q w reply row from is plies d few many rest = known_fact q w reply row row.fact is refl d (omega (arith, few, plies)) many rest

pub undecided_found : (depth other : ℕ) (reply : Probe) (row : Claim) → reply ≡ Found row → decided_by depth row.fact ≡ None → depth ≡ other → IsUndecided other reply
undecided_found depth other reply row is none same = subst (λ (p : Probe). IsUndecided other p) (sym is) (subst (λ (n : ℕ). decided_by n row.fact ≡ None) same none)

pub undecided_missed : (depth : ℕ) (reply : Probe) → reply ≡ Miss → IsUndecided depth reply
undecided_missed depth reply is = subst (λ (p : Probe). IsUndecided depth p) (sym is) tt

pub undecided_refused : (depth : ℕ) (reply : Probe) → reply ≡ Refused → IsUndecided depth reply
undecided_refused depth reply is = subst (λ (p : Probe). IsUndecided depth p) (sym is) tt

-- the calls of the rounds whose answer cannot be kept
pub deepened_refused : {S : Type 0} (made_by : ℕ → S → List Entry → S → Type 0) (old mid new : S) (q : Board) (w : Color) (from count : ℕ) (inner result : Result RoundsEnd NoMemory)
    → DeepenCalls made_by old mid q w from count inner → new ≡ mid → ((end : RoundsEnd) → result ≡ Ok end → ⊥) → DeepenCalls made_by old new q w from count result
unfolding DeepenCalls
deepened_refused {S} made_by old mid new q w from count inner result deepened same refused i less =
    let d = deepened i less in
    let M : S → Type 0 = λ s. made_by i old d.0 s in
    (d.0, subst M (sym same) d.1, (λ n is more deep. absurd (refused (NoneWithin n) is)))

-- the calls of the first worker where nothing is kept
pub kept_nothing : {S : Type 0} (made : S → List Entry → S → Type 0) (made_by : ℕ → S → List Entry → S → Type 0) (old new : S) (q : Board) (w : Color) (from most count : ℕ) (inner result : Result RoundsEnd NoMemory)
    → ((a b : S) (xs : List Entry) → made_by 0 a xs b → made a xs b) → DeepenCalls made_by old new q w from count inner → 0 < count → ((end : RoundsEnd) → result ≡ Ok end → ⊥) → KeptCalls made old new q w most result
unfolding DeepenCalls KeptCalls
kept_nothing made made_by old new q w from most count inner result lower deepened some refused =
    let d = deepened 0 some in
    (d.0, lower old new d.0 d.1, (λ done is. absurd (refused done is)))

pub kept_end : {S : Type 0} (made : S → List Entry → S → Type 0) (made_by : ℕ → S → List Entry → S → Type 0) (old mid new : S) (q : Board) (w : Color) (most count : ℕ) (result : Result RoundsEnd NoMemory) (end : RoundsEnd)
    → ((a b c : S) (xs ys : List Entry) → made a xs b → made b ys c → made a (xs ++ ys) c) → ((a b : S) (xs : List Entry) → made_by 0 a xs b → made a xs b)
    → AllGrowTo most made_by old mid count → 0 < count → KeepCalls made mid new (claim_of q w end) → ((e : RoundsEnd) → result ≡ Ok e → end ≡ e) → KeptCalls made old new q w most result
unfolding AllGrowTo KeepCalls KeptCalls HasEndStore IsEndStore
kept_end made made_by old mid new q w most count result end both lower grown some keep ends =
    let d = grown 0 some in
    let last = store_entry (claim_of q w end) keep.0 in (
      d.0 ++ last ∷ [],
      both old mid new d.0 (last ∷ []) (lower old mid d.0 d.1) keep.1,
      (λ done is.
          let P : RoundsEnd → Type 0 = λ e. Contains (d.0 ++ last ∷ []) (store_entry (claim_of q w e) keep.0) in
          let Q : RoundsEnd → Type 0 = λ e. d.0 ++ last ∷ [] ≡ store_entry (claim_of q w e) keep.0 ∷ [] in (
            (keep.0, subst P (ends done is) (Contains-push d.0 last)),
            (λ few. (keep.0, subst Q (ends done is) (ap (λ (xs : List Entry). xs ++ last ∷ []) (d.2 few)))),
          )),
    )

pub keep_count : {S : Type 0} (made : S → List Entry → S → Type 0) (made_by : ℕ → S → List Entry → S → Type 0) (count : S → ℕ) (mid new : S) (claim : Claim)
    → ((a b : S) (xs : List Entry) → made a xs b → made_by 0 a xs b) → ((i : ℕ) (a b : S) (xs : List Entry) → made_by i a xs b → count b ≡ count a) → KeepCalls made mid new claim → count new ≡ count mid
unfolding KeepCalls
keep_count made made_by count mid new claim lift same keep = same 0 mid new (store_entry claim keep.0 ∷ []) (lift mid new (store_entry claim keep.0 ∷ []) keep.1)

shares_front : (xs ys : List Entry) (q : Board) (w : Color) (d : ℕ) (moves : List Move) (number count : ℕ) → AreSharesSearched xs q w d moves number count → AreSharesSearched (xs ++ ys) q w d moves number count
unfolding AreSharesSearched
shares_front xs ys q w d moves number count searched i m at own = searched_more xs (xs ++ ys) (front_within xs ys) (after q m) w d (searched i m at own)

-- the calls of the rounds and of the one that keeps their answer
pub deepened_kept : {S : Type 0} (made : S → List Entry → S → Type 0) (made_by : ℕ → S → List Entry → S → Type 0) (count : S → ℕ) (old mid new : S) (q : Board) (w : Color) (from all : ℕ) (inner result : Result RoundsEnd NoMemory) (claim : Claim)
    → ((i : ℕ) (a b c : S) (xs ys : List Entry) → made_by i a xs b → made_by i b ys c → made_by i a (xs ++ ys) c) → ((a b : S) (xs : List Entry) → made a xs b → made_by 0 a xs b)
    → ((i : ℕ) (a b : S) (xs : List Entry) → made_by i a xs b → AllGrow made_by a b (count a))
    → DeepenCalls made_by old mid q w from all inner → KeepCalls made mid new claim → count mid ≡ all → ((end : RoundsEnd) → result ≡ Ok end → inner ≡ Ok end) → DeepenCalls made_by old new q w from all result
unfolding DeepenCalls KeepCalls AllGrow
deepened_kept made made_by count old mid new q w from all inner result claim both lift grow deepened keep same ends i less =
    let d = deepened i less in
    let g = grow 0 mid new (store_entry claim keep.0 ∷ []) (lift mid new (store_entry claim keep.0 ∷ []) keep.1) i (omega (arith, less, same)) in
    (d.0 ++ g.0, both i old mid new d.0 g.0 d.1 g.1, (λ n is more deep. shares_front d.0 g.0 q w (n - 1) (legal q) i all (d.2 n (ends (NoneWithin n) is) more deep)))

-- one worker has all root moves
pub one_share : (task : RoundTask) (moves : List Move) (i : ℕ) (a b : Work) → IsShare task moves 0 1 a → i < 1 → b ≡ a → IsShare task moves i 1 b
one_share task moves i a b share less is =
    let e : 0 ≡ i = omega (arith, less) in
    subst (λ (k : ℕ). IsShare task moves k 1 b) e (subst (λ (x : Work). IsShare task moves 0 1 x) (sym is) share)

pub one_calls : {S T : Type 0} (made : S → List Entry → S → Type 0) (lifted : T → List Entry → T → Type 0) (a b : S) (x y : T) (task : RoundTask) (moves : List Move) (i : ℕ) (u v : Work)
    → ((entries : List Entry) → made a entries b → lifted x entries y) → ShareCalls made a b task moves 0 1 u → i < 1 → v ≡ u → ShareCalls lifted x y task moves i 1 v
unfolding ShareCalls
one_calls made lifted a b x y task moves i u v lift calls less is =
    let e : 0 ≡ i = omega (arith, less) in
    subst (λ (k : ℕ). ShareCalls lifted x y task moves k 1 v) e (subst (λ (z : Work). ShareCalls lifted x y task moves 0 1 z) (sym is) (calls.0, lift calls.0 calls.1, calls.2, calls.3))

pub one_grows : {S T : Type 0} (made : S → List Entry → S → Type 0) (lifted : ℕ → T → List Entry → T → Type 0) (a b : S) (x y : T) (task : RoundTask) (moves : List Move) (u : Work) (count : ℕ)
    → ((i : ℕ) (entries : List Entry) → made a entries b → lifted i x entries y) → ShareCalls made a b task moves 0 1 u → AllGrowTo task.depth lifted x y count
unfolding ShareCalls AllGrowTo
one_grows made lifted a b x y task moves u count lift calls i less = (calls.0, lift i calls.0 calls.1, calls.2)
