-- One worker's root moves, searched one after the other.
use Rattle.std.proofs.Common.{◌≡◌, ℕ, zero, suc, ◌+◌, ◌-◌, ◌%◌, ◌<◌, ◌≤◌, Bool, true, false, IsNone, List, [], ◌∷◌, ◌++◌, length, get_or, take, Option, Some, None, Result, Ok, inl, inr, refl, sym, ◌∙◌, ap, subst, arith}
use Rattle.std.specs.List.{Contains, slice_get}
use Rattle.std.proofs.Math.Nat.{mod-eq_of_lt}
use Rattle.std.proofs.lemmas.List.Elements.{Contains-append_left, Contains-push, Contains-push_cases}
use Rattle.std.proofs.lemmas.Option.{slice_get_within, slice_get_read, get_or_from_slice_get, same_Some, none-some}
use Rattle.cha_list.specs.declared.memory.NoMemory.{NoMemory}
use Rattle.cha_list.specs.Distinct.{AreDistinct}
use Rattle.cha_list.proofs.Distinct.{none_apart, push_apart}
use Rattle.cha_board.specs.Board.{Board}
use Rattle.cha_moves.specs.Step.{Move}
use Rattle.cha_moves.specs.Moves.{after, legal}
use Rattle.cha_moves.specs.Ends.{HasNoMateWithin}
use Rattle.cha_moves.specs.Lines.{IsLegalLine, HasLines}
use Rattle.cha_moves.proofs.Contained.{not_in_nothing, Contains-cons_cases, Contains-cons_here, Contains-cons_there}
use Rattle.cha_fact.specs.Keys.{key_of}
use Rattle.cha_fact.specs.Entries.{Entry, probe_entry, IsSearched}
use Rattle.cha_fact.proofs.Searching.{front_within, back_within, searched_more}
use Rattle.helpmate.specs.declared.answers.RoundAnswer.{RoundAnswer}
use Rattle.helpmate.specs.declared.answers.RoundAnswer.TheVariants.{Mate, NoneWithin}
use Rattle.helpmate.specs.declared.answers.RoundDone.{RoundDone}
use Rattle.helpmate.specs.Counted.{CountsPositions}
use Rattle.helpmate.specs.Rounds.{IsAnswer, IsAllowed, RoundCalls}
use Rattle.helpmate.proofs.Counting.{Begins, HasLinesFrom, from_one_more, still_begins}
use Rattle.root_workers.specs.declared.task.RoundTask.{RoundTask}
use Rattle.root_workers.specs.declared.work.RootMate.{RootMate}
use Rattle.root_workers.specs.declared.work.Work.{Work}
use Rattle.root_workers.specs.Shares.{IsWhole, IsCleared, IsRootMate, IsSpent, IsShare, AreSharesSearched, ShareCalls}
use Rattle.root_workers.specs.Deepens.{PartCalls}
use Rattle.root_workers.specs.Gathers.{left_after}
use Rattle.root_workers.specs.Helps.{MakesCalls}
use Rattle.root_workers.proofs.Numbering.{before_or_here, next_own, none_below}

-- a worker has cleared its root moves below a number, with so much of its allowance left as the positions that it took leave
pub record IsBegun (task : RoundTask) (moves : List Move) (number count index : ℕ) (left : Option ℕ) (work : Work) : Type 0 where
  pub own : index % count ≡ number
  pub near : index < length moves + count
  pub positions : ℕ
  pub allowed : IsAllowed task.allowance positions
  pub lines : HasLinesFrom task.position (task.depth - 1) (take index moves) positions
  pub remains : left ≡ left_after task.allowance positions
  pub cleared : (i : ℕ) → Contains work.cleared.items i → (i < length moves) × (i % count ≡ number) × IsCleared task moves i
  pub below : (i : ℕ) → Contains work.cleared.items i → i < index
  pub once : AreDistinct work.cleared.items
  pub whole : (i : ℕ) → i < length moves → i < index → i % count ≡ number → Contains work.cleared.items i
  pub clean : IsWhole work

-- the first elements of a list are among more of them
take_within : {X : Type 0} (a b : ℕ) (xs : List X) (x : X) → a ≤ b → Contains (take a xs) x → Contains (take b xs) x
take_within zero b xs x few there = absurd (not_in_nothing x there)
take_within (suc a) zero xs x few there = absurd (omega (arith, few))
take_within (suc a) (suc b) [] x few there = there
take_within (suc a) (suc b) (y ∷ ys) x few there = elim (Contains-cons_cases y (take a ys) x there) [
  | inl e ↦ Contains-cons_here y (take b ys) x e
  | inr h ↦ Contains-cons_there y (take b ys) x (take_within a b ys x (omega (arith, few)) h)
]

-- lines that begin with some of the moves begin with some of more
lines_more : (q : Board) (d n a b : ℕ) (ms : List Move) → a ≤ b → HasLinesFrom q d (take a ms) n → HasLinesFrom q d (take b ms) n
unfolding HasLinesFrom
lines_more q d n a b ms few h = (h.0, h.1, h.2, (λ line there. still_begins q d (take a ms) (take b ms) (λ m. take_within a b ms m few) line (h.3 line there)))

line_of : (q : Board) (d : ℕ) (ms line : List Move) → Begins q d ms line → IsLegalLine q line × (length line ≤ d)
unfolding IsLegalLine
line_of q d ms [] h = absurd h
line_of q d ms (m ∷ rest) h = ((h.1, h.2), (let few = h.3 in omega arith))

pub lines_of : (q : Board) (d n : ℕ) (ms : List Move) → HasLinesFrom q d ms n → HasLines q d n
unfolding HasLinesFrom HasLines
lines_of q d n ms h = (h.0, h.1, h.2, (λ line there. line_of q d ms line (h.3 line there)))

no_lines : (q : Board) (d n : ℕ) (ms : List Move) → n ≡ 0 → HasLinesFrom q d ms n
unfolding HasLinesFrom
no_lines q d n ms none = ([], sym none, none_apart (List Move), (λ line there. absurd (not_in_nothing line there)))

none_allowed : (allowance : Option ℕ) (n : ℕ) → n ≡ 0 → IsAllowed allowance n
none_allowed None n none = tt
none_allowed (Some most) n none = omega arith

more_allowed : (allowance left : Option ℕ) (n u v : ℕ) → IsAllowed allowance n → left ≡ left_after allowance n → IsAllowed left u → v ≡ n + u → IsAllowed allowance v
more_allowed None left n u v before is here sum = tt
more_allowed (Some most) left n u v before is here sum =
    let P : Option ℕ → Type 0 = λ o. IsAllowed o u in
    let few : u ≤ most - n = subst P is here in
    let fewer : n ≤ most = before in
    omega arith

left_both : (allowance left more : Option ℕ) (n u v : ℕ) → left ≡ left_after allowance n → more ≡ left_after left u → v ≡ n + u → more ≡ left_after allowance v
left_both None left more n u v is next sum = next ∙ ap (λ o. left_after o u) is
left_both (Some most) left more n u v is next sum = next ∙ ap (λ o. left_after o u) is ∙ ap Some (let e : most - n - u ≡ most - v = omega arith in e)

left_first : (allowance : Option ℕ) → allowance ≡ left_after allowance 0
left_first None = refl
left_first (Some most) = ap Some (let e : most ≡ most - 0 = omega arith in e)

-- nothing is done before a worker's first root move
pub begun_first : (task : RoundTask) (moves : List Move) (number count : ℕ) (work : Work) → number < count → work.cleared.items ≡ [] → IsWhole work → IsBegun task moves number count number task.allowance work
begun_first task moves number count work few empty clean =
    let L : List ℕ → ℕ → Type 0 = λ xs i. Contains xs i in record {
      own = mod-eq_of_lt few;
      near = omega (arith, few);
      positions = 0;
      allowed = none_allowed task.allowance 0 refl;
      lines = no_lines task.position (task.depth - 1) 0 (take number moves) refl;
      remains = left_first task.allowance;
      cleared = λ i there. absurd (not_in_nothing i (subst (λ xs. L xs i) empty there));
      below = λ i there. absurd (not_in_nothing i (subst (λ xs. L xs i) empty there));
      once = subst (λ xs. AreDistinct xs) (sym empty) (none_apart ℕ);
      whole = λ i inside less own. absurd (none_below i count number few own less);
      clean = clean;
    }

-- the lines of one more root move
pub lines_here : (task : RoundTask) (moves : List Move) (number count index u v : ℕ) (m : Move) (left : Option ℕ) (work : Work) (begun : IsBegun task moves number count index left work) → CountsPositions (after task.position m) (task.depth - 1) u → index < length moves → m ≡ get_or moves index m → moves ≡ legal task.position → v ≡ begun.positions + u
    → HasLinesFrom task.position (task.depth - 1) (take (index + 1) moves) v
lines_here task moves number count index u v m left work begun positions inside at listed sum =
    from_one_more task.position (task.depth - 1) begun.positions u v moves index m begun.lines positions inside at listed sum

cleared_here : (task : RoundTask) (moves : List Move) (index : ℕ) (m : Move) → index < length moves → m ≡ get_or moves index m → HasNoMateWithin (after task.position m) task.winner (task.depth - 1) → IsCleared task moves index
unfolding IsCleared
cleared_here task moves index m inside at none k is =
    let e : m ≡ k = at ∙ get_or_from_slice_get moves index k m is in
    subst (λ (x : Move). HasNoMateWithin (after task.position x) task.winner (task.depth - 1)) e none

-- one more root move is cleared
pub begun_more : (task : RoundTask) (moves : List Move) (number count index u : ℕ) (m : Move) (left more : Option ℕ) (work new : Work) → IsBegun task moves number count index left work → 0 < count → more ≡ left_after left u → IsAllowed left u
    → CountsPositions (after task.position m) (task.depth - 1) u → index < length moves → m ≡ get_or moves index m → moves ≡ legal task.position → HasNoMateWithin (after task.position m) task.winner (task.depth - 1)
    → new.cleared.items ≡ work.cleared.items ++ index ∷ [] → IsWhole new → IsBegun task moves number count (index + count) more new
begun_more task moves number count index u m left more work new begun some is few positions inside at listed none pushed clean =
    let here : IsCleared task moves index = cleared_here task moves index m inside at none in
    record {
      own = next_own index count number begun.own;
      near = omega (arith, inside);
      positions = begun.positions + u;
      allowed = more_allowed task.allowance left begun.positions u (begun.positions + u) begun.allowed begun.remains few refl;
      lines = lines_more task.position (task.depth - 1) (begun.positions + u) (index + 1) (index + count) moves (omega (arith, some)) (lines_here task moves number count index u (begun.positions + u) m left work begun positions inside at listed refl);
      remains = left_both task.allowance left more begun.positions u (begun.positions + u) begun.remains is refl;
      cleared = λ i there. elim (Contains-push_cases work.cleared.items index i (subst (λ xs. Contains xs i) pushed there)) [
        | inl h ↦ begun.cleared i h
        | inr e ↦ subst (λ (k : ℕ). (k < length moves) × (k % count ≡ number) × IsCleared task moves k) e (inside, begun.own, here)
      ];
      below = λ i there. elim (Contains-push_cases work.cleared.items index i (subst (λ xs. Contains xs i) pushed there)) [
        | inl h ↦ (let less = begun.below i h in omega (arith, some))
        | inr e ↦ omega (arith, some, e)
      ];
      once = subst (λ (xs : List ℕ). AreDistinct xs) (sym pushed) (push_apart work.cleared.items index begun.once (λ there. let less = begun.below index there in omega arith));
      whole = λ i within less own. subst (λ (xs : List ℕ). Contains xs i) (sym pushed) (elim (before_or_here i index count number some begun.own own less) [
        | inl h ↦ Contains-append_left work.cleared.items (index ∷ []) i (begun.whole i within h own)
        | inr e ↦ subst (λ (k : ℕ). Contains (work.cleared.items ++ index ∷ []) k) (sym e) (Contains-push work.cleared.items index)
      ]);
      clean = clean;
    }

-- a worker's part that ends before its last root move
pub share_ends : (task : RoundTask) (moves : List Move) (number count index : ℕ) (left : Option ℕ) (work new : Work) → IsBegun task moves number count index left work → new.cleared.items ≡ work.cleared.items → (IsWhole new → ⊥) → ((mate : RootMate) → new.mate ≡ Some mate → IsRootMate task moves mate) → (new.spent ≡ true → IsSpent task)
    → IsShare task moves number count new
share_ends task moves number count index left work new begun same ended mate spent =
    record {
      cleared = λ i there. begun.cleared i (subst (λ (xs : List ℕ). Contains xs i) same there);
      once = subst (λ (xs : List ℕ). AreDistinct xs) (sym same) begun.once;
      whole = λ clean. absurd (ended clean);
      mate = mate;
      spent = spent;
    }

no_mate : (mate : Option RootMate) (P : RootMate → Type 0) → mate ≡ None → (m : RootMate) → mate ≡ Some m → P m
no_mate mate P none m some = absurd (none-some m (sym none ∙ some))

-- a worker's part that goes to the end
pub share_done : (task : RoundTask) (moves : List Move) (number count index : ℕ) (left : Option ℕ) (work : Work) → IsBegun task moves number count index left work → length moves ≤ index → IsShare task moves number count work
share_done task moves number count index left work begun end =
    record {
      cleared = begun.cleared;
      once = begun.once;
      whole = λ clean i within own. begun.whole i within (omega (arith, within, end)) own;
      mate = no_mate work.mate (λ m. IsRootMate task moves m) begun.clean.0;
      spent = λ is. (let not = begun.clean.1 in cc);
    }

whole_allowance : (allowance : Option ℕ) (n u : ℕ) → IsAllowed allowance n → left_after allowance n ≡ Some u → allowance ≡ Some (n + u)
whole_allowance None n u few is = absurd (none-some u is)
whole_allowance (Some most) n u few is =
    let e : most - n ≡ u = same_Some (most - n) u is in
    let less : n ≤ most = few in
    let f : most ≡ n + u = omega arith in
    ap Some f

-- the allowance was spent
pub spent_here : (task : RoundTask) (moves : List Move) (number count index u : ℕ) (m : Move) (left : Option ℕ) (work : Work) → IsBegun task moves number count index left work → left ≡ Some u → CountsPositions (after task.position m) (task.depth - 1) u
    → index < length moves → m ≡ get_or moves index m → moves ≡ legal task.position → IsSpent task
unfolding IsSpent
spent_here task moves number count index u m left work begun all positions inside at listed =
    (begun.positions + u, whole_allowance task.allowance begun.positions u begun.allowed (sym begun.remains ∙ all), lines_of task.position (task.depth - 1) (begun.positions + u) (take (index + 1) moves) (lines_here task moves number count index u (begun.positions + u) m left work begun positions inside at listed refl))

-- each root move of a worker below a number was searched
unfoldable pub SharesTried : {S : Type 0} → (S → List Entry → S → Type 0) → S → S → RoundTask → List Move → ℕ → ℕ → ℕ → Type 0
SharesTried made old new task moves number count index =
    (entries : List Entry) × made old entries new × ((i : ℕ) (m : Move) → slice_get moves i ≡ Some m → i < index → i % count ≡ number → IsSearched entries (after task.position m) task.winner (task.depth - 1))

pub shares_none : {S : Type 0} (made : S → List Entry → S → Type 0) (s : S) (task : RoundTask) (moves : List Move) (number count : ℕ) → made s [] s → number < count → SharesTried made s s task moves number count number
unfolding SharesTried
shares_none made s task moves number count none few = ([], none, (λ i m is less own. absurd (none_below i count number few own less)))

pub shares_more : {S : Type 0} (made : S → List Entry → S → Type 0) (old mid new : S) (task : RoundTask) (moves : List Move) (number count index : ℕ) (m : Move) (result : Result RoundDone NoMemory) (done : RoundDone)
    → ((a b c : S) (xs ys : List Entry) → made a xs b → made b ys c → made a (xs ++ ys) c)
    → SharesTried made old mid task moves number count index → RoundCalls made mid new (after task.position m) task.winner (task.depth - 1) result → result ≡ Ok done → done.round ≡ NoneWithin
    → 0 < count → index % count ≡ number → m ≡ get_or moves index m → SharesTried made old new task moves number count (index + count)
unfolding SharesTried
shares_more made old mid new task moves number count index m result done both tried calls is none some own at =
    let xs = tried.0 in
    let ys = probe_entry (key_of (after task.position m) task.winner) calls.reply ∷ calls.rest in
    let here : IsSearched ys (after task.position m) task.winner (task.depth - 1) = calls.searched done is none in (
      xs ++ ys,
      both old mid new xs ys tried.1 calls.entered,
      (λ i k read less mine. elim (before_or_here i index count number some own mine less) [
        | inl h ↦ searched_more xs (xs ++ ys) (front_within xs ys) (after task.position k) task.winner (task.depth - 1) (tried.2 i k read h mine)
        | inr e ↦
            (let same : m ≡ k = at ∙ get_or_from_slice_get moves index k m (subst (λ (j : ℕ). slice_get moves j ≡ Some k) e read) in
            searched_more ys (xs ++ ys) (back_within xs ys) (after task.position k) task.winner (task.depth - 1) (subst (λ (x : Move). IsSearched ys (after task.position x) task.winner (task.depth - 1)) same here))
      ]),
    )

-- a part that ends otherwise than by clearing all root moves
pub calls_end : {S : Type 0} (made : S → List Entry → S → Type 0) (old mid new : S) (task : RoundTask) (moves : List Move) (number count index : ℕ) (m : Move) (result : Result RoundDone NoMemory) (work : Work)
    → ((a b c : S) (xs ys : List Entry) → made a xs b → made b ys c → made a (xs ++ ys) c)
    → SharesTried made old mid task moves number count index → RoundCalls made mid new (after task.position m) task.winner (task.depth - 1) result → (IsWhole work → ⊥) → PartCalls made old new task moves number count work
unfolding SharesTried PartCalls
calls_end made old mid new task moves number count index m result work both tried calls ended =
    let xs = tried.0 in
    let ys = probe_entry (key_of (after task.position m) task.winner) calls.reply ∷ calls.rest in
    (xs ++ ys, both old mid new xs ys tried.1 calls.entered, (λ whole. absurd (ended whole)))

-- a part that cleared all root moves, and then made more calls
pub calls_done : {S : Type 0} (made : S → List Entry → S → Type 0) (old mid new : S) (task : RoundTask) (moves : List Move) (number count index : ℕ) (work : Work)
    → ((a b c : S) (xs ys : List Entry) → made a xs b → made b ys c → made a (xs ++ ys) c)
    → SharesTried made old mid task moves number count index → length moves ≤ index → MakesCalls made mid new → PartCalls made old new task moves number count work
unfolding SharesTried PartCalls AreSharesSearched MakesCalls
calls_done made old mid new task moves number count index work both tried end more = (
  tried.0 ++ more.0,
  both old mid new tried.0 more.0 tried.1 more.1,
  (λ whole i m read own.
      searched_more tried.0 (tried.0 ++ more.0) (front_within tried.0 more.0) (after task.position m) task.winner (task.depth - 1)
      (tried.2 i m read (let inside = slice_get_within moves i m read in omega (arith, inside, end)) own)),
)

-- a round of at most 4 plies makes no call
pub no_calls_made : {S : Type 0} (made : S → List Entry → S → Type 0) (s : S) (task : RoundTask) (moves : List Move) (number count : ℕ) (work : Work) → made s [] s → task.depth ≤ 4 → ShareCalls made s s task moves number count work
unfolding ShareCalls
no_calls_made made s task moves number count work none few = ([], none, (λ e. refl), (λ deep. absurd (omega (arith, deep, few))))

-- a deeper round makes those of its search
pub deep_calls : {S : Type 0} (made : S → List Entry → S → Type 0) (old new : S) (task : RoundTask) (moves : List Move) (number count : ℕ) (work : Work) → PartCalls made old new task moves number count work → 4 < task.depth → ShareCalls made old new task moves number count work
unfolding PartCalls ShareCalls
deep_calls made old new task moves number count work calls more = (calls.0, calls.1, (λ few. absurd (omega (arith, more, few))), (λ deep. calls.2))

same_mate : (task : RoundTask) (moves : List Move) (o : Option RootMate) (x : RootMate) → o ≡ Some x → IsRootMate task moves x → (mate : RootMate) → o ≡ Some mate → IsRootMate task moves mate
same_mate task moves o x is mates mate e = subst (λ (y : RootMate). IsRootMate task moves y) (same_Some x mate (sym is ∙ e)) mates

not_spent : (b : Bool) (P : Type 0) → b ≡ false → b ≡ true → P
not_spent b P not is = cc

-- a worker's part that ends with a mate
pub share_mate : (task : RoundTask) (moves : List Move) (number count index : ℕ) (x : RootMate) (left : Option ℕ) (work new : Work) → IsBegun task moves number count index left work → new.cleared.items ≡ work.cleared.items → new.mate ≡ Some x → new.spent ≡ work.spent → IsRootMate task moves x → IsShare task moves number count new
share_mate task moves number count index x left work new begun same is spent mates =
    share_ends task moves number count index left work new begun same (λ whole. none-some x (sym whole.0 ∙ is)) (same_mate task moves new.mate x is mates) (not_spent new.spent (IsSpent task) (spent ∙ begun.clean.1))

-- a worker's part that ends since its allowance is spent
pub share_spent : (task : RoundTask) (moves : List Move) (number count index : ℕ) (left : Option ℕ) (work new : Work) → IsBegun task moves number count index left work → new.cleared.items ≡ work.cleared.items → new.mate ≡ work.mate → new.spent ≡ true → IsSpent task → IsShare task moves number count new
share_spent task moves number count index left work new begun same mate is spent =
    share_ends task moves number count index left work new begun same (λ whole. not_spent new.spent ⊥ whole.1 is) (no_mate new.mate (λ m. IsRootMate task moves m) (mate ∙ begun.clean.0)) (λ e. spent)

-- a worker's part that ends for want of memory
pub share_refused : (task : RoundTask) (moves : List Move) (number count index : ℕ) (left : Option ℕ) (work new : Work) → IsBegun task moves number count index left work → new.cleared.items ≡ work.cleared.items → new.mate ≡ work.mate → new.spent ≡ work.spent → new.refused ≡ true → IsShare task moves number count new
share_refused task moves number count index left work new begun same mate spent is =
    share_ends task moves number count index left work new begun same (λ whole. not_spent new.refused ⊥ whole.2 is) (no_mate new.mate (λ m. IsRootMate task moves m) (mate ∙ begun.clean.0)) (not_spent new.spent (IsSpent task) (spent ∙ begun.clean.1))

-- a mate behind a root move
pub root_mate : (task : RoundTask) (moves : List Move) (index : ℕ) (m : Move) (a : RoundAnswer) (line : List Move) → IsAnswer (after task.position m) task.winner (task.depth - 1) 39 a → a ≡ Mate line → index < length moves → m ≡ get_or moves index m → moves ≡ legal task.position → IsRootMate task moves (record { root_move = index; line = line })
unfolding IsRootMate
root_mate task moves index m a line holds is inside at listed =
    let h = subst (λ (x : RoundAnswer). IsAnswer (after task.position m) task.winner (task.depth - 1) 39 x) is holds in
    (m, slice_get_read moves (length moves) index m refl inside at, subst (λ (ms : List Move). Contains ms m) listed (index, inside, sym at), h.0, h.1)

pub none_behind : (task : RoundTask) (m : Move) (a : RoundAnswer) → IsAnswer (after task.position m) task.winner (task.depth - 1) 39 a → a ≡ NoneWithin → HasNoMateWithin (after task.position m) task.winner (task.depth - 1)
none_behind task m a holds is = subst (λ (x : RoundAnswer). IsAnswer (after task.position m) task.winner (task.depth - 1) 39 x) is holds

pub none_left : (left more : Option ℕ) (u : ℕ) → more ≡ left_after left u → IsNone more → IsNone left
none_left None more u is none = subst (λ (o : Option ℕ). IsNone o) is none
none_left (Some most) more u is none = (let h : IsNone (Some (most - u)) = subst (λ (o : Option ℕ). IsNone o) is none in cc)
