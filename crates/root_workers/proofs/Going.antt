-- The rounds one after the other, and their calls.
use Rattle.std.proofs.Common.{◌≡◌, ℕ, ◌+◌, ◌-◌, ◌<◌, ◌≤◌, List, [], ◌∷◌, ◌++◌, Some, Result, Ok, refl, sym, ◌∙◌, ap, subst, arith}
use Rattle.cha_list.specs.declared.memory.NoMemory.{NoMemory}
use Rattle.cha_board.specs.declared.men.Color.{Color}
use Rattle.cha_board.specs.Board.{Board}
use Rattle.cha_moves.specs.Step.{Move}
use Rattle.cha_moves.specs.Moves.{after, legal}
use Rattle.cha_moves.specs.Lines.{HasLines}
use Rattle.cha_fact.specs.declared.calls.Stored.{Stored}
use Rattle.cha_fact.specs.Truths.{Claim}
use Rattle.cha_fact.specs.Entries.{Entry, store_entry}
use Rattle.cha_fact.proofs.Searching.{Within, front_within, back_within, searched_more}
use Rattle.root_workers.specs.declared.task.RoundTask.{RoundTask}
use Rattle.root_workers.specs.declared.work.Work.{Work}
use Rattle.root_workers.specs.declared.answers.RoundsEnd.TheVariants.{Mate, NoneWithin}
use Rattle.root_workers.specs.declared.answers.RoundsEnd.{RoundsEnd}
use Rattle.root_workers.specs.Shares.{IsShare, IsSpent, AreSharesSearched, ShareCalls, AllGrowTo}
use Rattle.root_workers.specs.Gathers.{AreShares, AreWhole}
use Rattle.root_workers.specs.Deepens.{RoundSearches, DeepenCalls, KeepCalls}

shares_within : (xs ys : List Entry) (q : Board) (w : Color) (d : ℕ) (moves : List Move) (number count : ℕ) → Within xs ys → AreSharesSearched xs q w d moves number count → AreSharesSearched ys q w d moves number count
unfolding AreSharesSearched
shares_within xs ys q w d moves number count all searched i m at own = searched_more xs ys all (after q m) w d (searched i m at own)

-- the shares of a crew after a round
pub are_shares : (leaves : ℕ → Work → Type 0) (task : RoundTask) (moves : List Move) (count more : ℕ) → ((i : ℕ) (work : Work) → i < count → leaves i work → IsShare task moves i count work) → more ≡ count → AreShares leaves task moves more
unfolding AreShares
are_shares leaves task moves count more each same =
    subst (λ (n : ℕ). (i : ℕ) (work : Work) → i < n → leaves i work → IsShare task moves i n work) (sym same) each

-- where all workers cleared their root moves they searched them
pub round_searches : {S : Type 0} (made_by : ℕ → S → List Entry → S → Type 0) (leaves : ℕ → Work → Type 0) (old new : S) (task : RoundTask) (moves : List Move) (count more : ℕ)
    → ((i : ℕ) (work : Work) → i < count → leaves i work → ShareCalls (made_by i) old new task moves i count work) → AreWhole leaves more → more ≡ count → moves ≡ legal task.position → RoundSearches made_by old new task count
unfolding RoundSearches ShareCalls AreWhole
round_searches made_by leaves old new task moves count more calls whole same listed i less =
    let w = whole i (omega (arith, less, same)) in
    let c = calls i w.0 less w.1 in
    (c.0, c.1, (λ deep. subst (λ (ms : List Move). AreSharesSearched c.0 task.position task.winner (task.depth - 1) ms i count) listed (c.3 deep w.2)))

-- the calls of worker i: each of its root moves was searched to one ply less than a depth, where a round of more than 4 plies was
-- done
unfoldable pub WorkerCalls : {S : Type 0} → (ℕ → S → List Entry → S → Type 0) → S → S → Board → Color → ℕ → ℕ → ℕ → ℕ → Type 0
WorkerCalls made_by old new q w from depth i count =
    (entries : List Entry) × made_by i old entries new × (from < depth → 4 < depth → AreSharesSearched entries q w (depth - 1) (legal q) i count)

-- the calls of all workers
unfoldable pub CrewCalls : {S : Type 0} → (ℕ → S → List Entry → S → Type 0) → S → S → Board → Color → ℕ → ℕ → ℕ → Type 0
CrewCalls made_by old new q w from depth count = (i : ℕ) → i < count → WorkerCalls made_by old new q w from depth i count

pub no_calls : {S : Type 0} (made_by : ℕ → S → List Entry → S → Type 0) (s : S) (q : Board) (w : Color) (from count : ℕ) → ((i : ℕ) (s : S) → made_by i s [] s) → CrewCalls made_by s s q w from from count
unfolding CrewCalls WorkerCalls
no_calls made_by s q w from count none i less = ([], none i s, (λ more deep. absurd (omega (arith, more))))

-- one more round
pub round_more : {S : Type 0} (made_by : ℕ → S → List Entry → S → Type 0) (old mid new : S) (q : Board) (w : Color) (from depth count other : ℕ) (task : RoundTask)
    → ((i : ℕ) (a b c : S) (xs ys : List Entry) → made_by i a xs b → made_by i b ys c → made_by i a (xs ++ ys) c)
    → CrewCalls made_by old mid q w from depth count → RoundSearches made_by mid new task other → other ≡ count → task.position ≡ q → task.winner ≡ w → task.depth ≡ depth + 1 → CrewCalls made_by old new q w from (depth + 1) count
unfolding CrewCalls WorkerCalls RoundSearches
round_more made_by old mid new q w from depth count other task both before here same board side plies i less =
    let b = before i less in
    let h = here i (omega (arith, less, same)) in
    let e : task.depth - 1 ≡ depth + 1 - 1 = omega arith in
    let searched = λ (deep : 4 < depth + 1). (
    let one = subst (λ (n : ℕ). AreSharesSearched h.0 task.position task.winner n (legal task.position) i other) e (h.2 (omega (arith, deep, plies))) in
    let two = subst (λ (n : ℕ). AreSharesSearched h.0 task.position task.winner (depth + 1 - 1) (legal task.position) i n) same one in
    let three = subst (λ (x : Color). AreSharesSearched h.0 task.position x (depth + 1 - 1) (legal task.position) i count) side two in
    let four = subst (λ (x : Board). AreSharesSearched h.0 x w (depth + 1 - 1) (legal x) i count) board three in
    shares_within h.0 (b.0 ++ h.0) q w (depth + 1 - 1) (legal q) i count (back_within b.0 h.0) four) in
    (b.0 ++ h.0, both i old mid new b.0 h.0 b.1 h.1, (λ more deep. searched deep))

-- the calls of rounds, and of no round
pub grown_none : {S : Type 0} (made_by : ℕ → S → List Entry → S → Type 0) (s : S) (depth count : ℕ) → ((i : ℕ) (s : S) → made_by i s [] s) → AllGrowTo depth made_by s s count
unfolding AllGrowTo
grown_none made_by s depth count none i less = ([], none i s, (λ few. refl))

pub grown_up : {S : Type 0} (made_by : ℕ → S → List Entry → S → Type 0) (old new : S) (depth most count : ℕ) → AllGrowTo depth made_by old new count → depth ≤ most → AllGrowTo most made_by old new count
unfolding AllGrowTo
grown_up made_by old new depth most count grown up i less = (let g = grown i less in (g.0, g.1, (λ few. g.2 (omega (arith, few, up)))))

pub grown_more : {S : Type 0} (made_by : ℕ → S → List Entry → S → Type 0) (old mid new : S) (depth plies most count other : ℕ)
    → ((i : ℕ) (a b c : S) (xs ys : List Entry) → made_by i a xs b → made_by i b ys c → made_by i a (xs ++ ys) c)
    → AllGrowTo depth made_by old mid count → AllGrowTo plies made_by mid new other → other ≡ count → depth ≤ most → plies ≤ most → AllGrowTo most made_by old new count
unfolding AllGrowTo
grown_more made_by old mid new depth plies most count other both before here same up next i less =
    let b = before i less in
    let h = here i (omega (arith, less, same)) in
    (b.0 ++ h.0, both i old mid new b.0 h.0 b.1 h.1, (λ few. ap (λ (xs : List Entry). xs ++ h.0) (b.2 (omega (arith, few, up))) ∙ h.2 (omega (arith, few, next))))

-- a round ends the rounds
pub ends_rounds : {S : Type 0} (made_by : ℕ → S → List Entry → S → Type 0) (old mid new : S) (q : Board) (w : Color) (from depth count other plies : ℕ) (result : Result RoundsEnd NoMemory)
    → ((i : ℕ) (a b c : S) (xs ys : List Entry) → made_by i a xs b → made_by i b ys c → made_by i a (xs ++ ys) c)
    → CrewCalls made_by old mid q w from depth count → AllGrowTo plies made_by mid new other → other ≡ count → ((d : ℕ) → result ≡ Ok (NoneWithin d) → d ≡ depth) → DeepenCalls made_by old new q w from count result
unfolding CrewCalls WorkerCalls AllGrowTo DeepenCalls
ends_rounds made_by old mid new q w from depth count other plies result both before grow same depths i less =
    let b = before i less in
    let h = grow i (omega (arith, less, same)) in (
      b.0 ++ h.0,
      both i old mid new b.0 h.0 b.1 h.1,
      (λ d is more deep.
          let e = depths d is in
          let P : ℕ → Type 0 = λ n. AreSharesSearched (b.0 ++ h.0) q w (n - 1) (legal q) i count in
          subst P (sym e) (shares_within b.0 (b.0 ++ h.0) q w (depth - 1) (legal q) i count (front_within b.0 h.0) (b.2 (omega (arith, more, e)) (omega (arith, deep, e))))),
    )

-- the last round is done
pub last_round : {S : Type 0} (made_by : ℕ → S → List Entry → S → Type 0) (old new : S) (q : Board) (w : Color) (from depth count : ℕ) (result : Result RoundsEnd NoMemory)
    → CrewCalls made_by old new q w from depth count → ((d : ℕ) → result ≡ Ok (NoneWithin d) → d ≡ depth) → DeepenCalls made_by old new q w from count result
unfolding CrewCalls WorkerCalls DeepenCalls
last_round made_by old new q w from depth count result before depths i less =
    let b = before i less in (
      b.0,
      b.1,
      (λ d is more deep.
          let e = depths d is in
          let P : ℕ → Type 0 = λ n. AreSharesSearched b.0 q w (n - 1) (legal q) i count in
          subst P (sym e) (b.2 (omega (arith, more, e)) (omega (arith, deep, e)))),
    )

pub the_end : (a b : RoundsEnd) (o : Result RoundsEnd NoMemory) → o ≡ Ok a → o ≡ Ok b → a ≡ b
the_end a b o e f = cc

pub none_depth : (d e : ℕ) → NoneWithin d ≡ NoneWithin e → d ≡ e
none_depth d e same = cc

not_mate : (line : List Move) (d : ℕ) (P : Type 0) → Mate line ≡ NoneWithin d → P
not_mate line d P same = cc

pub depth_is : (depth d : ℕ) → (let o : Result RoundsEnd NoMemory = Ok (NoneWithin depth) in o) ≡ Ok (NoneWithin d) → d ≡ depth
depth_is depth d is = sym (none_depth depth d (the_end (NoneWithin depth) (NoneWithin d) (Ok (NoneWithin depth)) refl is))

pub mate_is_none : (line : List Move) (d depth : ℕ) → (let o : Result RoundsEnd NoMemory = Ok (Mate line) in o) ≡ Ok (NoneWithin d) → d ≡ depth
mate_is_none line d depth is = not_mate line d (d ≡ depth) (the_end (Mate line) (NoneWithin d) (Ok (Mate line)) refl is)

pub keeps : {S : Type 0} (made : S → List Entry → S → Type 0) (old new : S) (row claim : Claim) (reply : Stored) → made old (store_entry row reply ∷ []) new → row ≡ claim → KeepCalls made old new claim
unfolding KeepCalls
keeps made old new row claim reply stored is = (reply, subst (λ (r : Claim). made old (store_entry r reply ∷ []) new) is stored)

-- what a round spent is the budget
pub spent_lines : (task : RoundTask) (depth budget : ℕ) → IsSpent task → task.depth ≡ depth + 1 → ((n : ℕ) → task.allowance ≡ Some n → (3 ≤ depth + 1) × (n ≡ budget)) → HasLines task.position depth budget × (2 ≤ depth)
unfolding IsSpent
spent_lines task depth budget spent plies bound =
    let b = bound spent.0 spent.1 in
    let e : task.depth - 1 ≡ depth = omega arith in
    let more = b.0 in
    (subst (λ (n : ℕ). HasLines task.position depth n) b.1 (subst (λ (d : ℕ). HasLines task.position d spent.0) e spent.2), omega arith)
