-- What the works of a round come to.
use Rattle.std.proofs.Common.{◌≡◌, ℕ, zero, suc, ◌+◌, ◌-◌, ◌%◌, ◌<◌, ◌≤◌, ◌⊎◌, Bool, true, false, List, [], ◌∷◌, length, Option, Some, None, Result, Ok, inl, inr, refl, sym, ◌∙◌, ap, subst, arith}
use Rattle.std.specs.List.{Contains, slice_get}
use Rattle.std.proofs.Math.Nat.{mod-lt}
use Rattle.std.proofs.lemmas.Option.{slice_get-get_or, slice_get_within, same_Some}
use Rattle.cha_list.specs.declared.memory.NoMemory.{NoMemory}
use Rattle.helpmate.specs.declared.answers.RoundAnswer.{RoundAnswer}
use Rattle.helpmate.specs.declared.answers.RoundAnswer.TheVariants.{Mate}
use Rattle.cha_board.specs.Men.{other_color}
use Rattle.cha_moves.specs.Step.{Move}
use Rattle.cha_moves.specs.Moves.{after, legal}
use Rattle.cha_moves.specs.Ends.{IsMated, IsMatingLine, HasNoMateWithin}
use Rattle.root_workers.specs.declared.task.RoundTask.{RoundTask}
use Rattle.root_workers.specs.declared.work.RootMate.{RootMate}
use Rattle.root_workers.specs.declared.work.Work.{Work}
use Rattle.root_workers.specs.Shares.{IsWhole, IsCleared, IsRootMate, IsShare}
use Rattle.root_workers.specs.Gathers.{IsNoHigher, IsRootMateOr, AreShares, AreWhole}

pub share_at : (leaves : ℕ → Work → Type 0) (task : RoundTask) (moves : List Move) (count i : ℕ) (work : Work) → AreShares leaves task moves count → i < count → leaves i work → IsShare task moves i count work
unfolding AreShares
share_at leaves task moves count i work shares inside left = shares i work inside left

-- a root move in front of a mate
pub root_line : (task : RoundTask) (moves : List Move) (x : RootMate) (m : Move) → IsRootMate task moves x → slice_get moves x.root_move ≡ Some m → Contains (legal task.position) m × IsMatingLine (after task.position m) task.winner x.line × (length x.line ≤ 39)
unfolding IsRootMate
root_line task moves x m mates at =
    let e : mates.0 ≡ m = same_Some mates.0 m (sym mates.1 ∙ at) in
    (subst (λ (k : Move). Contains (legal task.position) k) e mates.2, subst (λ (k : Move). IsMatingLine (after task.position k) task.winner x.line) e mates.3, mates.4)

pub root_inside : (task : RoundTask) (moves : List Move) (x : RootMate) → IsRootMate task moves x → x.root_move < length moves
unfolding IsRootMate
root_inside task moves x mates = slice_get_within moves x.root_move mates.0 mates.1

pub root_short : (task : RoundTask) (moves : List Move) (x : RootMate) → IsRootMate task moves x → length x.line ≤ 39
unfolding IsRootMate
root_short task moves x mates = mates.4

pub mate_or : (task : RoundTask) (moves : List Move) (o : Option RootMate) → ((x : RootMate) → o ≡ Some x → IsRootMate task moves x) → IsRootMateOr task moves o
mate_or task moves None each = tt
mate_or task moves (Some x) each = each x refl

-- one of two mates of the root is one
pub either_mate : (task : RoundTask) (moves : List Move) (best mate result : Option RootMate) → IsRootMateOr task moves best → IsRootMateOr task moves mate → (result ≡ best) ⊎ (result ≡ mate) → IsRootMateOr task moves result
either_mate task moves best mate result one two (inl e) = subst (λ (p : Option RootMate). IsRootMateOr task moves p) (sym e) one
either_mate task moves best mate result one two (inr e) = subst (λ (p : Option RootMate). IsRootMateOr task moves p) (sym e) two

pub no_higher_both : (a b c : Option RootMate) → IsNoHigher a b → IsNoHigher b c → IsNoHigher a c
no_higher_both a b None one two = tt
no_higher_both a None (Some z) one two = absurd two
no_higher_both None (Some y) (Some z) one two = absurd one
no_higher_both (Some x) (Some y) (Some z) one two = omega (arith, one, two)

-- each worker below a number met no mate with a lower root move
unfoldable pub IsLowestOf : (ℕ → Work → Type 0) → ℕ → Option RootMate → Type 0
IsLowestOf leaves n best = (i : ℕ) (work : Work) → i < n → leaves i work → IsNoHigher best work.mate

pub lowest_none : (leaves : ℕ → Work → Type 0) (best : Option RootMate) (n : ℕ) → n ≡ 0 → IsLowestOf leaves n best
unfolding IsLowestOf
lowest_none leaves best n none i work less left = absurd (omega (arith, none, less))

below_or_here : (i n : ℕ) → i < n + 1 → (i < n) ⊎ (i ≡ n)
below_or_here i zero less = inr (omega (arith, less))
below_or_here zero (suc n) less = inl (omega arith)
below_or_here (suc i) (suc n) less = elim (below_or_here i n (omega (arith, less))) [
  | inl h ↦ inl (omega (arith, h))
  | inr e ↦ inr (ap suc e)
]

pub lowest_more : (leaves : ℕ → Work → Type 0) (n : ℕ) (best result : Option RootMate) (here : Work) → IsLowestOf leaves n best → ((work : Work) → leaves n work → work ≡ here) → IsNoHigher result best → IsNoHigher result here.mate → IsLowestOf leaves (n + 1) result
unfolding IsLowestOf
lowest_more leaves n best result here before only one two i work less left = elim (below_or_here i n less) [
  | inl h ↦ no_higher_both result best work.mate one (before i work h left)
  | inr e ↦ (let same : work ≡ here = only work (subst (λ (k : ℕ). leaves k work) e left) in subst (λ (w : Work). IsNoHigher result w.mate) (sym same) two)
]

pub lowest_of : (leaves : ℕ → Work → Type 0) (n count : ℕ) (best : Option RootMate) → IsLowestOf leaves n best → count ≤ n → (i : ℕ) (work : Work) → i < count → leaves i work → IsNoHigher best work.mate
unfolding IsLowestOf
lowest_of leaves n count best lowest all i work less left = lowest i work (omega (arith, all, less)) left

pub whole_none : (leaves : ℕ → Work → Type 0) (n : ℕ) → n ≡ 0 → AreWhole leaves n
unfolding AreWhole
whole_none leaves n none i less = absurd (omega (arith, none, less))

pub whole_more : (leaves : ℕ → Work → Type 0) (n : ℕ) (here : Work) → AreWhole leaves n → leaves n here → IsWhole here → AreWhole leaves (n + 1)
unfolding AreWhole
whole_more leaves n here before left whole i less = elim (below_or_here i n less) [
  | inl h ↦ before i h
  | inr e ↦ (here, subst (λ (k : ℕ). leaves k here) (sym e) left, whole)
]

pub whole_of : (leaves : ℕ → Work → Type 0) (n count : ℕ) → AreWhole leaves n → count ≤ n → AreWhole leaves count
unfolding AreWhole
whole_of leaves n count whole all i less = whole i (omega (arith, all, less))

-- all root moves are cleared: the one with each number by the worker whose number it leaves as the rest
cleared_all : (leaves : ℕ → Work → Type 0) (task : RoundTask) (moves : List Move) (count : ℕ) → 0 < count → AreShares leaves task moves count → AreWhole leaves count → (i : ℕ) → i < length moves → IsCleared task moves i
unfolding AreWhole
cleared_all leaves task moves count some shares whole i inside =
    let small : i % count < count = mod-lt i some in
    let w = whole (i % count) small in
    let share = share_at leaves task moves count (i % count) w.0 shares small w.1 in
    (share.cleared i (share.whole w.2 i inside refl)).2

none_at : (task : RoundTask) (moves : List Move) (i : ℕ) (m : Move) → IsCleared task moves i → slice_get moves i ≡ Some m → HasNoMateWithin (after task.position m) task.winner (task.depth - 1)
unfolding IsCleared
none_at task moves i m cleared at = cleared m at

pub no_mate_behind : (leaves : ℕ → Work → Type 0) (task : RoundTask) (moves : List Move) (count : ℕ) → 0 < count → AreShares leaves task moves count → AreWhole leaves count
    → moves ≡ legal task.position → (IsMated task.position (other_color task.winner) → ⊥) → HasNoMateWithin task.position task.winner task.depth
no_mate_behind leaves task moves count some shares whole listed running [] few line = running line
no_mate_behind leaves task moves count some shares whole listed running (m ∷ rest) few line =
    let there : Contains moves m = subst (λ (ms : List Move). Contains ms m) (sym listed) line.0 in
    let at : slice_get moves there.0 ≡ Some m = slice_get-get_or moves there.0 m there.1 ∙ ap Some there.2 in
    none_at task moves there.0 m (cleared_all leaves task moves count some shares whole there.0 there.1) at rest (omega arith) line.1

pub below_count : (i n count : ℕ) → i < n → n ≡ count → i < count
below_count i n count less same = omega (arith, less, same)

pub whole_end : (leaves : ℕ → Work → Type 0) (n end count : ℕ) → AreWhole leaves n → end ≤ n → end ≡ count → AreWhole leaves count
whole_end leaves n end count whole over same = whole_of leaves n count whole (omega (arith, over, same))

pub lowest_end : (leaves : ℕ → Work → Type 0) (n end count : ℕ) (best : Option RootMate) → IsLowestOf leaves n best → end ≤ n → end ≡ count → (i : ℕ) (work : Work) → i < count → leaves i work → IsNoHigher best work.mate
lowest_end leaves n end count best lowest over same = lowest_of leaves n count best lowest (omega (arith, over, same))

-- the root move and the line behind it
pub root_found : (task : RoundTask) (moves : List Move) (x : RootMate) → IsRootMate task moves x → (m : Move) × (slice_get moves x.root_move ≡ Some m)
unfolding IsRootMate
root_found task moves x mates = (mates.0, mates.1)

pub same_mate_answer : (a b : List Move) → (let o : Result RoundAnswer NoMemory = Ok (Mate b) in o) ≡ Ok (Mate a) → a ≡ b
same_mate_answer a b is = cc

no_mate_lower : (o : Option RootMate) → IsNoHigher None o → o ≡ None
no_mate_lower None h = refl
no_mate_lower (Some x) h = absurd h

only_true : (b : Bool) → (b ≡ false → ⊥) → b ≡ true
only_true true not = refl
only_true false not = absurd (not refl)

-- a worker that met no mate and did not spend its allowance cleared all its root moves, or was refused memory
pub refused_here : (work : Work) → IsNoHigher None work.mate → work.spent ≡ false → (IsWhole work → ⊥) → work.refused ≡ true
refused_here work lower left not = only_true work.refused (λ e. not (no_mate_lower work.mate lower, left, e))

-- each worker below a number has some of its allowance left
unfoldable pub HaveLeft : (ℕ → Work → Type 0) → ℕ → Type 0
HaveLeft leaves n = (i : ℕ) (work : Work) → i < n → leaves i work → work.spent ≡ false

pub left_none : (leaves : ℕ → Work → Type 0) (n : ℕ) → n ≡ 0 → HaveLeft leaves n
unfolding HaveLeft
left_none leaves n none i work less left = absurd (omega (arith, none, less))

pub left_more : (leaves : ℕ → Work → Type 0) (n : ℕ) (here : Work) → HaveLeft leaves n → ((work : Work) → leaves n work → work ≡ here) → here.spent ≡ false → HaveLeft leaves (n + 1)
unfolding HaveLeft
left_more leaves n here before only spent i work less left = elim (below_or_here i n less) [
  | inl h ↦ before i work h left
  | inr e ↦ (let same : work ≡ here = only work (subst (λ (k : ℕ). leaves k work) e left) in subst (λ (w : Work). w.spent ≡ false) (sym same) spent)
]

pub left_end : (leaves : ℕ → Work → Type 0) (n end count : ℕ) → HaveLeft leaves n → end ≤ n → end ≡ count → (i : ℕ) (work : Work) → i < count → leaves i work → work.spent ≡ false
unfolding HaveLeft
left_end leaves n end count before over same i work less left = before i work (omega (arith, over, same, less)) left
