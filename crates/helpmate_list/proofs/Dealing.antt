-- What workers find, one root move after the other.
use Rattle.std.proofs.Common.{◌≡◌, ℕ, zero, suc, ◌+◌, ◌-◌, ◌%◌, ◌<◌, ◌≤◌, ◌⊎◌, List, [], ◌∷◌, ◌++◌, length, get_or, take, Some, Result, Ok, IfOk, Contains, Vec, Global, inl, inr, refl, sym, ◌∙◌, ap, subst, arith}
use Rattle.std.specs.List.{slice_get}
use Rattle.std.proofs.Math.Nat.{mod-lt}
use Rattle.std.proofs.lemmas.List.{take_more, take_all}
use Rattle.std.proofs.lemmas.List.Elements.{Contains-append_left, Contains-push, Contains-push_cases}
use Rattle.std.proofs.lemmas.Option.{slice_get_read, get_or_from_slice_get}
use Rattle.cha_list.specs.declared.memory.NoMemory.{NoMemory}
use Rattle.cha_moves.specs.Step.{Move}
use Rattle.cha_moves.specs.Moves.{after}
use Rattle.cha_moves.specs.MateLines.{mate_lines}
use Rattle.helpmate_list.specs.Shortest.{most_lines}
use Rattle.helpmate_list.specs.Parts.{IsBehindRoot, HasRoot, IsPart, AreParts}
use Rattle.helpmate_list.specs.declared.parts.MateTask.{MateTask}
use Rattle.helpmate_list.specs.declared.parts.RootLines.{RootLines}

-- a worker has searched its root moves below a number
pub record IsPartBelow (task : MateTask) (moves : List Move) (number count upto : ℕ) (found : List RootLines) : Type 0 where
  pub right : (behind : RootLines) → Contains found behind → IsBehindRoot task moves behind
  pub whole : (i : ℕ) → i < upto → i % count ≡ number → HasRoot found i

has_more : (found : List RootLines) (one : RootLines) (i : ℕ) → HasRoot found i → HasRoot (found ++ one ∷ []) i
unfolding HasRoot
has_more found one i h = (h.0, Contains-append_left found (one ∷ []) h.0 h.1, h.2)

has_here : (found : List RootLines) (one : RootLines) (i : ℕ) → one.root_move ≡ i → HasRoot (found ++ one ∷ []) i
unfolding HasRoot
has_here found one i is = (one, Contains-push found one, is)

below_or_here : (i n : ℕ) → i < n + 1 → (i < n) ⊎ (n ≡ i)
below_or_here zero zero less = inr refl
below_or_here zero (suc n) less = inl (omega arith)
below_or_here (suc i) zero less = absurd (omega (arith, less))
below_or_here (suc i) (suc n) less = elim (below_or_here i n (omega (arith, less))) [ inl h ↦ inl (omega (arith, h)) | inr e ↦ inr (ap suc e) ]

-- the next root move is the worker's own
pub part_more : (task : MateTask) (moves : List Move) (number count i : ℕ) (found new : List RootLines) (one : RootLines) → IsPartBelow task moves number count i found → new ≡ found ++ one ∷ [] → one.root_move ≡ i → IsBehindRoot task moves one → IsPartBelow task moves number count (i + 1) new
part_more task moves number count i found new one before is named right =
    let W : List RootLines → Type 0 = λ l. IsPartBelow task moves number count (i + 1) l in
    subst W (sym is) (record {
      right = λ behind there. elim (Contains-push_cases found one behind there) [
        | inl h ↦ before.right behind h
        | inr e ↦ subst (IsBehindRoot task moves) e right
      ];
      whole = λ k less mine. elim (below_or_here k i less) [
        | inl h ↦ has_more found one k (before.whole k h mine)
        | inr e ↦ has_here found one k (named ∙ e)
      ];
    })

-- the next root move is another worker's
pub part_same : (task : MateTask) (moves : List Move) (number count i : ℕ) (found : List RootLines) → IsPartBelow task moves number count i found → (i % count ≡ number → ⊥) → IsPartBelow task moves number count (i + 1) found
part_same task moves number count i found before other = record {
  right = before.right;
  whole = λ k less mine. elim (below_or_here k i less) [
    | inl h ↦ before.whole k h mine
    | inr e ↦ absurd (other (ap (λ n. n % count) e ∙ mine))
  ];
}

-- the first lines behind a root move
pub behind_here : (task : MateTask) (moves : List Move) (behind : RootLines) (m : Move) (i : ℕ) → behind.root_move ≡ i → i < length moves → m ≡ get_or moves i m → behind.lines ≡ take (suc most_lines) (mate_lines (task.plies - 1) (after task.position m) task.winner) → IsBehindRoot task moves behind
unfolding IsBehindRoot
behind_here task moves behind m i named less here is = λ other at.
    let G : ℕ → Type 0 = λ k. slice_get moves k ≡ Some other in
    let same : m ≡ other = here ∙ get_or_from_slice_get moves i other m (subst G named at) in
    is ∙ ap (λ x. take (suc most_lines) (mate_lines (task.plies - 1) (after task.position x) task.winner)) same

pub lines_behind : (task : MateTask) (moves : List Move) (found : List RootLines) (behind : RootLines) (number count i : ℕ) (m : Move) → IsPart task moves number count found → Contains found behind → behind.root_move ≡ i → i < length moves → m ≡ get_or moves i m
    → behind.lines ≡ take (suc most_lines) (mate_lines (task.plies - 1) (after task.position m) task.winner)
unfolding IsBehindRoot
lines_behind task moves found behind number count i m part there named less here =
    let G : ℕ → Type 0 = λ k. slice_get moves k ≡ Some m in
    part.right behind there m (subst G (sym named) (slice_get_read moves (length moves) i m refl less here))

-- none of the first ones is of a root move
pub none_named : (found : List RootLines) (root i : ℕ) (one : RootLines) → ((behind : RootLines) → Contains (take i found) behind → behind.root_move ≡ root → ⊥) → i < length found → one ≡ get_or found i one → (one.root_move ≡ root → ⊥) → (behind : RootLines) → Contains (take (i + 1) found) behind → behind.root_move ≡ root → ⊥
none_named found root i one before less here not behind there named =
    let L : List RootLines → Type 0 = λ l. Contains l behind in
    let R : RootLines → Type 0 = λ x. x.root_move ≡ root in
    elim (Contains-push_cases (take i found) (get_or found i one) behind (subst L (take_more found i one less) there)) [
      | inl h ↦ before behind h named
      | inr e ↦ not (subst R (sym (here ∙ e)) named)
    ]

pub some_named : (found : List RootLines) (root i : ℕ) → HasRoot found root → ((behind : RootLines) → Contains (take i found) behind → behind.root_move ≡ root → ⊥) → length found ≤ i → ⊥
unfolding HasRoot
some_named found root i h none all =
    let L : List RootLines → Type 0 = λ l. Contains l h.0 in
    none h.0 (subst L (sym (take_all i found all)) h.1) h.2

-- the parts of the first workers
pub record ArePartsBelow (task : MateTask) (moves : List Move) (count upto : ℕ) (parts : List (Result (Vec RootLines Global) NoMemory)) : Type 0 where
  pub size : length parts ≡ upto
  pub each : (i : ℕ) (d : Result (Vec RootLines Global) NoMemory) → i < upto → IfOk (get_or parts i d) (λ found. IsPart task moves i count found.items)

pub parts_done : (task : MateTask) (moves : List Move) (count n : ℕ) (parts : List (Result (Vec RootLines Global) NoMemory)) → ArePartsBelow task moves count n parts → n ≡ count → AreParts task moves count parts
unfolding AreParts
parts_done task moves count n parts before all =
    let P : ℕ → Type 0 = λ k. ArePartsBelow task moves count k parts in
    let whole = subst P all before in
    (whole.size, whole.each)

pub part_at : (task : MateTask) (moves : List Move) (count i : ℕ) (parts : List (Result (Vec RootLines Global) NoMemory)) (d : Result (Vec RootLines Global) NoMemory) → AreParts task moves count parts → i < count → IfOk (get_or parts i d) (λ found. IsPart task moves i count found.items)
unfolding AreParts
part_at task moves count i parts d whole less = whole.1 i d less

pub parts_size : (task : MateTask) (moves : List Move) (count : ℕ) (parts : List (Result (Vec RootLines Global) NoMemory)) → AreParts task moves count parts → length parts ≡ count
unfolding AreParts
parts_size task moves count parts whole = whole.0

pub parts_alike : (task : MateTask) (moves : List Move) (count : ℕ) (now parts : List (Result (Vec RootLines Global) NoMemory)) → now ≡ parts → AreParts task moves count parts → AreParts task moves count now
parts_alike task moves count now parts is whole =
    let P : List (Result (Vec RootLines Global) NoMemory) → Type 0 = λ l. AreParts task moves count l in
    subst P (sym is) whole

-- the part of the worker that has a root move
pub found_at : (task : MateTask) (moves : List Move) (parts : List (Result (Vec RootLines Global) NoMemory)) (root : ℕ) (r : Result (Vec RootLines Global) NoMemory) (found : Vec RootLines Global) (items : List RootLines) → AreParts task moves (length parts) parts → 0 < length parts → r ≡ get_or parts (root % length parts) r → r ≡ Ok found → items ≡ found.items
    → IsPart task moves (root % length parts) (length parts) items
found_at task moves parts root r found items whole some here is same =
    let P : Result (Vec RootLines Global) NoMemory → Type 0 = λ x. IfOk x (λ f. IsPart task moves (root % length parts) (length parts) f.items) in
    let Q : List RootLines → Type 0 = λ l. IsPart task moves (root % length parts) (length parts) l in
    subst Q (sym same) (subst P (sym here ∙ is) (part_at task moves (length parts) (root % length parts) parts r whole (mod-lt root some)))

pub has_root : (task : MateTask) (moves : List Move) (parts : List (Result (Vec RootLines Global) NoMemory)) (root : ℕ) (items : List RootLines) → root < length moves → IsPart task moves (root % length parts) (length parts) items → HasRoot items root
has_root task moves parts root items less part = part.whole root less refl
