-- How many looks a search and a check take.
use Rattle.std.proofs.Common.{◌≡◌, ℕ, suc, ◌+◌, ◌-◌, ◌*◌, ◌^◌, ◌<◌, ◌≤◌, List, take, get_or, length, refl, sym, ap, ◌∙◌, subst, arith, inl, inr}
use Rattle.std.proofs.Math.Nat.{pow-succ', pow-le-pow_right, mul-le-mul_left, mul-add, mul_assoc, mul_comm}
use Rattle.std.proofs.lemmas.Bool.{cases_lt}
use Rattle.std.proofs.lemmas.List.Sums.{sum_by_more, sum_by-take-le}
use Rattle.std.proofs.lemmas.List.{length-map, get_or-map}
use Rattle.cha_board.specs.Board.{Board}
use Rattle.cha_moves.specs.Moves.{legal}
use Rattle.mob_sets.specs.Rows.{SetRows}
use Rattle.cha_cert.specs.declared.indexing.IndexEntry.{IndexEntry}
use Rattle.cha_cert.specs.declared.nodes.Node.{Node}
use Rattle.cha_cert.specs.declared.nodes.Part.{Part}
use Rattle.cha_cert.specs.declared.nodes.Part.TheVariants.{Inner}
use Rattle.cha_cert.specs.declared.shared.SharedNode.{SharedNode}
use Rattle.cha_cert.specs.declared.shared.SharedPart.{SharedPart}
use Rattle.cha_cert.specs.declared.shared.SharedPart.TheVariants.{Inner as SharedInner, Leaf as SharedLeaf, Men as SharedMen}
use Rattle.cha_cert.specs.Indexed.{IsIndexOf}
use Rattle.cha_cert.specs.Shared.{Shared, part_of, node_of, expansion}
use Rattle.cha_cert.specs.Costs.{moves_at, shared_moves_at, shared_moves, inner_moves, CostsAtMost}
use Rattle.cha_cert.proofs.Finding.{index_length}

-- Half of d places are left after one look more.
look_halves : (before now n d e : ℕ) → before ≤ now → 0 < d → e + e ≤ d → 2 ^ suc (now - before) * d ≤ 2 * n + 1
    → (2 ^ (now + 1 - before) ≤ 2 * n + 1) × (2 ^ suc (now + 1 - before) * e ≤ 2 * n + 1)
look_halves before now n d e rises some half left =
    let p = 2 ^ suc (now - before) in
    let next : now + 1 - before ≡ suc (now - before) = omega (arith, rises) in
    let once : p * 1 ≤ p * d = mul-le-mul_left p some in
    let twice : p * (2 * e) ≤ p * d = mul-le-mul_left p (omega (arith, half)) in
    let power : 2 ^ suc (suc (now - before)) ≡ 2 * p = pow-succ' 2 (suc (now - before)) in
    let same : 2 ^ suc (suc (now - before)) * e ≡ p * (2 * e) = ap (λ x. x * e) (power ∙ mul_comm 2 p) ∙ mul_assoc p 2 e in (
      subst (λ k. 2 ^ k ≤ 2 * n + 1) (sym next) (omega (arith, once, left)),
      subst (λ k. 2 ^ suc k * e ≤ 2 * n + 1) (sym next) (omega (arith, same, twice, left)),
    )

-- Where some places are left, one look more is within the bound.
pub one_look : (before now next n d : ℕ) → before ≤ now → next ≡ now + 1 → 0 < d → 2 ^ suc (now - before) * d ≤ 2 * n + 1
    → 2 ^ (next - before) ≤ 2 * n + 1
one_look before now next n d rises step some left =
    subst (λ k. 2 ^ (k - before) ≤ 2 * n + 1) (sym step) (look_halves before now n d 0 rises some (omega arith) left).0

-- Where at most half of the places are left after it, the bound holds on.
pub half_left : (before now next n d e : ℕ) → before ≤ now → next ≡ now + 1 → 0 < d → e + e ≤ d → 2 ^ suc (now - before) * d ≤ 2 * n + 1
    → 2 ^ suc (next - before) * e ≤ 2 * n + 1
half_left before now next n d e rises step some half left =
    subst (λ k. 2 ^ suc (k - before) * e ≤ 2 * n + 1) (sym step) (look_halves before now n d e rises some half left).1

pub no_look : (before n : ℕ) → (2 ^ (before - before) ≤ 2 * n + 1) × (2 ^ suc (before - before) * (n - 0) ≤ 2 * n + 1)
no_look before n =
    let none : 0 ≡ before - before = omega arith in
    (subst (λ k. 2 ^ k ≤ 2 * n + 1) none (omega arith), subst (λ k. 2 ^ suc k * (n - 0) ≤ 2 * n + 1) none (omega arith))

-- a search takes at most b looks
search_bound : (n before now : ℕ) → before ≤ now → 2 ^ (now - before) ≤ 2 * n + 1 → (b : ℕ) → 2 * n + 1 < 2 ^ (b + 1) → now ≤ before + b * 1
search_bound n before now rises cost b large =
    elim (cases_lt (now - before) (b + 1)) [
      | inl low ↦ omega (arith, low, rises)
      | inr high ↦ (let more : 2 ^ (b + 1) ≤ 2 ^ (now - before) = pow-le-pow_right (omega arith) high in absurd (omega (arith, more, cost, large)))
    ]

pub cost_search : (n before now : ℕ) → before ≤ now → 2 ^ (now - before) ≤ 2 * n + 1 → CostsAtMost n 1 before now
cost_search n before now rises cost = (rises, search_bound n before now rises cost)

no_more : (a p : ℕ) → a ≤ a + p
no_more a p = omega arith

still : (a : ℕ) → a ≤ a
still a = omega arith

pub cost_none : (n m a : ℕ) → CostsAtMost n m a a
cost_none n m a = (still a, λ b large. no_more a (b * m))

later : (x y z : ℕ) → x ≤ y → y ≤ z → x ≤ z
later x y z one two = omega (arith, one, two)

sums : (x y z p q r : ℕ) → y ≤ x + p → z ≤ y + q → r ≡ p + q → z ≤ x + r
sums x y z p q r one two all = omega (arith, one, two, all)

pub cost_sum : (n k m x y z : ℕ) → CostsAtMost n k x y → CostsAtMost n m y z → CostsAtMost n (k + m) x z
cost_sum n k m x y z one two =
    (later x y z one.0 two.0, λ b large. sums x y z (b * k) (b * m) (b * (k + m)) (one.1 b large) (two.1 b large) (mul-add b k m))

within : (x y p q : ℕ) → y ≤ x + p → p ≤ q → y ≤ x + q
within x y p q one less = omega (arith, one, less)

pub cost_within : (n k m x y : ℕ) → k ≤ m → CostsAtMost n k x y → CostsAtMost n m x y
cost_within n k m x y less one = (one.0, λ b large. within x y (b * k) (b * m) (one.1 b large) (mul-le-mul_left b less))

-- an inner node
pub inner_cost : (nodes : List Node) (places : List IndexEntry) (q : Board) (part : Part) (x y : ℕ) → IsIndexOf nodes places → part ≡ Inner → CostsAtMost (length places) (length (legal q)) x y → CostsAtMost (length nodes) (moves_at q part) x y
inner_cost nodes places q part x y is inner cost =
    subst (λ p. CostsAtMost (length nodes) (moves_at q p) x y) (sym inner) (subst (λ n. CostsAtMost n (length (legal q)) x y) (index_length nodes places is) cost)

pub shared_inner_cost : (c : Shared) (places : List IndexEntry) (q : Board) (part : SharedPart) (x y : ℕ) → IsIndexOf (expansion c) places → part ≡ SharedInner
    → CostsAtMost (length places) (length (legal q)) x y → CostsAtMost (length c.nodes) (shared_moves_at q part) x y
shared_inner_cost c places q part x y is inner cost =
    subst (λ p. CostsAtMost (length c.nodes) (shared_moves_at q p) x y) (sym inner)
    (subst (λ n. CostsAtMost n (length (legal q)) x y) (index_length (expansion c) places is ∙ length-map c.nodes (node_of c.sets)) cost)

-- a shared node has the moves of its expansion
pub moves_expanded : (sets : List SetRows) (q : Board) (part : SharedPart) → shared_moves_at q part ≡ moves_at q (part_of sets part)
moves_expanded sets q SharedInner = refl
moves_expanded sets q (SharedLeaf i) = refl
moves_expanded sets q (SharedMen reason) = refl

-- one more node
pub node_cost : (n k : ℕ) (nodes : List Node) (d : Node) (moves x y z : ℕ) → k < length nodes → moves ≡ moves_at (get_or nodes k d).position (get_or nodes k d).part
    → CostsAtMost n (inner_moves (take k nodes)) x y → CostsAtMost n moves y z → CostsAtMost n (inner_moves (take (k + 1) nodes)) x z
node_cost n k nodes d moves x y z inside is one two =
    let more = sum_by_more (λ (node : Node). moves_at node.position node.part) nodes k d inside in
    subst (λ m. CostsAtMost n m x z) (ap (λ m. inner_moves (take k nodes) + m) is ∙ sym more) (cost_sum n (inner_moves (take k nodes)) moves x y z one two)

pub part_cost : (n k : ℕ) (nodes : List Node) (x y : ℕ) → CostsAtMost n (inner_moves (take k nodes)) x y → CostsAtMost n (inner_moves nodes) x y
part_cost n k nodes x y one = cost_within n (inner_moves (take k nodes)) (inner_moves nodes) x y (sum_by-take-le (λ (node : Node). moves_at node.position node.part) nodes k) one

pub one_node_cost : (n k : ℕ) (nodes : List Node) (d : Node) (moves x y z : ℕ) → k < length nodes → moves ≡ moves_at (get_or nodes k d).position (get_or nodes k d).part
    → CostsAtMost n (inner_moves (take k nodes)) x y → CostsAtMost n moves y z → CostsAtMost n (inner_moves nodes) x z
one_node_cost n k nodes d moves x y z inside is one two = part_cost n (k + 1) nodes x z (node_cost n k nodes d moves x y z inside is one two)

pub shared_node_cost : (c : Shared) (k : ℕ) (item : SharedNode) (x y z : ℕ) → k < length c.nodes → ((e : SharedNode) → get_or c.nodes k e ≡ item)
    → CostsAtMost (length c.nodes) (inner_moves (take k (expansion c))) x y → CostsAtMost (length c.nodes) (shared_moves item) y z
    → CostsAtMost (length c.nodes) (inner_moves (take (k + 1) (expansion c))) x z
shared_node_cost c k item x y z inside there one two =
    let d = node_of c.sets item in
    let here : get_or (expansion c) k d ≡ d = get_or-map (node_of c.sets) c.nodes k item d inside ∙ ap (node_of c.sets) (there item) in
    let is = moves_expanded c.sets item.position item.part ∙ ap (λ (n : Node). moves_at n.position n.part) (sym here) in
    node_cost (length c.nodes) k (expansion c) d (shared_moves item) x y z (omega (arith, inside, length-map c.nodes (node_of c.sets))) is one two
