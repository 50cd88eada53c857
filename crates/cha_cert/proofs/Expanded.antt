-- What is known of the expansion of a shared certificate.
use Rattle.std.proofs.Common.{◌≡◌, ℕ, ◌<◌, List, length, map, get_or, Some, None, option_map, slice_get, ◌≤◌, sym, ap, subst, ◌∙◌, ◌↔◌, ◌+◌, arith, inl, inr}
use Rattle.std.specs.List.{All}
use Rattle.std.specs.List.Sorted.{IsPermutation}
use Rattle.std.proofs.lemmas.Bool.{cases_lt}
use Rattle.std.proofs.lemmas.List.{get_or-map, length-map}
use Rattle.std.proofs.lemmas.List.Elements.{All-map}
use Rattle.std.proofs.lemmas.Option.{slice_get-map}
use Rattle.std.proofs.lemmas.Simd.{map-map}
use Rattle.cha_board.specs.Board.{Board, IsValid}
use Rattle.cha_board.specs.declared.men.Color.{Color}
use Rattle.cha_cert.specs.declared.nodes.Node.{Node}
use Rattle.cha_cert.specs.declared.indexing.IndexEntry.{IndexEntry}
use Rattle.cha_cert.specs.declared.shared.SharedNode.{SharedNode}
use Rattle.cha_cert.specs.declared.shared.SharedPart.TheVariants.{Inner as SharedInner}
use Rattle.cha_cert.specs.Certificates.{positions_of, BeginsAt, AllValid, NodeHolds, FirstFailing}
use Rattle.cha_cert.specs.Indexed.{places_from, IsIndexOf}
use Rattle.cha_cert.specs.Shared.{Shared, node_of, expansion}
use Rattle.cha_cert.proofs.Answering.{begins_there}
use Rattle.cha_cert.proofs.Finding.{index_made}

pub expansion_valid : (c : Shared) → All (λ (node : SharedNode). IsValid node.position) c.nodes → AllValid (expansion c)
expansion_valid c valid = All-map (λ (node : Node). IsValid node.position) (node_of c.sets) c.nodes (λ k d inside. valid k d inside)

-- the sorted words of the nodes' positions show the expansion
-- sorted places of shared nodes are an index of the expansion
pub shared_index : (c : Shared) (nodes : List SharedNode) (first sorted : List IndexEntry) → nodes ≡ c.nodes → first ≡ places_from 0 (map (λ (node : SharedNode). node.position) nodes) → IsPermutation first sorted
    → All (λ (node : SharedNode). IsValid node.position) nodes → IsIndexOf (expansion c) sorted
shared_index c nodes first sorted same is moved valid =
    let qs : map (λ (node : SharedNode). node.position) nodes ≡ positions_of (expansion c) =
    ap (λ (xs : List SharedNode). map (λ (node : SharedNode). node.position) xs) same ∙ sym (map-map (λ (node : Node). node.position) (node_of c.sets) c.nodes) in
    index_made (expansion c) first sorted (is ∙ ap (places_from 0) qs) moved (expansion_valid c (subst (λ (xs : List SharedNode). All (λ (node : SharedNode). IsValid node.position) xs) same valid))

-- the node of number k
pub expanded_at : (c : Shared) (k : ℕ) (d : Node) (e : SharedNode) → k < length c.nodes → get_or (expansion c) k d ≡ node_of c.sets (get_or c.nodes k e)
expanded_at c k d e inside = get_or-map (node_of c.sets) c.nodes k e d inside

pub length-expansion : (c : Shared) → length (expansion c) ≡ length c.nodes
length-expansion c = length-map c.nodes (node_of c.sets)

-- what begins a shared certificate begins its expansion
pub expansion_begins : (p : Board) (c : Shared) (first : SharedNode) → slice_get c.nodes 0 ≡ Some first → BeginsAt p (expansion c) ↔ (first.position ≡ p)
expansion_begins p c first e =
    begins_there p (expansion c) (node_of c.sets first) (slice_get-map (node_of c.sets) c.nodes 0 ∙ ap (λ o. option_map (node_of c.sets) o) e)

-- some shared node of the place of a node
abbrev shared_of : Node → SharedNode
shared_of d = record { position = d.position; part = SharedInner }

-- what holds of the nodes of a shared certificate holds of its expansion
held_at : (w : Color) (c : Shared) (n k : ℕ) (d : Node) → n ≤ length c.nodes
    → ((j : ℕ) (e : SharedNode) → j < n → NodeHolds w (expansion c) (node_of c.sets (get_or c.nodes j e)))
    → k < n → NodeHolds w (expansion c) (get_or (expansion c) k d)
held_at w c n k d few held less =
    subst (NodeHolds w (expansion c)) (sym (expanded_at c k d (shared_of d) (omega (arith, less, few)))) (held k (shared_of d) less)

pub none_failing : (w : Color) (c : Shared) (n : ℕ) → length c.nodes ≤ n
    → ((j : ℕ) (e : SharedNode) → j < n → NodeHolds w (expansion c) (node_of c.sets (get_or c.nodes j e)))
    → FirstFailing (NodeHolds w (expansion c)) (expansion c) None
none_failing w c n all held k d inside =
    let less : k < length c.nodes = omega (arith, inside, length-expansion c) in
    held_at w c (length c.nodes) k d (omega arith) (λ j e early. held j e (omega (arith, early, all))) less

pub some_failing : (w : Color) (c : Shared) (n : ℕ) (item : SharedNode) → n < length c.nodes → ((e : SharedNode) → get_or c.nodes n e ≡ item)
    → ((j : ℕ) (e : SharedNode) → j < n → NodeHolds w (expansion c) (node_of c.sets (get_or c.nodes j e)))
    → (NodeHolds w (expansion c) (node_of c.sets item) → ⊥)
    → FirstFailing (NodeHolds w (expansion c)) (expansion c) (Some n)
some_failing w c n item inside there held fails = (
  omega (arith, inside, length-expansion c),
  λ j d less. held_at w c n j d (omega (arith, inside)) held less,
  λ d holds. fails (subst (NodeHolds w (expansion c)) (expanded_at c n d (shared_of d) inside ∙ ap (node_of c.sets) (there (shared_of d))) holds),
)

-- one more node holds
pub more_held : (w : Color) (c : Shared) (n : ℕ) (item : SharedNode) → ((e : SharedNode) → get_or c.nodes n e ≡ item)
    → ((j : ℕ) (e : SharedNode) → j < n → NodeHolds w (expansion c) (node_of c.sets (get_or c.nodes j e)))
    → NodeHolds w (expansion c) (node_of c.sets item)
    → (j : ℕ) (e : SharedNode) → j < n + 1 → NodeHolds w (expansion c) (node_of c.sets (get_or c.nodes j e))
more_held w c n item there held holds j e less =
    elim (cases_lt j n) [
      | inl low ↦ held j e low
      | inr high ↦ (
          let same : n ≡ j = omega (arith, less, high) in
          let P : ℕ → Type 0 = λ k. NodeHolds w (expansion c) (node_of c.sets (get_or c.nodes k e)) in
          subst P same (subst (λ x. NodeHolds w (expansion c) (node_of c.sets x)) (sym (there e)) holds))
    ]
