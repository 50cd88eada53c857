-- The certificate of a region in which nothing waits.
use Rattle.std.proofs.Common.{◌≡◌, ℕ, zero, suc, ◌+◌, inl, inr, ◌≤◌, List, [], ◌∷◌, ◌++◌, length, drop, Some, Result, Ok, Err, slice_get, refl, sym, ap, subst, ◌∙◌, arith}
use Rattle.std.specs.List.{All, Contains}
use Rattle.std.specs.Result.{IfOk}
use Rattle.cha_list.specs.declared.memory.NoMemory.{NoMemory}
use Rattle.std.proofs.lemmas.Option.{same_Some}
use Rattle.std.proofs.lemmas.List.{append_assoc, append-nil}
use Rattle.cha_board.specs.declared.men.Color.{Color}
use Rattle.cha_board.specs.Board.{Board, IsValid}
use Rattle.cha_moves.specs.Moves.{after}
use Rattle.cha_cert.specs.declared.nodes.Node.{Node as CertNode}
use Rattle.cha_cert.specs.declared.nodes.Part.{Part}
use Rattle.cha_cert.specs.declared.nodes.Part.TheVariants.{Inner}
use Rattle.cha_cert.specs.Certificates.{positions_of, PartHolds, NodeHolds, BeginsAt, IsValidCert}
use Rattle.node_store.specs.Nodes.{Node, positions}
use Rattle.node_store.specs.Graphs.{IsStore}
use Rattle.cha_cert.proofs.Leaves.{leaf_holds, not_inner}
use Rattle.forced_graph.specs.Regions.{Waits, IsSettled, AreLed, AreExpanded, Between, certified}
use Rattle.forced_graph.specs.declared.explored.Explored.TheVariants.{Closed}
use Rattle.forced_graph.specs.Outcomes.{IsCertSize, HasExpandedInner, IsOutcome}
use Rattle.forced_graph.proofs.ByName.{length_positions}

-- the nodes have these positions
same_places : (qs : List Board) (parts : List Part) → length parts ≡ length qs → positions_of (certified qs parts) ≡ qs
same_places [] parts size = refl
same_places (q ∷ qs) [] size = absurd (omega (arith, size))
same_places (q ∷ qs) (part ∷ parts) size = ap (λ (l : List Board). q ∷ l) (same_places qs parts (omega arith))

pub same_size : (qs : List Board) (parts : List Part) → length parts ≡ length qs → length (certified qs parts) ≡ length qs
same_size [] parts size = refl
same_size (q ∷ qs) [] size = absurd (omega (arith, size))
same_size (q ∷ qs) (part ∷ parts) size = ap suc (same_size qs parts (omega arith))

-- what holds of each position with its part holds of all nodes
all_hold : (P : CertNode → Type 0) (qs : List Board) (parts : List Part) → length parts ≡ length qs → ((i : ℕ) (q : Board) (part : Part) → slice_get qs i ≡ Some q → slice_get parts i ≡ Some part → P (record { position = q; part = part })) → All P (certified qs parts)
all_hold P [] parts size each k d small = absurd (omega (arith, small))
all_hold P (q ∷ qs) [] size each k d small = absurd (omega (arith, size))
all_hold P (q ∷ qs) (part ∷ parts) size each zero d small = each 0 q part refl refl
all_hold P (q ∷ qs) (part ∷ parts) size each (suc k) d small = all_hold P qs parts (omega arith) (λ i. each (suc i)) k d (omega arith)

begins_at : (root : Board) (qs : List Board) (parts : List Part) → length parts ≡ length qs → slice_get qs 0 ≡ Some root → BeginsAt root (certified qs parts)
begins_at root [] parts size at = cc
begins_at root (q ∷ qs) [] size at = absurd (omega (arith, size))
begins_at root (q ∷ qs) (part ∷ parts) size at = same_Some q root at

-- each node holds
holds : (root : Board) (w : Color) (count : ℕ) (nodes : List Node) (waiting : List (List ℕ)) (parts : List Part) → Between root w count nodes waiting parts → ((name : ℕ) → Waits waiting name → ⊥) → (cert : List CertNode) → positions_of cert ≡ positions nodes
    → (i : ℕ) (q : Board) (part : Part) → slice_get (positions nodes) i ≡ Some q → slice_get parts i ≡ Some part → PartHolds w cert q part
unfolding IsSettled AreExpanded AreLed
holds root w count nodes waiting parts was none cert same i q part at has = elim (was.settled i q part at has) [
  | inl waits ↦ absurd (none i waits)
  | inr rest ↦ elim rest [
    | inl member ↦ subst (PartHolds w cert q) (sym member.1) (record {
      no_mate = was.map.running i q at;
      leads = λ m fits. subst (λ (ps : List Board). Contains ps (after q m)) (sym same) (was.expanded q member.0 m fits).met;
    })
    | inr leaf ↦ leaf_holds w cert q part leaf
  ]
]

-- the certificate is valid
pub closed : (root : Board) (w : Color) (count : ℕ) (nodes : List Node) (waiting : List (List ℕ)) (parts : List Part) (cert : List CertNode) → IsStore nodes waiting → Between root w count nodes waiting parts → ((name : ℕ) → Waits waiting name → ⊥) → cert ≡ certified (positions nodes) parts → IsValidCert root w cert
closed root w count nodes waiting parts cert store was none is =
    let size : length parts ≡ length (positions nodes) = was.map.size ∙ sym (length_positions nodes) in
    let whole = certified (positions nodes) parts in
    let same : positions_of whole ≡ positions nodes = same_places (positions nodes) parts size in
    subst (IsValidCert root w) (sym is) (record {
      begins = begins_at root (positions nodes) parts size was.map.begins;
      positions = all_hold (λ node. IsValid node.position) (positions nodes) parts size (λ i q part at has. store.valid i q at);
      holds = all_hold (NodeHolds w whole) (positions nodes) parts size (holds root w count nodes waiting parts was none whole same);
    })

pub cert_size : (nodes : List Node) (waiting : List (List ℕ)) (parts : List Part) (cert : List CertNode) → IsStore nodes waiting → length parts ≡ length nodes → cert ≡ certified (positions nodes) parts → IsCertSize (length cert)
cert_size nodes waiting parts cert store size is =
    let len : length cert ≡ length nodes = ap length is ∙ same_size (positions nodes) parts (size ∙ sym (length_positions nodes)) ∙ length_positions nodes in
    let some = store.some in
    let few = store.few in
    (omega arith, omega arith)

drop_get : {X : Type 0} (xs : List X) (i : ℕ) (x : X) → slice_get xs i ≡ Some x → drop i xs ≡ x ∷ drop (suc i) xs
drop_get [] i x at = cc
drop_get {X = X} (y ∷ ys) zero x at = ap (λ (z : X). z ∷ ys) (same_Some y x at)
drop_get (y ∷ ys) (suc i) x at = drop_get ys i x at

-- the first of the nodes that are left goes to the end of those that are there
pub next_node : (qs : List Board) (cert more whole : List CertNode) (name : ℕ) (q : Board) (part : Part) (left rest : List Part) → slice_get qs name ≡ Some q → cert ++ certified (drop name qs) left ≡ whole → left ≡ part ∷ rest → more ≡ cert ++ record { position = q; part = part } ∷ [] → more ++ certified (drop (name + 1) qs) rest ≡ whole
next_node qs cert more whole name q part left rest at was first is =
    let node : CertNode = record { position = q; part = part } in
    let one : suc name ≡ name + 1 = omega arith in
    let begins : certified (drop name qs) left ≡ node ∷ certified (drop (name + 1) qs) rest =
    ap (certified (drop name qs)) first ∙ ap (λ (l : List Board). certified l (part ∷ rest)) (drop_get qs name q at ∙ ap (λ (k : ℕ). q ∷ drop k qs) one) in
    ap (λ (l : List CertNode). l ++ certified (drop (name + 1) qs) rest) is ∙ append_assoc cert (node ∷ []) (certified (drop (name + 1) qs) rest) ∙ sym (ap (λ (l : List CertNode). cert ++ l) begins) ∙ was

none_left : (qs : List Board) (parts : List Part) → length parts ≡ 0 → certified qs parts ≡ []
none_left [] parts none = refl
none_left (q ∷ qs) [] none = refl
none_left (q ∷ qs) (p ∷ parts) none = absurd (omega (arith, none))

-- where none is left they are all there
pub all_nodes : (qs : List Board) (cert whole : List CertNode) (name : ℕ) (left : List Part) → cert ++ certified (drop name qs) left ≡ whole → length left ≡ 0 → cert ≡ whole
all_nodes qs cert whole name left was none = sym (append-nil cert) ∙ sym (ap (λ (l : List CertNode). cert ++ l) (none_left (drop name qs) left none)) ∙ was

-- and so where memory sufficed
pub closed_ok : (o : Result (List CertNode) NoMemory) (root : Board) (w : Color) (count : ℕ) (nodes : List Node) (waiting : List (List ℕ)) (parts : List Part) → IsStore nodes waiting → Between root w count nodes waiting parts → ((name : ℕ) → Waits waiting name → ⊥) → IfOk o (λ cert. cert ≡ certified (positions nodes) parts) → IfOk o (IsValidCert root w)
closed_ok (Ok cert) root w count nodes waiting parts store was none is = closed root w count nodes waiting parts cert store was none is
closed_ok (Err e) root w count nodes waiting parts store was none is = tt

pub size_ok : (o : Result (List CertNode) NoMemory) (root : Board) (w : Color) (count : ℕ) (nodes : List Node) (waiting : List (List ℕ)) (parts : List Part) → IsStore nodes waiting → Between root w count nodes waiting parts → IfOk o (λ cert. cert ≡ certified (positions nodes) parts) → IfOk o (λ cert. IsCertSize (length cert))
size_ok (Ok cert) root w count nodes waiting parts store was is = cert_size nodes waiting parts cert store was.map.size is
size_ok (Err e) root w count nodes waiting parts store was is = tt

-- so each of them was expanded
inner_expanded : (root : Board) (w : Color) (count : ℕ) (nodes : List Node) (waiting : List (List ℕ)) (parts : List Part) (was : Between root w count nodes waiting parts) → ((name : ℕ) → Waits waiting name → ⊥)
    → (i : ℕ) (q : Board) (part : Part) → slice_get (positions nodes) i ≡ Some q → slice_get parts i ≡ Some part → part ≡ Inner → Contains was.members q
unfolding IsSettled
inner_expanded root w count nodes waiting parts was none i q part at has inner = elim (was.settled i q part at has) [
  | inl waits ↦ absurd (none i waits)
  | inr rest ↦ elim rest [
    | inl member ↦ member.0
    | inr leaf ↦ absurd (not_inner w q part leaf inner)
  ]
]

expanded : (root : Board) (w : Color) (count : ℕ) (nodes : List Node) (waiting : List (List ℕ)) (parts : List Part) (cert : List CertNode) → Between root w count nodes waiting parts → ((name : ℕ) → Waits waiting name → ⊥) → cert ≡ certified (positions nodes) parts → HasExpandedInner root w count cert
expanded root w count nodes waiting parts cert was none is =
    let size : length parts ≡ length (positions nodes) = was.map.size ∙ sym (length_positions nodes) in
    let P : CertNode → Type 0 = λ node. node.part ≡ Inner → Contains was.members node.position in
    let each : (i : ℕ) (q : Board) (part : Part) → slice_get (positions nodes) i ≡ Some q → slice_get parts i ≡ Some part → P (record { position = q; part = part }) = inner_expanded root w count nodes waiting parts was none in
    let whole : HasExpandedInner root w count (certified (positions nodes) parts) = record {
      members = was.members;
      few = (let long = was.size in omega arith);
      distinct = was.grown.distinct;
      first = was.grown.first;
      later = was.grown.later;
      inner = all_hold P (positions nodes) parts size each;
    } in
    subst (HasExpandedInner root w count) (sym is) whole

pub expanded_ok : (o : Result (List CertNode) NoMemory) (root : Board) (w : Color) (count : ℕ) (nodes : List Node) (waiting : List (List ℕ)) (parts : List Part) → Between root w count nodes waiting parts → ((name : ℕ) → Waits waiting name → ⊥) → IfOk o (λ cert. cert ≡ certified (positions nodes) parts) → IfOk o (HasExpandedInner root w count)
expanded_ok (Ok cert) root w count nodes waiting parts was none is = expanded root w count nodes waiting parts cert was none is
expanded_ok (Err e) root w count nodes waiting parts was none is = tt

more_allowed : (q : Board) (w : Color) (count budget : ℕ) (cert : List CertNode) → count ≤ budget → HasExpandedInner q w count cert → HasExpandedInner q w budget cert
more_allowed q w count budget cert most was = record {
  members = was.members;
  few = (let few = was.few in omega arith);
  distinct = was.distinct;
  first = was.first;
  later = was.later;
  inner = was.inner;
}

-- and so of the position and the side that were asked for
pub closed_asked : (root q : Board) (v w : Color) (count budget : ℕ) (cert : List CertNode) → IsValidCert root v cert → IsCertSize (length cert) → HasExpandedInner root v count cert → root ≡ q → v ≡ w → count ≤ budget → IsOutcome q w budget (Closed cert)
closed_asked root q v w count budget cert valid size expanded is same most =
    subst (λ (c : Color). IsOutcome q c budget (Closed cert)) same
    (subst (λ (b : Board). IsOutcome b v budget (Closed cert)) is (valid, size, more_allowed root v count budget cert most expanded))
