-- What one more node makes of a shared certificate.
use Rattle.std.proofs.Common.{◌≡◌, ℕ, ◌+◌, ◌<◌, List, [], ◌∷◌, ◌++◌, length, map, get_or, refl, sym, ap, subst, ◌∙◌, arith, inl, inr}
use Rattle.std.specs.List.{All, Contains}
use Rattle.std.proofs.lemmas.Bool.{cases_lt}
use Rattle.std.proofs.lemmas.List.{length-append, length-map, map-append, get_or-map, get_or_append_left, same_lists}
use Rattle.std.proofs.lemmas.List.Elements.{All-push}
use Rattle.std.proofs.lemmas.Option.{slice_get_within, get_or_from_slice_get}
use Rattle.std.proofs.Math.Seq.{get_or-append_seam}
use Rattle.cha_list.specs.Distinct.{AreDistinct}
use Rattle.cha_list.proofs.Distinct.{push_apart}
use Rattle.cha_list.proofs.Longer.{stays_at, was_at, last_at}
use Rattle.cha_board.specs.Board.{Board}
use Rattle.mob_sets.specs.Rows.{SetRows}
use Rattle.mob_small.specs.declared.reasons.Reason.{Reason}
use Rattle.cha_cert.specs.declared.nodes.Node.{Node}
use Rattle.cha_cert.specs.declared.nodes.Part.TheVariants.{Inner, Leaf, Men}
use Rattle.cha_cert.specs.declared.shared.SharedNode.{SharedNode}
use Rattle.cha_cert.specs.declared.shared.SharedPart.{SharedPart}
use Rattle.cha_cert.specs.declared.shared.SharedPart.TheVariants.{Inner as SharedInner, Leaf as SharedLeaf, Men as SharedMen}
use Rattle.cha_cert.specs.Shared.{Shared, Names, no_sets, part_of, node_of, IsFirstNamed, Shares, IsAt}

-- more sets change no node that names others
pub part_grown : (sets more : List SetRows) (part : SharedPart) → Names (length sets) part → part_of (sets ++ more) part ≡ part_of sets part
part_grown sets more SharedInner named = refl
part_grown sets more (SharedLeaf i) named = ap Leaf (get_or_append_left sets more no_sets i named)
part_grown sets more (SharedMen reason) named = refl

pub expansion_grown : (sets more : List SetRows) (nodes : List SharedNode) → All (λ node. Names (length sets) node.part) nodes
    → map (node_of (sets ++ more)) nodes ≡ map (node_of sets) nodes
expansion_grown sets more nodes named =
    same_lists (map (node_of (sets ++ more)) nodes) (map (node_of sets) nodes) (length-map nodes (node_of (sets ++ more)) ∙ sym (length-map nodes (node_of sets))) (λ k d inside.
    let e : SharedNode = record { position = d.position; part = SharedInner } in
    let less : k < length nodes = omega (arith, inside, length-map nodes (node_of (sets ++ more))) in
    let node = get_or nodes k e in
    let same : node_of (sets ++ more) node ≡ node_of sets node = ap (λ part. record { position = node.position; part = part }) (part_grown sets more node.part (named k e less)) in
    get_or-map (node_of (sets ++ more)) nodes k e d less ∙ same ∙ sym (get_or-map (node_of sets) nodes k e d less))

-- what was named first is still named first
first_stays : (nodes : List SharedNode) (node : SharedNode) (i : ℕ) → IsFirstNamed nodes i → IsFirstNamed (nodes ++ node ∷ []) i
first_stays nodes node i f = record {
  at = f.at;
  node = f.node;
  there = stays_at nodes (node ∷ []) f.at f.node f.there;
  names = f.names;
  before = λ j earlier less e. f.before j earlier less (was_at nodes (node ∷ []) j earlier (let inside = slice_get_within nodes f.at f.node f.there in omega (arith, less, inside)) e);
}

names_more : (n : ℕ) (part : SharedPart) → Names n part → Names (n + 1) part
names_more n SharedInner named = tt
names_more n (SharedLeaf i) named = omega (arith, named)
names_more n (SharedMen reason) named = tt

-- a node that names sets that are there
pub node_shared : (c : Shared) (nodes : List Node) (node : SharedNode) → Names (length c.sets) node.part → Shares c nodes
    → Shares (record { sets = c.sets; nodes = c.nodes ++ node ∷ [] }) (nodes ++ node_of c.sets node ∷ [])
node_shared c nodes node named s = record {
  named = All-push (λ (n : SharedNode). Names (length c.sets) n.part) c.nodes node s.named named;
  few = (let few = s.few in omega (arith, few, length-append c.nodes (node ∷ [])));
  expands = map-append (node_of c.sets) c.nodes (node ∷ []) ∙ ap (λ ns. ns ++ node_of c.sets node ∷ []) s.expands;
  order = record {
    distinct = s.order.distinct;
    first = λ i inside. first_stays c.nodes node i (s.order.first i inside);
  };
}

-- a leaf with new sets
pub leaf_shared : (c : Shared) (nodes : List Node) (q : Board) (sets : SetRows) → (Contains c.sets sets → ⊥) → Shares c nodes
    → Shares (record { sets = c.sets ++ sets ∷ []; nodes = c.nodes ++ (record { position = q; part = SharedLeaf (length c.sets) }) ∷ [] }) (nodes ++ (record { position = q; part = Leaf sets }) ∷ [])
leaf_shared c nodes q sets new s =
    let n = length c.sets in
    let leaf : SharedNode = record { position = q; part = SharedLeaf n } in
    let more : List SetRows = c.sets ++ sets ∷ [] in
    let long : length more ≡ n + 1 = length-append c.sets (sets ∷ []) in
    let own : node_of more leaf ≡ record { position = q; part = Leaf sets } = ap (λ x. record { position = q; part = Leaf x }) (get_or-append_seam c.sets sets [] no_sets) in
    let N : ℕ → Type 0 = λ m. All (λ (x : SharedNode). Names m x.part) (c.nodes ++ leaf ∷ []) in
    record {
      named = subst N (sym long) (All-push (λ (x : SharedNode). Names (n + 1) x.part) c.nodes leaf (λ k d inside. names_more n (get_or c.nodes k d).part (s.named k d inside)) (omega arith));
      few = (let few = s.few in omega (arith, few, long, length-append c.nodes (leaf ∷ [])));
      expands =
          map-append (node_of more) c.nodes (leaf ∷ [])
          ∙ (let old = expansion_grown c.sets (sets ∷ []) c.nodes s.named ∙ s.expands in λ i. old i ++ own i ∷ []);
      order = record {
        distinct = push_apart c.sets sets s.order.distinct new;
        first = λ i inside. elim (cases_lt i n) [
          | inl less ↦ first_stays c.nodes leaf i (s.order.first i less)
          | inr past ↦ (
              let same : n ≡ i = omega (arith, inside, long, past) in
              subst (IsFirstNamed (c.nodes ++ leaf ∷ [])) same (record {
                at = length c.nodes;
                node = leaf;
                there = last_at c.nodes leaf;
                names = refl;
                before = λ j earlier less e. (
                    let old = was_at c.nodes (leaf ∷ []) j earlier less e in
                    let N' : SharedNode → Type 0 = λ x. Names n x.part in
                    subst N' (get_or_from_slice_get c.nodes j earlier earlier old) (s.named j earlier less));
              }))
        ];
      };
    }

-- nothing is shared at first
pub nothing_shared : (c : Shared) → c ≡ record { sets = []; nodes = [] } → Shares c []
unfolding AreDistinct
nothing_shared c e =
    let none : Shares (record { sets = []; nodes = [] }) [] = record {
      named = λ k d inside. absurd (omega (arith, inside));
      few = omega arith;
      expands = refl;
      order = record { distinct = tt; first = λ i inside. absurd (omega (arith, inside)) };
    } in
    subst (λ (x : Shared). Shares x []) (sym e) none

-- an inner node
pub inner_added : (c d : Shared) (nodes : List Node) (q : Board) → d ≡ record { sets = c.sets; nodes = c.nodes ++ (record { position = q; part = SharedInner }) ∷ [] } → Shares c nodes
    → Shares d (nodes ++ (record { position = q; part = Inner }) ∷ [])
inner_added c d nodes q e s =
    subst (λ (x : Shared). Shares x (nodes ++ (record { position = q; part = Inner }) ∷ [])) (sym e) (node_shared c nodes (record { position = q; part = SharedInner }) tt s)

-- a node whose men show it alone
pub men_added : (c d : Shared) (nodes : List Node) (q : Board) (reason : Reason) → d ≡ record { sets = c.sets; nodes = c.nodes ++ (record { position = q; part = SharedMen reason }) ∷ [] } → Shares c nodes
    → Shares d (nodes ++ (record { position = q; part = Men reason }) ∷ [])
men_added c d nodes q reason e s =
    subst (λ (x : Shared). Shares x (nodes ++ (record { position = q; part = Men reason }) ∷ [])) (sym e) (node_shared c nodes (record { position = q; part = SharedMen reason }) tt s)

-- a leaf whose sets are there
pub old_added : (c d : Shared) (all : List SetRows) (nodes : List Node) (q : Board) (s : SetRows) (i : ℕ) → all ≡ c.sets → IsAt all s i
    → d ≡ record { sets = c.sets; nodes = c.nodes ++ (record { position = q; part = SharedLeaf i }) ∷ [] } → Shares c nodes
    → Shares d (nodes ++ (record { position = q; part = Leaf s }) ∷ [])
old_added c d all nodes q s i here at e sh =
    let inside : i < length c.sets = subst (λ (xs : List SetRows). i < length xs) here at.inside in
    let same : get_or c.sets i no_sets ≡ s = subst (λ (xs : List SetRows). get_or xs i no_sets ≡ s) here (at.same no_sets) in
    let added = node_shared c nodes (record { position = q; part = SharedLeaf i }) inside sh in
    subst (λ (x : Shared). Shares x (nodes ++ (record { position = q; part = Leaf s }) ∷ [])) (sym e)
    (subst (λ (x : SetRows). Shares (record { sets = c.sets; nodes = c.nodes ++ (record { position = q; part = SharedLeaf i }) ∷ [] }) (nodes ++ (record { position = q; part = Leaf x }) ∷ [])) same added)

-- a leaf whose sets are new, and were appended before
pub new_added : (c e d : Shared) (all : List SetRows) (nodes : List Node) (q : Board) (s copy : SetRows) (n : ℕ) → all ≡ c.sets → (Contains all s → ⊥) → copy ≡ s
    → e ≡ record { sets = c.sets ++ copy ∷ []; nodes = c.nodes } → n ≡ length c.sets
    → d ≡ record { sets = e.sets; nodes = e.nodes ++ (record { position = q; part = SharedLeaf n }) ∷ [] } → Shares c nodes
    → Shares d (nodes ++ (record { position = q; part = Leaf s }) ∷ [])
new_added c e d all nodes q s copy n here new copied grown at pushed sh =
    let new' : Contains c.sets s → ⊥ = subst (λ (xs : List SetRows). Contains xs s → ⊥) here new in
    let added = leaf_shared c nodes q s new' sh in
    let sets : c.sets ++ s ∷ [] ≡ e.sets = sym (ap (λ (x : Shared). x.sets) grown ∙ ap (λ x. c.sets ++ x ∷ []) copied) in
    let old : c.nodes ≡ e.nodes = sym (ap (λ (x : Shared). x.nodes) grown) in
    let last : length c.sets ≡ n = sym at in
    let all_same : record { sets = c.sets ++ s ∷ []; nodes = c.nodes ++ (record { position = q; part = SharedLeaf (length c.sets) }) ∷ [] } ≡ d =
    (λ i. record { sets = sets i; nodes = old i ++ (record { position = q; part = SharedLeaf (last i) }) ∷ [] }) ∙ sym pushed in
    subst (λ (x : Shared). Shares x (nodes ++ (record { position = q; part = Leaf s }) ∷ [])) all_same added
