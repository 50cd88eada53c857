-- What holds of a store as nodes are added and names wait and are taken.
use Rattle.std.proofs.Common.{◌≡◌, ℕ, zero, suc, ◌+◌, ◌<◌, ◌⊎◌, inl, inr, false, List, [], ◌∷◌, ◌++◌, length, replicate, Option, None, Some, slice_get, refl, sym, ap, subst, ◌∙◌, arith, length-set}
use Rattle.std.proofs.lemmas.List.{length_push}
use Rattle.std.specs.Option.{IfSome, IfNone}
use Rattle.cha_list.proofs.Longer.{push_cases}
use Rattle.cha_board.specs.Board.{Board, IsValid}
use Rattle.node_store.specs.declared.origin.Origin.{Origin}
use Rattle.node_store.specs.NameLists.{list_at, Has, AreBelow, Falls, put, front_of, rest_of, take_from, first_name, without_first}
use Rattle.node_store.specs.Nodes.{Node, leaves, IsAt, IsNew, IsReached}
use Rattle.node_store.specs.Graphs.{HasOrigin, IsStore}
use Rattle.node_store.proofs.Naming.{at_set, at_set_same, at_empty, has_cases, has_none, has_rest, falls_put, falls_rest, falls_none, below_front, has_front}
use Rattle.node_store.proofs.Pushing.{map_push_cases, map_push_keeps, map_within}

reached_push : (nodes : List Node) (n : Node) (i : ℕ) (q : Board) (origin : Option Origin) → HasOrigin nodes i q origin → HasOrigin (nodes ++ n ∷ []) i q origin
unfolding HasOrigin
reached_push nodes n i q None h = h
reached_push nodes n i q (Some o) h = (h.0, (h.1.0, map_push_keeps (λ (m : Node). m.position) nodes (n ∷ []) o.parent h.1.0 h.1.1, h.1.2))

reached_last : (nodes : List Node) (n : Node) (o : Origin) → o.parent < length nodes → IsReached nodes o.parent o.by n.position → n.origin ≡ Some o → HasOrigin (nodes ++ n ∷ []) (length nodes) n.position n.origin
unfolding HasOrigin
reached_last nodes n o within reached is =
    subst (λ (origin : Option Origin). HasOrigin (nodes ++ n ∷ []) (length nodes) n.position origin) (sym is)
    (within, (reached.0, map_push_keeps (λ (m : Node). m.position) nodes (n ∷ []) o.parent reached.0 reached.1, reached.2))

module _ (nodes : List Node) (waiting : List (List ℕ)) (was : IsStore nodes waiting) where
  -- a node whose position is new
  pub store_push : (n : Node) (o : Origin) → IsNew nodes n.position → IsReached nodes o.parent o.by n.position → n.origin ≡ Some o → IsValid n.position → length nodes < 4294967295 → IsStore (nodes ++ n ∷ []) waiting
  store_push n o new reached is sound few =
      let len : length (nodes ++ n ∷ []) ≡ length nodes + 1 = length_push nodes n in
      let within : o.parent < length nodes = map_within (λ (m : Node). m.position) nodes o.parent reached.0 reached.1 in
      record {
        some = omega arith;
        few = omega arith;
        distinct = λ i j q at_i at_j. elim (map_push_cases (λ (m : Node). m.position) nodes n i q at_i) [
          | inl a ↦ elim (map_push_cases (λ (m : Node). m.position) nodes n j q at_j) [
            | inl b ↦ was.distinct i j q a b
            | inr b ↦ absurd (new i (a ∙ ap Some (sym b.1)))
          ]
          | inr a ↦ elim (map_push_cases (λ (m : Node). m.position) nodes n j q at_j) [
            | inl b ↦ absurd (new j (b ∙ ap Some (sym a.1)))
            | inr b ↦ a.0 ∙ sym b.0
          ]
        ];
        valid = λ i q at. elim (map_push_cases (λ (m : Node). m.position) nodes n i q at) [
          | inl a ↦ was.valid i q a
          | inr a ↦ subst IsValid a.1 sound
        ];
        origins = λ i node at. elim (push_cases nodes n i node at) [
          | inl a ↦ reached_push nodes n i node.position node.origin (was.origins i node a)
          | inr a ↦ subst (λ (k : ℕ). HasOrigin (nodes ++ n ∷ []) k node.position node.origin) (sym a.0)
              (subst (λ (m : Node). HasOrigin (nodes ++ n ∷ []) (length nodes) m.position m.origin) a.1 (reached_last nodes n o within reached is))
        ];
        size = was.size;
        inner = λ b k h. map_push_keeps (λ (m : Node). m.leaf) nodes (n ∷ []) k false (was.inner b k h);
        apart = was.apart;
        falls = was.falls;
      }

  -- waiting names are nodes
  pub waits_within : (b n : ℕ) → Has (list_at waiting b) n → n < length nodes
  waits_within b n h = map_within (λ (m : Node). m.leaf) nodes n false (was.inner b n h)

  module _ (b : ℕ) where
    -- where a name stands once one was put in front of a list
    put_cases : (name k n : ℕ) → Has (list_at (put waiting b name) k) n → ((n ≡ name) × (k ≡ b)) ⊎ Has (list_at waiting k) n
    put_cases name k n h = elim (at_set waiting b (name ∷ list_at waiting b) k) [
      | inl here ↦ elim (has_cases name (list_at waiting b) n (subst (λ (xs : List ℕ). Has xs n) here.1 h)) [
        | inl is ↦ inl (is, here.0)
        | inr later ↦ inr (subst (λ (c : ℕ). Has (list_at waiting c) n) (sym here.0) later)
      ]
      | inr there ↦ inr (subst (λ (xs : List ℕ). Has xs n) there h)
    ]

    -- a node that is no leaf and waits nowhere may wait
    pub store_put : (name : ℕ) → slice_get (leaves nodes) name ≡ Some false → ((k : ℕ) → Has (list_at waiting k) name → ⊥) → AreBelow (list_at waiting b) name → IsStore nodes (put waiting b name)
    store_put name inner free above = record {
      some = was.some;
      few = was.few;
      distinct = was.distinct;
      valid = was.valid;
      origins = was.origins;
      size = length-set waiting b (name ∷ list_at waiting b) ∙ was.size;
      inner = λ k n h. elim (put_cases name k n h) [
        | inl new ↦ subst (λ (m : ℕ). slice_get (leaves nodes) m ≡ Some false) (sym new.0) inner
        | inr old ↦ was.inner k n old
      ];
      apart = λ k c n h g. elim (put_cases name k n h) [
        | inl new ↦ elim (put_cases name c n g) [
          | inl also ↦ new.1 ∙ sym also.1
          | inr old ↦ absurd (free c (subst (Has (list_at waiting c)) new.0 old))
        ]
        | inr old ↦ elim (put_cases name c n g) [
          | inl new ↦ absurd (free k (subst (Has (list_at waiting k)) new.0 old))
          | inr also ↦ was.apart k c n old also
        ]
      ];
      falls = λ k. elim (at_set waiting b (name ∷ list_at waiting b) k) [
        | inl here ↦ subst Falls (sym here.1) (falls_put name (list_at waiting b) above (was.falls b))
        | inr there ↦ subst Falls (sym there) (was.falls k)
      ];
    }

    -- what stands in a list once a front was taken stood there
    took : (k n : ℕ) → Has (list_at (take_from waiting b) k) n → Has (list_at waiting k) n
    took k n h = elim (at_set waiting b (rest_of (list_at waiting b)) k) [
      | inl here ↦ subst (λ (c : ℕ). Has (list_at waiting c) n) (sym here.0) (has_rest (list_at waiting b) n (subst (λ (xs : List ℕ). Has xs n) here.1 h))
      | inr there ↦ subst (λ (xs : List ℕ). Has xs n) there h
    ]

    -- a front may be taken
    pub store_take : IsStore nodes (take_from waiting b)
    store_take = record {
      some = was.some;
      few = was.few;
      distinct = was.distinct;
      valid = was.valid;
      origins = was.origins;
      size = length-set waiting b (rest_of (list_at waiting b)) ∙ was.size;
      inner = λ k n h. was.inner k n (took k n h);
      apart = λ k c n h g. was.apart k c n (took k n h) (took c n g);
      falls = λ k. elim (at_set waiting b (rest_of (list_at waiting b)) k) [
        | inl here ↦ subst Falls (sym here.1) (falls_rest (list_at waiting b) (was.falls b))
        | inr there ↦ subst Falls (sym there) (was.falls k)
      ];
    }

    -- and waits no more
    pub taken_waits_no_more : (name : ℕ) (rest : List ℕ) → b < 64 → list_at waiting b ≡ name ∷ rest → (k : ℕ) → Has (list_at (take_from waiting b) k) name → ⊥
    taken_waits_no_more name rest within is k h =
        let stood : Has (list_at waiting b) name = subst (λ (xs : List ℕ). Has xs name) (sym is) (has_front name rest) in
        let same : k ≡ b = was.apart k b name (took k name h) stood in
        let size = was.size in
        let now : list_at (take_from waiting b) b ≡ rest = at_set_same waiting b (rest_of (list_at waiting b)) (omega arith) ∙ ap rest_of is in
        let again : Has rest name = subst (λ (xs : List ℕ). Has xs name) now (subst (λ (c : ℕ). Has (list_at (take_from waiting b) c) name) same h) in
        let less : name < name = below_front name rest (subst Falls is (was.falls b)) name again in
        omega arith

    pub front_inner : (list : List ℕ) → list_at waiting b ≡ list → IfSome (front_of list) (λ name. slice_get (leaves nodes) name ≡ Some false)
    front_inner [] is = tt
    front_inner (x ∷ xs) is = was.inner b x (subst (λ (ys : List ℕ). Has ys x) (sym is) (has_front x xs))

    pub front_within : (list : List ℕ) → list_at waiting b ≡ list → IfSome (front_of list) (λ name. name < length nodes)
    front_within [] is = tt
    front_within (x ∷ xs) is = waits_within b x (subst (λ (ys : List ℕ). Has ys x) (sym is) (has_front x xs))

    pub front_waited : (list : List ℕ) → b < 64 → list_at waiting b ≡ list → IfSome (front_of list) (λ name. (k : ℕ) → Has (list_at (take_from waiting b) k) name → ⊥)
    front_waited [] within is = tt
    front_waited (x ∷ xs) within is = taken_waits_no_more x xs within is

    -- a name waits in one list alone, so what its list cost is what it cost
    pub front_cost : (before used : ℕ) → used ≡ before + b + 2 → (list : List ℕ) → list_at waiting b ≡ list → IfSome (front_of list) (λ name. (k : ℕ) → Has (list_at waiting k) name → used ≡ before + k + 2)
    front_cost before used cost [] is = tt
    front_cost before used cost (x ∷ xs) is = λ k h.
        let same : k ≡ b = was.apart k b x h (subst (λ (ys : List ℕ). Has ys x) (sym is) (has_front x xs)) in
        omega arith

pub front_is : (list : List ℕ) (P : Type 0) → (list ≡ [] → ⊥) → IfNone (front_of list) P
front_is [] P some = absurd (some refl)
front_is (x ∷ xs) P some = tt

-- the first list that has a name
pub first_used_is : (ls : List (List ℕ)) (b : ℕ) → ((k : ℕ) → k < b → list_at ls k ≡ []) → (list_at ls b ≡ [] → ⊥) → (front_of (list_at ls b) ≡ first_name ls) × (take_from ls b ≡ without_first ls)
first_used_is [] b before some = absurd (some refl)
first_used_is ([] ∷ ls) zero before some = absurd (some refl)
first_used_is ((x ∷ xs) ∷ ls) zero before some = (refl, refl)
first_used_is ([] ∷ ls) (suc b) before some =
    let rest = first_used_is ls b (λ k h. before (suc k) (omega arith)) some in
    (rest.0, ap (λ (l : List (List ℕ)). [] ∷ l) rest.1)
first_used_is ((x ∷ xs) ∷ ls) (suc b) before some = let none = before 0 (omega arith) in cc

pub none_used : (ls : List (List ℕ)) → ((k : ℕ) → list_at ls k ≡ []) → (None ≡ first_name ls) × (ls ≡ without_first ls)
none_used [] none = (refl, refl)
none_used ([] ∷ ls) none =
    let rest = none_used ls (λ k. none (suc k)) in
    (rest.0, ap (λ (l : List (List ℕ)). [] ∷ l) rest.1)
none_used ((x ∷ xs) ∷ ls) none = let first = none 0 in cc

-- a root that waits nowhere yet
alone : (n : Node) (i : ℕ) (q : Board) → IsAt (n ∷ []) i q → (i ≡ 0) × (n.position ≡ q)
alone n i q at = elim (map_push_cases (λ (m : Node). m.position) [] n i q at) [
  | inl none ↦ cc
  | inr last ↦ last
]

root_origin : (n : Node) (i : ℕ) (node : Node) → n.origin ≡ None → slice_get (n ∷ []) i ≡ Some node → HasOrigin (n ∷ []) i node.position node.origin
unfolding HasOrigin
root_origin n i node is at = elim (push_cases [] n i node at) [
  | inl none ↦ cc
  | inr last ↦ subst (HasOrigin (n ∷ []) i node.position) (sym is ∙ ap (λ (m : Node). m.origin) last.1) last.0
]

store_root : (n : Node) → IsValid n.position → n.origin ≡ None → IsStore (n ∷ []) (replicate 64 [])
store_root n sound is = record {
  some = omega arith;
  few = omega arith;
  distinct = λ i j q at_i at_j. (alone n i q at_i).0 ∙ sym (alone n j q at_j).0;
  valid = λ i q at. subst IsValid (alone n i q at).1 sound;
  origins = λ i node at. root_origin n i node is at;
  size = refl;
  inner = λ b k h. absurd (has_none k (subst (λ (xs : List ℕ). Has xs k) (at_empty 64 b) h));
  apart = λ b c k h g. absurd (has_none k (subst (λ (xs : List ℕ). Has xs k) (at_empty 64 b) h));
  falls = λ b. subst Falls (sym (at_empty 64 b)) falls_none;
}

pub nowhere : (n b : ℕ) → Has (list_at (replicate 64 []) b) n → ⊥
nowhere n b h = has_none n (subst (λ (xs : List ℕ). Has xs n) (at_empty 64 b) h)

-- a root that waits
pub store_new : (n : Node) → IsValid n.position → n.origin ≡ None → n.leaf ≡ false → IsStore (n ∷ []) (put (replicate 64 []) 0 0)
store_new n sound is inner = store_put (n ∷ []) (replicate 64 []) (store_root n sound is) 0 0 (ap Some inner) (nowhere 0) (λ k h. absurd (nowhere k 0 h))
