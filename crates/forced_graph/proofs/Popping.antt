-- How a node is taken from those that wait, and becomes a leaf or is to be expanded.
use Rattle.std.proofs.Common.{◌≡◌, ℕ, zero, suc, ◌<◌, inl, inr, List, [], ◌∷◌, ◌++◌, length, Option, None, Some, slice_get, set, replicate, length-set, refl, sym, ap, subst, ◌∙◌, arith}
use Rattle.std.specs.List.{Contains}
use Rattle.std.specs.Option.{IfSome, IfNone}
use Rattle.std.proofs.lemmas.Bool.{cases_eq}
use Rattle.std.proofs.lemmas.Option.{same_Some}
use Rattle.std.proofs.lemmas.List.Elements.{Contains-append_left, Contains-push, Contains-push_cases}
use Rattle.cha_board.specs.declared.men.Color.{Color}
use Rattle.cha_board.specs.Men.{other_color}
use Rattle.cha_board.specs.Board.{Board}
use Rattle.cha_moves.specs.Moves.{after, legal}
use Rattle.cha_moves.specs.Ends.{IsMated}
use Rattle.cha_moves.proofs.Contained.{not_in_nothing, Contains-cons_here}
use Rattle.cha_cert.specs.declared.nodes.Part.{Part}
use Rattle.cha_cert.specs.declared.nodes.Part.TheVariants.{Inner}
use Rattle.node_store.specs.declared.origin.Origin.{Origin}
use Rattle.node_store.specs.NameLists.{list_at, Has, put, first_name, without_first}
use Rattle.node_store.specs.Nodes.{Node, positions, origins, mark, IsAt}
use Rattle.node_store.specs.Graphs.{HasOrigin, IsStore}
use Rattle.node_store.proofs.Marking.{same_positions, same_length, at_marked, at_unmarked}
use Rattle.node_store.proofs.Paths.{at_within}
use Rattle.forced_graph.specs.HowManyWait.{how_many}
use Rattle.forced_graph.specs.Grown.{IsGrown}
use Rattle.cha_cert.specs.AtOnce.{BySets}
use Rattle.cha_cert.specs.Certificates.{IsLeaf}
use Rattle.forced_graph.specs.Regions.{Waits, IsLeafPart, IsUnshown, IsSettled, AreLed, AreExpanded, IsMap, Between, Popped, Expanding}
use Rattle.forced_graph.proofs.Waiting.{none_waits, fewer_wait, first_waits, waits_on, waited, waits_nowhere, put_waits}
use Rattle.forced_graph.proofs.Members.{IsNext, grown_none, grown_more}
use Rattle.forced_graph.proofs.ByName.{get_contained, contained_get, get_set, same_origins}

at_one : (root : Board) (node : Node) (i : ℕ) (q : Board) → node.position ≡ root → IsAt (node ∷ []) i q → (i ≡ 0) × (root ≡ q)
at_one root node zero q is at = (refl, sym is ∙ same_Some node.position q at)
at_one root node (suc i) q is at = cc

only_inner : (i : ℕ) (part : Part) → slice_get (Inner ∷ []) i ≡ Some part → part ≡ Inner
only_inner zero part at = sym (same_Some Inner part at)
only_inner (suc i) part at = cc

no_origin : (node : Node) (i : ℕ) (o : Origin) → node.origin ≡ None → slice_get (origins (node ∷ [])) i ≡ Some (Some o) → ⊥
no_origin node zero o is at = cc
no_origin node (suc i) o is at = cc

-- the root alone, which waits
pub begun : (root : Board) (w : Color) (nodes : List Node) (node : Node) (waiting : List (List ℕ)) (parts : List Part) → nodes ≡ node ∷ [] → node.position ≡ root → node.origin ≡ None → waiting ≡ put (replicate 64 []) 0 0 → parts ≡ Inner ∷ [] → (IsMated root (other_color w) → ⊥) → Between root w 0 nodes waiting parts
unfolding IsSettled AreExpanded
begun root w nodes node waiting parts is at origin waits inner running =
    let one : (i : ℕ) (q : Board) → IsAt nodes i q → (i ≡ 0) × (root ≡ q) = λ i q here. at_one root node i q at (ap (λ (ns : List Node). slice_get (positions ns) i) (sym is) ∙ here) in
    record {
      members = [];
      size = refl;
      grown = grown_none root w;
      map = record {
        size = ap length inner ∙ sym (ap length is);
        begins = ap (λ (ns : List Node). slice_get (positions ns) 0) is ∙ ap Some at;
        running = λ i q here. subst (λ (b : Board). IsMated b (other_color w) → ⊥) (one i q here).1 running;
        placed = λ q there. absurd (not_in_nothing q there);
        inner = λ i part _ here. only_inner i part (ap (λ (ps : List Part). slice_get ps i) (sym inner) ∙ here);
        fresh = λ i q _ here there. not_in_nothing q there;
        parents = λ i o from. absurd (no_origin node i o origin (ap (λ (ns : List Node). slice_get (origins ns) i) (sym is) ∙ from));
      };
      settled = λ i q part here has. inl (subst (λ (ls : List (List ℕ)). Waits ls i) (sym waits) (subst (λ (k : ℕ). Waits (put (replicate 64 []) 0 0) k) (sym (one i q here).0) (put_waits (replicate 64 []) 0 0 (omega arith))));
      expanded = λ q there. absurd (not_in_nothing q there);
    }

-- the node that comes first is taken
pub popped : (name : ℕ) (root : Board) (w : Color) (count : ℕ) (nodes : List Node) (waiting : List (List ℕ)) (parts : List Part) → Between root w count nodes waiting parts → first_name waiting ≡ Some name → name < length nodes
    → ((b : ℕ) → Has (list_at (without_first waiting) b) name → ⊥) → Popped name root w count nodes (without_first waiting) parts
unfolding IsSettled
popped name root w count nodes waiting parts was first within taken =
    let here = at_within nodes name within in
    let front = first_waits waiting name first in
    record {
      members = was.members;
      size = was.size;
      grown = was.grown;
      map = record {
        size = was.map.size;
        begins = was.map.begins;
        running = was.map.running;
        placed = was.map.placed;
        inner = λ i part later. was.map.inner i part (waited waiting i later);
        fresh = λ i q later. was.map.fresh i q (waited waiting i later);
        parents = was.map.parents;
      };
      settled = λ i q part other at has. elim (was.settled i q part at has) [
        | inl waits ↦ elim (waits_on waiting name i first waits) [
          | inl is ↦ absurd (other is)
          | inr later ↦ inl later
        ]
        | inr rest ↦ inr rest
      ];
      expanded = was.expanded;
      within = within;
      part = λ part has. was.map.inner name part front has;
      here = here.0;
      is_here = here.1;
      new = was.map.fresh name here.0 front here.1;
      taken = taken;
    }

pub pop_some : (o : Option ℕ) (root : Board) (w : Color) (count : ℕ) (nodes more : List Node) (waiting left : List (List ℕ)) (parts : List Part) → Between root w count nodes waiting parts → o ≡ first_name waiting → left ≡ without_first waiting → more ≡ nodes → IfSome o (λ name. name < length more) → IfSome o (λ name. (b : ℕ) → Has (list_at left b) name → ⊥)
    → IfSome o (λ name. Popped name root w count more left parts)
pop_some None root w count nodes more waiting left parts was first left_is same within taken = tt
pop_some (Some name) root w count nodes more waiting left parts was first left_is same within taken =
    subst (λ (ns : List Node). Popped name root w count ns left parts) (sym same)
    (subst (λ (ls : List (List ℕ)). Popped name root w count nodes ls parts) (sym left_is)
    (popped name root w count nodes waiting parts was (sym first) (subst (λ (ns : List Node). name < length ns) same within) (λ b h. taken b (subst (λ (ls : List (List ℕ)). Has (list_at ls b) name) (sym left_is) h))))

pub pop_fewer : (o : Option ℕ) (waiting left : List (List ℕ)) → o ≡ first_name waiting → left ≡ without_first waiting → IfSome o (λ name. how_many left < how_many waiting)
pop_fewer None waiting left first left_is = tt
pop_fewer (Some name) waiting left first left_is = subst (λ (ls : List (List ℕ)). how_many ls < how_many waiting) (sym left_is) (fewer_wait waiting name (sym first))

-- other names of the same
pub moved : (root : Board) (w : Color) (count : ℕ) (nodes more : List Node) (waiting left : List (List ℕ)) (parts : List Part) → Between root w count nodes waiting parts → more ≡ nodes → left ≡ waiting → Between root w count more left parts
moved root w count nodes more waiting left parts was same left_is =
    subst (λ (ns : List Node). Between root w count ns left parts) (sym same) (subst (λ (ls : List (List ℕ)). Between root w count nodes ls parts) (sym left_is) was)

none_first : (ls : List (List ℕ)) → first_name ls ≡ None → without_first ls ≡ ls
none_first [] e = refl
none_first ([] ∷ ls) e = ap (λ (l : List (List ℕ)). [] ∷ l) (none_first ls e)
none_first ((x ∷ xs) ∷ ls) e = cc

-- where none comes first all is done
pub pop_none : (o : Option ℕ) (root : Board) (w : Color) (count : ℕ) (nodes more : List Node) (waiting left : List (List ℕ)) (parts : List Part) → Between root w count nodes waiting parts → o ≡ first_name waiting → left ≡ without_first waiting → more ≡ nodes
    → IfNone o (Between root w count more left parts × ((name : ℕ) → Waits left name → ⊥))
pop_none (Some name) root w count nodes more waiting left parts was first left_is same = tt
pop_none None root w count nodes more waiting left parts was first left_is same =
    let unchanged : left ≡ waiting = left_is ∙ none_first waiting (sym first) in
    (moved root w count nodes more waiting left parts was same unchanged, (λ name waits. none_waits waiting (sym first) name (subst (λ (ls : List (List ℕ)). Waits ls name) unchanged waits)))

-- the node that was taken is a leaf
pub marked : (name : ℕ) (root : Board) (w : Color) (count : ℕ) (nodes : List Node) (waiting : List (List ℕ)) (parts : List Part) (part : Part) → Popped name root w count nodes waiting parts → IsLeafPart nodes name w part → Between root w count (mark nodes name) waiting (set parts name part)
unfolding IsSettled AreExpanded AreLed IsLeafPart
marked name root w count nodes waiting parts part was leaf = record {
  members = was.members;
  size = was.size;
  grown = was.grown;
  map = record {
    size = length-set parts name part ∙ was.map.size ∙ sym (same_length nodes name);
    begins = at_unmarked nodes name 0 root was.map.begins;
    running = λ i q at. was.map.running i q (at_marked nodes name i q at);
    placed = λ q there. subst (λ (ps : List Board). Contains ps q) (sym (same_positions nodes name)) (was.map.placed q there);
    inner = λ i p waits has. elim (get_set parts name part i p has) [
      | inl here ↦ absurd (waits_nowhere waiting name was.taken (subst (Waits waiting) here.0 waits))
      | inr there ↦ was.map.inner i p waits there.1
    ];
    fresh = λ i q waits at. was.map.fresh i q waits (at_marked nodes name i q at);
    parents = λ i o from. (
        let before = was.map.parents i o (sym (ap (λ (os : List (Option Origin)). slice_get os i) (same_origins nodes name)) ∙ from) in
        (before.0, at_unmarked nodes name o.parent before.0 before.1, before.2));
  };
  settled = λ i q p at has. elim (get_set parts name part i p has) [
    | inl here ↦ inr (inr (subst (IsLeaf w q) here.1 (leaf q (subst (λ (k : ℕ). IsAt nodes k q) here.0 (at_marked nodes name i q at)))))
    | inr there ↦ was.settled i q p there.0 (at_marked nodes name i q at) there.1
  ];
  expanded = λ q there m fits. record {
    met = subst (λ (ps : List Board). Contains ps (after q m)) (sym (same_positions nodes name)) (was.expanded q there m fits).met;
    running = (was.expanded q there m fits).running;
  };
}

-- the origin of a node
origin_of : (nodes : List Node) (name : ℕ) → name < length nodes → (node : Node) × (slice_get nodes name ≡ Some node) × (slice_get (origins nodes) name ≡ Some node.origin) × IsAt nodes name node.position
origin_of [] name within = absurd (omega (arith, within))
origin_of (n ∷ ns) zero within = (n, refl, refl, refl)
origin_of (n ∷ ns) (suc name) within = origin_of ns name (omega arith)

none_before : (root : Board) (members : List Board) → ((q : Board) → slice_get members 0 ≡ Some q → q ≡ root) → (Contains members root → ⊥) → length members ≡ 0
none_before root [] first new = refl
none_before root (x ∷ xs) first new = absurd (new (Contains-cons_here x xs root (first x refl)))

some_before : (members : List Board) (p : Board) → Contains members p → 0 < length members
some_before members p there = (let small = there.1 in omega arith)

-- the position of a node that was taken may be expanded next
next_here : (root : Board) (w : Color) (nodes : List Node) (waiting : List (List ℕ)) (parts : List Part) (members : List Board) (name : ℕ) (here : Board) (origin : Option Origin)
    → IsMap root w nodes waiting parts members → IsGrown root w members → IsAt nodes name here → (Contains members here → ⊥) → HasOrigin nodes name here origin → slice_get (origins nodes) name ≡ Some origin → IsUnshown nodes name w → IsNext root w members here
unfolding HasOrigin IsUnshown
next_here root w nodes waiting parts members name here None m grown at new has from unshown =
    let is : here ≡ root = same_Some here root (sym at ∙ ap (slice_get (positions nodes)) has ∙ m.begins) in
    inl (none_before root members grown.first (subst (λ (b : Board). Contains members b → ⊥) is new), is)
next_here root w nodes waiting parts members name here (Some o) m grown at new has from unshown =
    let parent = m.parents name o from in
    let place = contained_get members parent.0 parent.2 in
    let reached = has.1 in
    let same : reached.0 ≡ parent.0 = same_Some reached.0 parent.0 (sym reached.1 ∙ parent.1) in
    inr (
      some_before members parent.0 parent.2,
      record {
        comes = record {
          number = place.0;
          earlier = place.1;
          origin = parent.0;
          is_origin = place.2;
          by = o.by;
          is_legal = subst (λ (b : Board). Contains (legal b) o.by) same reached.2.0;
          leads = subst (λ (b : Board). after b o.by ≡ here) same reached.2.1;
          unshown = λ zeroing shown. unshown o parent.0 here from parent.1 at zeroing (BySets shown);
        };
        unshown = unshown o parent.0 here from parent.1 at;
      },
    )

-- the node that was taken is to be expanded
pub opened : (name : ℕ) (root : Board) (w : Color) (count : ℕ) (nodes : List Node) (waiting : List (List ℕ)) (parts : List Part) → IsStore nodes waiting → Popped name root w count nodes waiting parts → IsUnshown nodes name w → Expanding name [] root w count nodes waiting parts
unfolding IsSettled AreLed
opened name root w count nodes waiting parts store was unshown =
    let node = origin_of nodes name was.within in
    let same : node.0.position ≡ was.here = same_Some node.0.position was.here (sym node.3 ∙ was.is_here) in
    let has : HasOrigin nodes name was.here node.0.origin = subst (λ (b : Board). HasOrigin nodes name b node.0.origin) same (store.origins name node.0 node.1) in
    let next = next_here root w nodes waiting parts was.members name was.here node.0.origin was.map was.grown was.is_here was.new has node.2 unshown in
    record {
      members = was.members;
      size = was.size;
      before = was.grown;
      here = was.here;
      is_here = was.is_here;
      grown = grown_more root w was.members was.here was.grown next was.new (was.map.running name was.here was.is_here);
      map = record {
        size = was.map.size;
        begins = was.map.begins;
        running = was.map.running;
        placed = λ q there. elim (Contains-push_cases was.members was.here q there) [
          | inl before ↦ was.map.placed q before
          | inr is ↦ subst (Contains (positions nodes)) is (get_contained (positions nodes) name was.here was.is_here)
        ];
        inner = was.map.inner;
        fresh = λ i q waits at there. elim (Contains-push_cases was.members was.here q there) [
          | inl before ↦ was.map.fresh i q waits at before
          | inr is ↦ (
              let one : i ≡ name = store.distinct i name q at (was.is_here ∙ ap Some is) in
              waits_nowhere waiting name was.taken (subst (Waits waiting) one waits))
        ];
        parents = λ i o from. (let before = was.map.parents i o from in (before.0, before.1, Contains-append_left was.members (was.here ∷ []) before.0 before.2));
      };
      settled = λ i q part at has. elim (cases_eq i name) [
        | inl one ↦ (
            let q_is : was.here ≡ q = same_Some was.here q (sym was.is_here ∙ subst (λ (k : ℕ). IsAt nodes k q) one at) in
            inr (inl (subst (Contains (was.members ++ was.here ∷ [])) q_is (Contains-push was.members was.here), was.part part (subst (λ (k : ℕ). slice_get parts k ≡ Some part) one has))))
        | inr other ↦ elim (was.settled i q part other at has) [
          | inl waits ↦ inl waits
          | inr rest ↦ elim rest [
            | inl member ↦ inr (inl (Contains-append_left was.members (was.here ∷ []) q member.0, member.1))
            | inr leaf ↦ inr (inr leaf)
          ]
        ]
      ];
      expanded = was.expanded;
      led = λ m there. absurd (not_in_nothing m there);
    }
