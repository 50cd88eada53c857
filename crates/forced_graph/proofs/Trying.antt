-- How a node is expanded: the positions after its moves become nodes, one after the other.
use Rattle.std.proofs.Common.{◌≡◌, ℕ, ◌+◌, ◌<◌, ◌≤◌, inl, inr, false, List, [], ◌∷◌, ◌++◌, length, get_or, take, Option, Some, slice_get, refl, sym, ap, subst, ◌∙◌, arith}
use Rattle.std.specs.List.{Contains}
use Rattle.std.proofs.lemmas.Option.{same_Some, slice_get_within}
use Rattle.std.proofs.lemmas.List.{length_push, take_more, take_all}
use Rattle.std.proofs.lemmas.List.Elements.{Contains-push, Contains-push_cases}
use Rattle.cha_list.proofs.Longer.{push_cases}
use Rattle.cha_board.specs.declared.men.Color.{Color}
use Rattle.cha_board.specs.Men.{other_color}
use Rattle.cha_board.specs.Board.{Board}
use Rattle.cha_moves.specs.Step.{Move}
use Rattle.cha_moves.specs.Moves.{after, legal}
use Rattle.cha_moves.specs.Ends.{IsMated}
use Rattle.cha_cert.specs.declared.nodes.Part.{Part}
use Rattle.cha_cert.specs.declared.nodes.Part.TheVariants.{Inner}
use Rattle.node_store.specs.declared.origin.Origin.{Origin}
use Rattle.node_store.specs.NameLists.{put}
use Rattle.node_store.specs.Nodes.{Node, positions, IsAt, IsNew}
use Rattle.node_store.proofs.Pushing.{map_push_cases, map_push_keeps, map_within}
use Rattle.forced_graph.specs.declared.region.Region.{Region}
use Rattle.forced_graph.specs.Regions.{Waits, IsSettled, IsLed, AreLed, AreExpanded, IsMap, Between, Expanding, IsExpanding, IsMet, IsSameTask}
use Rattle.forced_graph.proofs.Waiting.{put_waits, put_waits_on, put_waited}
use Rattle.forced_graph.proofs.ByName.{contained_get, get_contained, contained_more}

-- a node that came from one move more
abbrev pub node_by : Board → ℕ → Move → Node
node_by q parent by = record { position = q; origin = Some (record { parent = parent; by = by }); leaf = false }

led_more : (nodes : List Node) (w : Color) (q : Board) (ms : List Move) (m : Move) → AreLed nodes w q ms → IsLed nodes w q m → AreLed nodes w q (ms ++ m ∷ [])
unfolding AreLed
led_more nodes w q ms m were led x there = elim (Contains-push_cases ms m x there) [
  | inl before ↦ were x before
  | inr is ↦ subst (IsLed nodes w q) is led
]

led_among_more : (ns ms : List Node) (w : Color) (q : Board) (moves : List Move) → AreLed ns w q moves → AreLed (ns ++ ms) w q moves
unfolding AreLed
led_among_more ns ms w q moves were m there = record {
  met = contained_more ns ms (after q m) (were m there).met;
  running = (were m there).running;
}

-- a move leads to a node
led_known : (name : ℕ) (tried : List Move) (root : Board) (w : Color) (count : ℕ) (nodes : List Node) (waiting : List (List ℕ)) (parts : List Part) (m : Move) (e : Expanding name tried root w count nodes waiting parts) → Contains (positions nodes) (after e.here m) → (IsMated (after e.here m) (other_color w) → ⊥) → Expanding name (tried ++ m ∷ []) root w count nodes waiting parts
led_known name tried root w count nodes waiting parts m e known running = record {
  members = e.members;
  size = e.size;
  before = e.before;
  here = e.here;
  is_here = e.is_here;
  grown = e.grown;
  map = e.map;
  settled = e.settled;
  expanded = e.expanded;
  led = led_more nodes w e.here tried m e.led (record { met = known; running = running });
}

-- no node is the position that is to become one
new_nowhere : (nodes : List Node) (q r : Board) → IsNew nodes q → q ≡ r → Contains (positions nodes) r → ⊥
new_nowhere nodes q r new is there =
    let at = contained_get (positions nodes) r there in
    new at.0 (at.2 ∙ ap Some (sym is))

-- the nodes, once a position became one
map_more : (root : Board) (w : Color) (nodes : List Node) (waiting : List (List ℕ)) (parts : List Part) (members : List Board) (b : ℕ) (q here : Board) (name : ℕ) (m : Move) → IsMap root w nodes waiting parts members → IsAt nodes name here → Contains members here → IsNew nodes q → (IsMated q (other_color w) → ⊥)
    → IsMap root w (nodes ++ node_by q name m ∷ []) (put waiting b (length nodes)) (parts ++ Inner ∷ []) members
map_more root w nodes waiting parts members b q here name m was is_here member new running =
    let n = node_by q name m in
    let P : Node → Board = λ k. k.position in
    let O : Node → Option Origin = λ k. k.origin in
    let size = was.size in
    record {
      size = (let one = length_push parts Inner in let two = length_push nodes n in omega arith);
      begins = map_push_keeps P nodes (n ∷ []) 0 root was.begins;
      running = λ i r at. elim (map_push_cases P nodes n i r at) [
        | inl before ↦ was.running i r before
        | inr last ↦ subst (λ (c : Board). IsMated c (other_color w) → ⊥) last.1 running
      ];
      placed = λ r there. contained_more nodes (n ∷ []) r (was.placed r there);
      inner = λ i part waits has. elim (push_cases parts Inner i part has) [
        | inl before ↦ elim (put_waited waiting b (length nodes) i waits) [
          | inl is ↦ (let small = slice_get_within parts i part before in absurd (omega arith))
          | inr waited ↦ was.inner i part waited before
        ]
        | inr last ↦ sym last.1
      ];
      fresh = λ i r waits at there. elim (map_push_cases P nodes n i r at) [
        | inl before ↦ elim (put_waited waiting b (length nodes) i waits) [
          | inl is ↦ (let small = map_within P nodes i r before in omega arith)
          | inr waited ↦ was.fresh i r waited before there
        ]
        | inr last ↦ new_nowhere nodes q r new last.1 (was.placed r there)
      ];
      parents = λ i o from. elim (map_push_cases O nodes n i (Some o) from) [
        | inl before ↦ (let p = was.parents i o before in (p.0, map_push_keeps P nodes (n ∷ []) o.parent p.0 p.1, p.2))
        | inr last ↦ (
            let is : record { parent = name; by = m } ≡ o = same_Some (record { parent = name; by = m }) o last.1 in
            (here, subst (λ (k : ℕ). IsAt (nodes ++ n ∷ []) k here) (ap (λ (x : Origin). x.parent) is) (map_push_keeps P nodes (n ∷ []) name here is_here), member))
      ];
    }

settled_more : (w : Color) (nodes : List Node) (waiting : List (List ℕ)) (parts : List Part) (members : List Board) (b : ℕ) (q : Board) (name : ℕ) (m : Move) → ((i : ℕ) (r : Board) (part : Part) → IsAt nodes i r → slice_get parts i ≡ Some part → IsSettled w waiting members i r part) → length parts ≡ length nodes → b < length waiting
    → (i : ℕ) (r : Board) (part : Part) → IsAt (nodes ++ node_by q name m ∷ []) i r → slice_get (parts ++ Inner ∷ []) i ≡ Some part → IsSettled w (put waiting b (length nodes)) members i r part
unfolding IsSettled
settled_more w nodes waiting parts members b q name m were size within i r part at has = elim (map_push_cases (λ (k : Node). k.position) nodes (node_by q name m) i r at) [
  | inl before ↦ elim (push_cases parts Inner i part has) [
    | inl old ↦ elim (were i r part before old) [
      | inl waits ↦ inl (put_waits_on waiting b (length nodes) i waits)
      | inr rest ↦ inr rest
    ]
    | inr last ↦ (let small = map_within (λ (k : Node). k.position) nodes i r before in let is = last.0 in absurd (omega arith))
  ]
  | inr last ↦ inl (subst (Waits (put waiting b (length nodes))) (sym last.0) (put_waits waiting b (length nodes) within))
]

last_at : (nodes : List Node) (n : Node) → IsAt (nodes ++ n ∷ []) (length nodes) n.position
last_at [] n = refl
last_at (k ∷ ks) n = last_at ks n

-- a move leads to a position that becomes a node
led_new : (name : ℕ) (tried : List Move) (root : Board) (w : Color) (count : ℕ) (nodes : List Node) (waiting : List (List ℕ)) (parts : List Part) (m : Move) (b : ℕ) (e : Expanding name tried root w count nodes waiting parts) (q : Board) → q ≡ after e.here m → IsNew nodes q → (IsMated q (other_color w) → ⊥) → b < length waiting
    → Expanding name (tried ++ m ∷ []) root w count (nodes ++ node_by q name m ∷ []) (put waiting b (length nodes)) (parts ++ Inner ∷ [])
unfolding AreExpanded
led_new name tried root w count nodes waiting parts m b e q is new running within =
    let n = node_by q name m in
    let met : Contains (positions (nodes ++ n ∷ [])) (after e.here m) = subst (Contains (positions (nodes ++ n ∷ []))) is (get_contained (positions (nodes ++ n ∷ [])) (length nodes) q (last_at nodes n)) in
    record {
      members = e.members;
      size = e.size;
      before = e.before;
      here = e.here;
      is_here = map_push_keeps (λ (k : Node). k.position) nodes (n ∷ []) name e.here e.is_here;
      grown = e.grown;
      map = map_more root w nodes waiting parts (e.members ++ e.here ∷ []) b q e.here name m e.map e.is_here (Contains-push e.members e.here) new running;
      settled = settled_more w nodes waiting parts (e.members ++ e.here ∷ []) b q name m e.settled e.map.size within;
      expanded = λ r there. led_among_more nodes (n ∷ []) w r (legal r) (e.expanded r there);
      led = led_more (nodes ++ n ∷ []) w e.here tried m (led_among_more nodes (n ∷ []) w e.here tried e.led) (record { met = met; running = subst (λ (c : Board). IsMated c (other_color w) → ⊥) is running });
    }

-- where the node stands whose moves are tried
here_is : (name : ℕ) (tried : List Move) (s : Region) (e : IsExpanding name tried s) (q : Board) → IsAt s.store.nodes name q → q ≡ e.here
here_is name tried s e q at = same_Some q e.here (sym at ∙ e.is_here)

carried : (name : ℕ) (tried done : List Move) (old new : Region) (nodes : List Node) (waiting : List (List ℕ)) (parts : List Part) → IsSameTask old new → tried ≡ done → new.store.nodes ≡ nodes → new.store.waiting ≡ waiting → new.parts.items ≡ parts → Expanding name done old.root old.winner old.count nodes waiting parts → IsExpanding name tried new
carried name tried done old new nodes waiting parts same moves ns ws ps e =
    subst (λ (x : List Move). Expanding name x new.root new.winner new.count new.store.nodes new.store.waiting new.parts.items) (sym moves)
    (subst (λ (x : List Part). Expanding name done new.root new.winner new.count new.store.nodes new.store.waiting x) (sym ps)
    (subst (λ (x : List (List ℕ)). Expanding name done new.root new.winner new.count new.store.nodes x parts) (sym ws)
    (subst (λ (x : List Node). Expanding name done new.root new.winner new.count x waiting parts) (sym ns)
    (subst (λ (x : ℕ). Expanding name done new.root new.winner x nodes waiting parts) (sym same.2)
    (subst (λ (x : Color). Expanding name done new.root x old.count nodes waiting parts) (sym same.1)
    (subst (λ (x : Board). Expanding name done x old.winner old.count nodes waiting parts) (sym same.0) e))))))

-- one more move was tried
pub one_more : (name : ℕ) (old new : Region) (ms : List Move) (i : ℕ) (m : Move) (here q : Board) → IsExpanding name (take i ms) old → IsSameTask old new → IsMet old new name m q → IsAt old.store.nodes name here → q ≡ after here m → (IsMated q (other_color old.winner) → ⊥) → i < length ms → m ≡ get_or ms i m
    → IsExpanding name (take (i + 1) ms) new
unfolding IsMet
one_more name old new ms i m here q e same met at is running inside place =
    let here_e : here ≡ e.here = here_is name (take i ms) old e here at in
    let q_is : q ≡ after e.here m = subst (λ (h : Board). q ≡ after h m) here_e is in
    let tried : take (i + 1) ms ≡ take i ms ++ m ∷ [] = take_more ms i m inside ∙ ap (λ (x : Move). take i ms ++ x ∷ []) (sym place) in
    elim met [
      | inl known ↦ (
          let there : Contains (positions old.store.nodes) (after e.here m) = subst (Contains (positions old.store.nodes)) q_is known.0 in
          let not = subst (λ (c : Board). IsMated c (other_color old.winner) → ⊥) q_is running in
          carried name (take (i + 1) ms) (take i ms ++ m ∷ []) old new old.store.nodes old.store.waiting old.parts.items same tried known.1 known.2 known.3
          (led_known name (take i ms) old.root old.winner old.count old.store.nodes old.store.waiting old.parts.items m e there not))
      | inr added ↦ (
          carried name (take (i + 1) ms) (take i ms ++ m ∷ []) old new (old.store.nodes ++ node_by q name m ∷ []) (put old.store.waiting added.1 (length old.store.nodes)) (old.parts.items ++ Inner ∷ []) same tried added.4 added.3 added.5
          (led_new name (take i ms) old.root old.winner old.count old.store.nodes old.store.waiting old.parts.items m added.1 e q q_is added.0 running added.2))
    ]

-- all moves were tried
pub all_tried : (name : ℕ) (ms : List Move) (i : ℕ) (root : Board) (w : Color) (count now : ℕ) (nodes : List Node) (waiting : List (List ℕ)) (parts : List Part) (here : Board) → Expanding name (take i ms) root w count nodes waiting parts → length ms ≤ i → ms ≡ legal here → IsAt nodes name here → now ≡ count + 1 → Between root w now nodes waiting parts
unfolding AreExpanded
all_tried name ms i root w count now nodes waiting parts here e end listed at one =
    let same : here ≡ e.here = same_Some here e.here (sym at ∙ e.is_here) in
    let all : take i ms ≡ legal e.here = take_all i ms end ∙ listed ∙ ap legal same in
    let led : AreLed nodes w e.here (legal e.here) = subst (AreLed nodes w e.here) all e.led in
    record {
      members = e.members ++ e.here ∷ [];
      size = (let more = length_push e.members e.here in let size = e.size in omega arith);
      grown = e.grown;
      map = e.map;
      settled = e.settled;
      expanded = λ q there. elim (Contains-push_cases e.members e.here q there) [
        | inl before ↦ e.expanded q before
        | inr is ↦ subst (λ (b : Board). AreLed nodes w b (legal b)) is led
      ];
    }

-- the node whose moves are tried stays
pub still_at : (old new : Region) (name : ℕ) (m : Move) (here q : Board) → IsMet old new name m q → IsAt old.store.nodes name here → IsAt new.store.nodes name here
unfolding IsMet
still_at old new name m here q met at = elim met [
  | inl known ↦ subst (λ (ns : List Node). IsAt ns name here) (sym known.1) at
  | inr added ↦ subst (λ (ns : List Node). IsAt ns name here) (sym added.4) (map_push_keeps (λ (k : Node). k.position) old.store.nodes (node_by q name m ∷ []) name here at)
]
