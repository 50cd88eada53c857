-- Lists by links, as names are added, put in front and taken away.
use Rattle.std.proofs.Common.{◌≡◌, ◌≢◌, ℕ, zero, suc, ◌+◌, ◌-◌, ◌<◌, ◌≤◌, inl, inr, List, [], ◌∷◌, ◌++◌, length, replicate, refl, sym, ap, subst, ◌∙◌, arith, Some, None, length-set, set, get_or, get_or-set_same, get_or-set_other}
use Rattle.std.proofs.lemmas.List.{length_push, get_or_append_left, map-set, set-get_or, get_or_read}
use Rattle.node_store.specs.declared.chains.Head.{Head}
use Rattle.node_store.specs.NameLists.{list_at, Has, AreBelow, put, front_of, rest_of, take_from}
use Rattle.node_store.specs.Chained.{AreChained}
use Rattle.node_store.specs.Links.{chain, list_of, lists_of}
use Rattle.node_store.proofs.Naming.{has_front, has_rest, few_fall, falls_put, falls_rest, below_put, chained_set, chained_more, chained_none}

-- one more link changes no list of names that have one
chain_grows : (links : List ℕ) (y c x : ℕ) → ((n : ℕ) → Has (chain links c x) n → n < length links) → chain (links ++ y ∷ []) c x ≡ chain links c x
unfolding chain Has
chain_grows links y zero x below = refl
chain_grows links y (suc c) x below =
    let within : x < length links = below x (inl refl) in
    let next : get_or (links ++ y ∷ []) x 0 ≡ get_or links x 0 = get_or_append_left links (y ∷ []) 0 x within in
    ap (λ (n : ℕ). x ∷ chain (links ++ y ∷ []) c n) next ∙ ap (λ (xs : List ℕ). x ∷ xs) (chain_grows links y c (get_or links x 0) (λ n h. below n (inr h)))

-- and the link of a name that is in no list changes none
chain_keeps : (links : List ℕ) (m v c x : ℕ) → (Has (chain links c x) m → ⊥) → chain (set links m v) c x ≡ chain links c x
unfolding chain Has
chain_keeps links m v zero x free = refl
chain_keeps links m v (suc c) x free =
    let other : x ≢ m = λ e. free (inl (sym e)) in
    let next : get_or (set links m v) x 0 ≡ get_or links x 0 = get_or-set_other links m x v 0 other in
    ap (λ (n : ℕ). x ∷ chain (set links m v) c n) next ∙ ap (λ (xs : List ℕ). x ∷ xs) (chain_keeps links m v c (get_or links x 0) (λ h. free (inr h)))

pub lists_grow : (heads : List Head) (links : List ℕ) (y : ℕ) → ((b n : ℕ) → Has (list_at (lists_of heads links) b) n → n < length links) → lists_of heads (links ++ y ∷ []) ≡ lists_of heads links
lists_grow [] links y below = refl
lists_grow (h ∷ hs) links y below =
    let first = chain_grows links y h.count h.front (below 0) in
    let rest = lists_grow hs links y (λ b n has. below (suc b) n has) in
    cc

pub lists_keep : (heads : List Head) (links : List ℕ) (m v : ℕ) → ((b : ℕ) → Has (list_at (lists_of heads links) b) m → ⊥) → lists_of heads (set links m v) ≡ lists_of heads links
lists_keep [] links m v free = refl
lists_keep (h ∷ hs) links m v free =
    let first = chain_keeps links m v h.count h.front (free 0) in
    let rest = lists_keep hs links m v (λ b has. free (suc b) has) in
    cc

-- an empty head
abbrev pub no_head : Head
no_head = record { front = 0; count = 0 }

pub chain_none : (links : List ℕ) (x : ℕ) → chain links 0 x ≡ []
unfolding chain
chain_none links x = refl

-- a chain with a name has a front and a rest
chain_step : (links : List ℕ) (c x : ℕ) → (c ≡ 0 → ⊥) → chain links c x ≡ x ∷ chain links (c - 1) (get_or links x 0)
unfolding chain
chain_step links zero x some = absurd (some refl)
chain_step links (suc c) x some =
    let one : suc c - 1 ≡ c = omega arith in
    ap (λ (n : ℕ). x ∷ chain links n (get_or links x 0)) (sym one)

-- and as many names as are counted
length-chain : (links : List ℕ) (c x : ℕ) → length (chain links c x) ≡ c
unfolding chain
length-chain links zero x = refl
length-chain links (suc c) x = let rest : length (chain links c (get_or links x 0)) ≡ c = length-chain links c (get_or links x 0) in omega arith

-- the lists of empty heads
lists_none : (n : ℕ) (links : List ℕ) → lists_of (replicate n no_head) links ≡ replicate n []
unfolding chain
lists_none zero links = refl
lists_none (suc n) links = ap (λ (ls : List (List ℕ)). [] ∷ ls) (lists_none n links)

pub lists_new : (links : List ℕ) → lists_of (replicate 64 no_head) links ≡ replicate 64 []
lists_new links = lists_none 64 links

pub chained_new : (links : List ℕ) → links ≡ [] → AreChained (lists_of (replicate 64 no_head) links) (length links)
chained_new links none =
    let size : length links ≡ 0 = ap length none in
    subst (λ (ls : List (List ℕ)). AreChained ls (length links)) (sym (lists_new links)) (subst (AreChained (replicate 64 [])) (sym size) chained_none)

-- the list of a head
at_head_of : (links : List ℕ) (hs : List Head) (k : ℕ) → list_at (lists_of hs links) k ≡ list_of links (get_or hs k no_head)
at_head_of links [] k = sym (chain_none links 0)
at_head_of links (x ∷ xs) zero = refl
at_head_of links (x ∷ xs) (suc k) = at_head_of links xs k

counted : (links : List ℕ) (m c x : ℕ) → m ≡ suc c → chain links m x ≡ x ∷ chain links c (get_or links x 0)
unfolding chain
counted links m c x is = ap (λ (n : ℕ). chain links n x) is

module _ (heads : List Head) (links : List ℕ) where
  pub at_head : (b : ℕ) → list_at (lists_of heads links) b ≡ list_of links (get_or heads b no_head)
  at_head b = at_head_of links heads b

  module _ (b : ℕ) where
    abbrev here : Head
    here = get_or heads b no_head

    pub list_none : here.count ≡ 0 → list_at (lists_of heads links) b ≡ []
    list_none none = at_head b ∙ ap (λ (c : ℕ). chain links c here.front) none ∙ chain_none links here.front

    pub list_some : (here.count ≡ 0 → ⊥) → list_at (lists_of heads links) b ≡ here.front ∷ chain links (here.count - 1) (get_or links here.front 0)
    list_some some = at_head b ∙ chain_step links here.count here.front some

    pub front_none : here.count ≡ 0 → None ≡ front_of (list_at (lists_of heads links) b)
    front_none none = sym (ap front_of (list_none none))

    pub front_some : (here.count ≡ 0 → ⊥) → Some here.front ≡ front_of (list_at (lists_of heads links) b)
    front_some some = sym (ap front_of (list_some some))

    pub take_none : here.count ≡ 0 → lists_of heads links ≡ take_from (lists_of heads links) b
    take_none none =
        let empty = list_none none in
        let rest : rest_of (list_at (lists_of heads links) b) ≡ list_at (lists_of heads links) b = ap rest_of empty ∙ sym empty in
        sym (ap (set (lists_of heads links) b) rest ∙ set-get_or (lists_of heads links) b [])

    module _ (was : AreChained (lists_of heads links) (length links)) where
      -- fewer names are counted than there are
      pub room : (name : ℕ) → AreBelow (list_at (lists_of heads links) b) name → here.count ≤ name
      room name above =
          let few : length (list_at (lists_of heads links) b) ≤ name = few_fall (list_at (lists_of heads links) b) name (was.falls b) above in
          let same : length (list_at (lists_of heads links) b) ≡ here.count = ap length (at_head b) ∙ length-chain links here.count here.front in
          omega arith

      pub front_within : (here.count ≡ 0 → ⊥) → here.front < length links
      front_within some = was.below b here.front (subst (λ (xs : List ℕ). Has xs here.front) (sym (list_some some)) (has_front here.front (chain links (here.count - 1) (get_or links here.front 0))))

      -- a name linked in front of the list
      pub lists_put : (name : ℕ) → b < 64 → name < length links → ((k : ℕ) → Has (list_at (lists_of heads links) k) name → ⊥)
          → lists_of (set heads b (record { front = name; count = here.count + 1 })) (set links name here.front) ≡ put (lists_of heads links) b name
      lists_put name within slot free =
          let kept : lists_of heads (set links name here.front) ≡ lists_of heads links = lists_keep heads links name here.front free in
          let more : here.count + 1 ≡ suc here.count = omega arith in
          let link : get_or (set links name here.front) name 0 ≡ here.front = get_or-set_same links name here.front 0 slot in
          let rest : chain (set links name here.front) here.count (get_or (set links name here.front) name 0) ≡ list_at (lists_of heads links) b =
          ap (chain (set links name here.front) here.count) link ∙ sym (at_head_of (set links name here.front) heads b) ∙ ap (λ (ls : List (List ℕ)). list_at ls b) kept in
          let whole : list_of (set links name here.front) (record { front = name; count = here.count + 1 }) ≡ name ∷ list_at (lists_of heads links) b =
          counted (set links name here.front) (here.count + 1) here.count name more ∙ ap (λ (xs : List ℕ). name ∷ xs) rest in
          map-set (list_of (set links name here.front)) heads b (record { front = name; count = here.count + 1 }) ∙ (λ i. set (kept i) b (whole i))

      pub chained_put : (name : ℕ) → b < 64 → name < length links → ((k : ℕ) → Has (list_at (lists_of heads links) k) name → ⊥) → AreBelow (list_at (lists_of heads links) b) name
          → AreChained (lists_of (set heads b (record { front = name; count = here.count + 1 })) (set links name here.front)) (length (set links name here.front))
      chained_put name within slot free above =
          subst (λ (ls : List (List ℕ)). AreChained ls (length (set links name here.front))) (sym (lists_put name within slot free))
          (subst (AreChained (put (lists_of heads links) b name)) (sym (length-set links name here.front))
          (chained_set (lists_of heads links) (length links) b (name ∷ list_at (lists_of heads links) b) was
          (below_put name (list_at (lists_of heads links) b) (length links) slot (was.below b)) (falls_put name (list_at (lists_of heads links) b) above (was.falls b))))

      -- and the front of the list taken away
      pub lists_take : (next : ℕ) → (here.count ≡ 0 → ⊥) → next ≡ get_or links here.front next
          → lists_of (set heads b (record { front = next; count = here.count - 1 })) links ≡ take_from (lists_of heads links) b
      lists_take next some read =
          let is : next ≡ get_or links here.front 0 = get_or_read links here.front next (front_within some) read 0 in
          let rest : rest_of (list_at (lists_of heads links) b) ≡ chain links (here.count - 1) (get_or links here.front 0) = ap rest_of (list_some some) in
          let whole : list_of links (record { front = next; count = here.count - 1 }) ≡ rest_of (list_at (lists_of heads links) b) = ap (chain links (here.count - 1)) is ∙ sym rest in
          map-set (list_of links) heads b (record { front = next; count = here.count - 1 }) ∙ ap (set (lists_of heads links) b) whole

      pub chained_take : (next : ℕ) → (here.count ≡ 0 → ⊥) → next ≡ get_or links here.front next
          → AreChained (lists_of (set heads b (record { front = next; count = here.count - 1 })) links) (length links)
      chained_take next some read =
          subst (λ (ls : List (List ℕ)). AreChained ls (length links)) (sym (lists_take next some read))
          (chained_set (lists_of heads links) (length links) b (rest_of (list_at (lists_of heads links) b)) was
          (λ n h. was.below b n (has_rest (list_at (lists_of heads links) b) n h)) (falls_rest (list_at (lists_of heads links) b) (was.falls b)))

-- one more name
pub lists_slot : (heads : List Head) (links more : List ℕ) (y : ℕ) → AreChained (lists_of heads links) (length links) → more ≡ links ++ y ∷ [] → lists_of heads more ≡ lists_of heads links
lists_slot heads links more y was is = ap (lists_of heads) is ∙ lists_grow heads links y was.below

pub chained_slot : (heads : List Head) (links more : List ℕ) (y : ℕ) → AreChained (lists_of heads links) (length links) → more ≡ links ++ y ∷ [] → length links < 4294967295 → AreChained (lists_of heads more) (length more)
chained_slot heads links more y was is few =
    let len : length more ≡ length links + 1 = ap length is ∙ length_push links y in
    subst (λ (ls : List (List ℕ)). AreChained ls (length more)) (sym (lists_slot heads links more y was is))
    (chained_more (lists_of heads links) (length links) (length more) was (omega arith) (omega arith))
