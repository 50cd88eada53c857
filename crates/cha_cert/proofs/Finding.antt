-- What an index shows, and how it is searched.
use Rattle.std.proofs.Common.{◌≡◌, ℕ, suc, ◌+◌, ◌<◌, ◌≤◌, false, List, [], ◌∷◌, ◌++◌, map, take, length, get_or, Ordering, Less, Equal, Greater, refl, sym, ap, ◌∙◌, ◌↔◌, subst, arith, inl, inr}
use Rattle.std.specs.List.{Contains}
use Rattle.std.specs.List.Sorted.{IsPermutation, IsSorted}
use Rattle.std.specs.Ordering.{nat_cmp, is_lt, ordering_index, ordering_then, ordering_reverse}
use Rattle.std.specs.Cmp.Lexicographic.{slice_cmp}
use Rattle.std.proofs.lemmas.Bool.{cases_lt}
use Rattle.std.proofs.lemmas.Cmp.{nat_list_cmp_total, tied_itself}
use Rattle.std.proofs.lemmas.List.{get_or-map, length-map, length-take, take_more, map-append}
use Rattle.std.proofs.lemmas.List.Sorted.{searchable_from_sorted, Contains-permutation, IsPermutation-sym, IsPermutation-map, length_permutation}
use Rattle.std.proofs.lemmas.Map.Lookups.{exact_bytes}
use Rattle.std.proofs.lemmas.Simd.{map-map}
use Rattle.cha_board.specs.Board.{Board, IsValid}
use Rattle.cha_board.specs.Packing.{words_of}
use Rattle.cha_board.specs.declared.packed.Packed.{Packed}
use Rattle.cha_board.proofs.PackedWords.{words_tell}
use Rattle.cha_cert.specs.declared.indexing.IndexEntry.{IndexEntry}
use Rattle.cha_cert.specs.declared.nodes.Node.{Node}
use Rattle.cha_cert.specs.declared.nodes.Part.TheVariants.{Inner}
use Rattle.cha_cert.specs.Certificates.{AllValid, positions_of}
use Rattle.cha_cert.specs.Indexed.{packed_of, places_from, words_in, IsIndexOf, AreSorted}

-- packed positions are their words
packed_same : (a b : Packed) → a.words ≡ b.words → a ≡ b
packed_same a b e = λ i. record { words = e i }

-- the words of a key against those of a place
abbrev pub against : Packed → IndexEntry → Ordering
against key place = slice_cmp nat_cmp key.words place.packed.words

-- places in order of their words and then of their numbers are in order of their words
first_less : (o p : Ordering) → is_lt (ordering_then o p) ≡ false → is_lt o ≡ false
first_less Less p e = e
first_less Equal p e = refl
first_less Greater p e = refl

pub words_sorted : (places : List IndexEntry)
    → IsSorted (λ (a b : IndexEntry). ordering_then (slice_cmp nat_cmp a.packed.words b.packed.words) (nat_cmp a.number b.number)) places → AreSorted places
words_sorted places sorted k d low high =
    let a = get_or places (k + 1) d in
    let b = get_or places k d in
    first_less (slice_cmp nat_cmp a.packed.words b.packed.words) (nat_cmp a.number b.number) (sorted k d low high)

-- the key against places that rise
least : (o : Ordering) → ordering_index o ≤ 0 → o ≡ Less
least Less few = refl
least Equal few = absurd (omega (arith, few))
least Greater few = absurd (omega (arith, few))

greatest : (o : Ordering) → 2 ≤ ordering_index o → o ≡ Greater
greatest Less many = absurd (omega (arith, many))
greatest Equal many = absurd (omega (arith, many))
greatest Greater many = refl

-- Places whose words rise, and a key:
module _ (places : List IndexEntry) (key : Packed) (sorted : AreSorted places) where
  turned : (p : IndexEntry) → slice_cmp nat_cmp p.packed.words key.words ≡ ordering_reverse (against key p)
  turned p = (nat_list_cmp_total).antisymm p.packed.words key.words

  turned_back : (p : IndexEntry) → against key p ≡ ordering_reverse (slice_cmp nat_cmp p.packed.words key.words)
  turned_back p = (nat_list_cmp_total).antisymm key.words p.packed.words

  rising : (i j : ℕ) (d : IndexEntry) → i ≤ j → j < length places
      → ordering_index (slice_cmp nat_cmp (get_or places i d).packed.words key.words) ≤ ordering_index (slice_cmp nat_cmp (get_or places j d).packed.words key.words)
  rising = searchable_from_sorted nat_list_cmp_total (λ (p : IndexEntry). p.packed.words) places key.words sorted

  -- where the key lies behind a place, it lies behind those before it
  pub behind : (k : ℕ) → k < length places → ((d : IndexEntry) → Greater ≡ against key (get_or places k d)) → (j : ℕ) (d : IndexEntry) → j < k + 1 → against key (get_or places j d) ≡ Greater
  behind k inside here j d less =
      let low = turned (get_or places k d) ∙ ap ordering_reverse (sym (here d)) in
      let up = subst (λ o. ordering_index (slice_cmp nat_cmp (get_or places j d).packed.words key.words) ≤ ordering_index o) low (rising j k d (omega (arith, less)) inside) in
      turned_back (get_or places j d) ∙ ap ordering_reverse (least (slice_cmp nat_cmp (get_or places j d).packed.words key.words) up)

  -- where it lies before one, it lies before those behind it
  pub ahead : (k : ℕ) → k < length places → ((d : IndexEntry) → Less ≡ against key (get_or places k d)) → (j : ℕ) (d : IndexEntry) → k ≤ j → j < length places → against key (get_or places j d) ≡ Less
  ahead k inside here j d more there =
      let high = turned (get_or places k d) ∙ ap ordering_reverse (sym (here d)) in
      let up = subst (λ o. ordering_index o ≤ ordering_index (slice_cmp nat_cmp (get_or places j d).packed.words key.words)) high (rising k j d more there) in
      turned_back (get_or places j d) ∙ ap ordering_reverse (greatest (slice_cmp nat_cmp (get_or places j d).packed.words key.words) up)

-- a search that ends at a place has found the key
pub found_there : (places : List IndexEntry) (key : Packed) (k : ℕ) → k < length places → ((d : IndexEntry) → Equal ≡ against key (get_or places k d)) → Contains (words_in places) key
found_there places key k inside here =
    let d : IndexEntry = record { packed = key; number = 0 } in
    let same = packed_same (get_or places k d).packed key (sym (exact_bytes key.words (get_or places k d).packed.words (sym (here d)))) in
    (k, omega (arith, inside, length-map places (λ (p : IndexEntry). p.packed)), get_or-map (λ (p : IndexEntry). p.packed) places k d key inside ∙ same)

unlike : (o : Ordering) → o ≡ Equal → o ≡ Greater → ⊥
unlike o e f = cc

unlike_less : (o : Ordering) → o ≡ Equal → o ≡ Less → ⊥
unlike_less o e f = cc

-- a search that is left without places has not missed it
pub found_nowhere : (places : List IndexEntry) (key : Packed) (low high : ℕ) → high ≤ low → ((j : ℕ) (d : IndexEntry) → j < low → against key (get_or places j d) ≡ Greater)
    → ((j : ℕ) (d : IndexEntry) → high ≤ j → j < length places → against key (get_or places j d) ≡ Less) → Contains (words_in places) key → ⊥
found_nowhere places key low high ended before after there =
    let d : IndexEntry = record { packed = key; number = 0 } in
    let j = there.0 in
    let inside : j < length places = (let t = there.1 in omega (arith, t, length-map places (λ (p : IndexEntry). p.packed))) in
    let same : (get_or places j d).packed ≡ key = sym (get_or-map (λ (p : IndexEntry). p.packed) places j d key inside) ∙ there.2 in
    let tie : against key (get_or places j d) ≡ Equal = ap (λ (p : Packed). slice_cmp nat_cmp key.words p.words) same ∙ tied_itself nat_list_cmp_total key.words in
    elim (cases_lt j low) [
      | inl early ↦ unlike (against key (get_or places j d)) tie (before j d early)
      | inr late ↦ unlike_less (against key (get_or places j d)) tie (after j d (omega (arith, late, ended)) inside)
    ]

-- the places of positions
places_append : (n : ℕ) (ps qs : List Board) → places_from n (ps ++ qs) ≡ places_from n ps ++ places_from (n + length ps) qs
unfolding places_from
places_append n [] qs = (let none : n ≡ n + 0 = omega arith in ap (λ k. places_from k qs) none)
places_append n (p ∷ ps) qs =
    let one : n + 1 + length ps ≡ n + suc (length ps) = omega arith in
    ap (λ rest. (record { packed = packed_of p; number = n }) ∷ rest) (places_append (n + 1) ps qs ∙ ap (λ k. places_from (n + 1) ps ++ places_from k qs) one)

length-places : (n : ℕ) (qs : List Board) → length (places_from n qs) ≡ length qs
unfolding places_from
length-places n [] = refl
length-places n (q ∷ qs) = ap suc (length-places (n + 1) qs)

words_in_places : (n : ℕ) (qs : List Board) → words_in (places_from n qs) ≡ map packed_of qs
unfolding places_from
words_in_places n [] = refl
words_in_places n (q ∷ qs) = ap (λ ps. packed_of q ∷ ps) (words_in_places (n + 1) qs)

pub index_length : (nodes : List Node) (places : List IndexEntry) → IsIndexOf nodes places → length places ≡ length nodes
index_length nodes places is =
    length_permutation (places_from 0 (positions_of nodes)) places is.same ∙ length-places 0 (positions_of nodes) ∙ length-map nodes (λ node. node.position)

-- the position of the node of number k
position_at : (nodes : List Node) (k : ℕ) (d : Board) (e : Node) → k < length nodes → get_or (positions_of nodes) k d ≡ (get_or nodes k e).position
position_at nodes k d e inside = get_or-map (λ node. node.position) nodes k e d inside

packed_at : (nodes : List Node) (k : ℕ) (d : Packed) (e : Node) → k < length nodes → get_or (map (λ node. packed_of node.position) nodes) k d ≡ packed_of (get_or nodes k e).position
packed_at nodes k d e inside = get_or-map (λ node. packed_of node.position) nodes k e d inside

-- some node with a position
abbrev node_of : Board → Node
node_of q = record { position = q; part = Inner }

packed_shows : (nodes : List Node) → AllValid nodes → (q : Board) → IsValid q → Contains (map (λ (node : Node). packed_of node.position) nodes) (packed_of q) ↔ Contains (positions_of nodes) q
packed_shows nodes valid q good = (
  (λ there.
      let inside : there.0 < length nodes = omega (arith, length-map nodes (λ node. packed_of node.position)) in
      let words = ap (λ p. p.words) (sym (packed_at nodes (there.0) (packed_of q) (node_of q) inside) ∙ there.2) in
      let one = words_tell (get_or nodes (there.0) (node_of q)).position q (valid (there.0) (node_of q) inside) good words in
      (there.0, omega (arith, length-map nodes (λ node. node.position)), position_at nodes (there.0) q (node_of q) inside ∙ one)),
  (λ there.
      let inside : there.0 < length nodes = omega (arith, length-map nodes (λ node. node.position)) in
      let one = sym (position_at nodes (there.0) q (node_of q) inside) ∙ there.2 in
      (there.0, omega (arith, length-map nodes (λ node. packed_of node.position)), packed_at nodes (there.0) (packed_of q) (node_of q) inside ∙ ap packed_of one)),
)

-- a position is that of some node exactly where its words are in the list
abbrev pub Shows : List Node → List IndexEntry → Type 0
Shows nodes places =
    (q : Board) → IsValid q → Contains (words_in places) (packed_of q) ↔ Contains (positions_of nodes) q

-- an index shows the positions of its nodes
pub index_shows : (nodes : List Node) (places : List IndexEntry) → IsIndexOf nodes places → Shows nodes places
index_shows nodes places is q good =
    let first = places_from 0 (positions_of nodes) in
    let same : words_in first ≡ map (λ node. packed_of node.position) nodes = words_in_places 0 (positions_of nodes) ∙ map-map packed_of (λ (node : Node). node.position) nodes in
    let moved : IsPermutation (words_in first) (words_in places) = IsPermutation-map (λ (p : IndexEntry). p.packed) first places is.same in
    let shows = packed_shows nodes is.valid q good in (
      (λ there. shows.0 (subst (λ (ps : List Packed). Contains ps (packed_of q)) same (Contains-permutation (words_in places) (words_in first) (packed_of q) (IsPermutation-sym (words_in first) (words_in places) moved) there))),
      (λ there. Contains-permutation (words_in first) (words_in places) (packed_of q) moved (subst (λ (ps : List Packed). Contains ps (packed_of q)) (sym same) (shows.1 there))),
    )

-- sorted places are an index
pub index_made : (nodes : List Node) (first sorted : List IndexEntry) → first ≡ places_from 0 (positions_of nodes) → IsPermutation first sorted → AllValid nodes → IsIndexOf nodes sorted
index_made nodes first sorted is moved valid = record { same = subst (λ (ps : List IndexEntry). IsPermutation ps sorted) is moved; valid = valid }

-- and not too many
pub few_places : (qs : List Board) (n : ℕ) (first sorted : List IndexEntry) → first ≡ places_from 0 qs → IsPermutation first sorted → length qs < n → length sorted < n
few_places qs n first sorted is moved few =
    let long : length sorted ≡ length qs = length_permutation first sorted moved ∙ ap length is ∙ length-places 0 qs in
    omega (arith, long, few)

pub no_place : (n : ℕ) → [] ≡ places_from n []
unfolding places_from
no_place n = refl

-- one more node has its place, whatever kind of node it is
pub place_more : {X : Type 0} (position : X → Board) (nodes : List X) (k m : ℕ) (places more : List IndexEntry) (p : Packed) (d : X) → k < length nodes
    → places ≡ places_from 0 (map position (take k nodes)) → p.words ≡ words_of (position (get_or nodes k d)) → m ≡ k
    → more ≡ places ++ (record { packed = p; number = m }) ∷ [] → more ≡ places_from 0 (map position (take (k + 1) nodes))
unfolding places_from
place_more position nodes k m places more p d inside so_far words number pushed =
    let q = position (get_or nodes k d) in
    let one = packed_same p (packed_of q) words in
    let done = map position (take k nodes) in
    let long : m ≡ 0 + length done = (let few = length-take k nodes in omega (arith, number, length-map (take k nodes) position, few, inside)) in
    pushed ∙ (λ i. so_far i ++ (record { packed = one i; number = long i }) ∷ [])
    ∙ sym (places_append 0 done (q ∷ []))
    ∙ ap (places_from 0) (sym (map-append position (take k nodes) (get_or nodes k d ∷ [])) ∙ ap (map position) (sym (take_more nodes k d inside)))

-- one more node's position is valid
pub valid_more : {X : Type 0} (position : X → Board) (nodes : List X) (k : ℕ) (item : X) → ((j : ℕ) (d : X) → j < k → IsValid (position (get_or nodes j d)))
    → ((d : X) → IsValid (position (get_or nodes k d))) → (j : ℕ) (d : X) → j < k + 1 → IsValid (position (get_or nodes j d))
valid_more position nodes k item before here j d less =
    elim (cases_lt j k) [
      | inl low ↦ before j d low
      | inr high ↦ (let same : k ≡ j = omega arith in subst (λ i. IsValid (position (get_or nodes i d))) same (here d))
    ]
