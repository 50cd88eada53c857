-- The rows of a shard, as the entries of a map by their keys.
use Rattle.std.proofs.Common.{◌≡◌, ℕ, zero, suc, ◌-◌, ◌<◌, ◌≤◌, Bool, true, false, cond, List, [], ◌∷◌, map, take, length, Some, None, slice_get, refl, sym, ap, ◌∙◌, subst, arith}
use Rattle.std.specs.Map.{lookup, lookup_entry, remove_entry}
use Rattle.std.specs.Option.{option_map_or}
use Rattle.lru.specs.LruCache.{LruCache, promoted, put_entries, displaced}
use Rattle.cha_fact.specs.declared.key.Key.{Key}
use Rattle.cha_fact.specs.Truths.{Claim}
use Rattle.shard_table.specs.ShardRows.{row_key, AreKeyed, rows_of}
use Rattle.shard_table.specs.Shards.{same_key, find_row, without}
use Rattle.shard_table.proofs.Keying.{key_exact}

abbrev keyed_head : (e : Key × Claim) (es : List (Key × Claim)) → AreKeyed (e ∷ es) → row_key e.1 ≡ e.0
unfolding AreKeyed
keyed_head e es keyed = keyed.0

abbrev keyed_tail : (e : Key × Claim) (es : List (Key × Claim)) → AreKeyed (e ∷ es) → AreKeyed es
unfolding AreKeyed
keyed_tail e es keyed = keyed.1

pub keyed_none : AreKeyed []
unfolding AreKeyed
keyed_none = tt

pub keyed_cons : (e : Key × Claim) (es : List (Key × Claim)) → row_key e.1 ≡ e.0 → AreKeyed es → AreKeyed (e ∷ es)
unfolding AreKeyed
keyed_cons e es here rest = (here, rest)

keyed_cond : (b : Bool) (x y : List (Key × Claim)) → AreKeyed x → AreKeyed y → AreKeyed (cond b x y)
keyed_cond true x y first second = first
keyed_cond false x y first second = second

rows_cond : (b : Bool) (x y : List (Key × Claim)) → rows_of (cond b x y) ≡ cond b (rows_of x) (rows_of y)
rows_cond true x y = refl
rows_cond false x y = refl

pub keyed_take : (n : ℕ) (es : List (Key × Claim)) → AreKeyed es → AreKeyed (take n es)
unfolding AreKeyed
keyed_take zero es keyed = tt
keyed_take (suc n) [] keyed = tt
keyed_take (suc n) (e ∷ es) keyed = (keyed.0, keyed_take n es keyed.1)

rows_take : (n : ℕ) (es : List (Key × Claim)) → rows_of (take n es) ≡ take n (rows_of es)
rows_take zero es = refl
rows_take (suc n) [] = refl
rows_take (suc n) (e ∷ es) = ap (λ rows. e.1 ∷ rows) (rows_take n es)

pub length_rows : (es : List (Key × Claim)) → length (rows_of es) ≡ length es
length_rows [] = refl
length_rows (e ∷ es) = let rest = length_rows es in omega (arith, rest)

-- the test of keys, at one of them
module _ (t : Key → Bool) (k : Key) (agrees : (b : Key) → t b ≡ same_key k b) where
  test_of : (e : Key × Claim) → row_key e.1 ≡ e.0 → t e.0 ≡ same_key k (row_key e.1)
  test_of e here = agrees e.0 ∙ ap (same_key k) (sym here)

  pub lookup_row : (es : List (Key × Claim)) → AreKeyed es → lookup t es ≡ find_row k (rows_of es)
  lookup_row [] keyed = refl
  lookup_row (e ∷ es) keyed =
      let test = test_of e (keyed_head e es keyed) in
      let rest = lookup_row es (keyed_tail e es keyed) in
      λ i. cond (test i) (Some e.1) (rest i)

  pub remove_row : (es : List (Key × Claim)) → AreKeyed es → rows_of (remove_entry t es) ≡ without k (rows_of es)
  remove_row [] keyed = refl
  remove_row (e ∷ es) keyed =
      let test = test_of e (keyed_head e es keyed) in
      let rest = remove_row es (keyed_tail e es keyed) in
      rows_cond (t e.0) es (e ∷ remove_entry t es) ∙ (λ i. cond (test i) (rows_of es) (e.1 ∷ rest i))

  pub keyed_remove : (es : List (Key × Claim)) → AreKeyed es → AreKeyed (remove_entry t es)
  keyed_remove [] keyed = keyed
  keyed_remove (e ∷ es) keyed =
      let rest = keyed_tail e es keyed in
      keyed_cond (t e.0) es (e ∷ remove_entry t es) rest (keyed_cons e (remove_entry t es) (keyed_head e es keyed) (keyed_remove es rest))

  entry_step : (e : Key × Claim) (es : List (Key × Claim)) (row : Claim) (b : Bool) → row_key e.1 ≡ e.0 → t e.0 ≡ b → cond b (Some e.1) (lookup t es) ≡ Some row
      → (lookup t es ≡ Some row → (lookup_entry t es ≡ Some (k, row)) × (row_key row ≡ k))
      → (cond b (Some e) (lookup_entry t es) ≡ Some (k, row)) × (row_key row ≡ k)
  entry_step e es row true here test found rest =
      let same : e.1 ≡ row = cc in
      let key : k ≡ e.0 = key_exact k e.0 (sym (agrees e.0) ∙ test) in
      ((λ i. Some (sym key i, same i)), ap row_key (sym same) ∙ here ∙ sym key)
  entry_step e es row false here test found rest = rest found

  -- a row that is found lies under its own key, which is the one that was asked for
  pub entry_of : (es : List (Key × Claim)) (row : Claim) → AreKeyed es → lookup t es ≡ Some row → (lookup_entry t es ≡ Some (k, row)) × (row_key row ≡ k)
  entry_of [] row keyed found = cc
  entry_of (e ∷ es) row keyed found =
      entry_step e es row (t e.0) (keyed_head e es keyed) refl found (λ later. entry_of es row (keyed_tail e es keyed) later)

  none_step : (e : Key × Claim) (es : List (Key × Claim)) (b : Bool) → cond b (Some e.1) (lookup t es) ≡ None
      → (lookup t es ≡ None → lookup_entry t es ≡ None) → cond b (Some e) (lookup_entry t es) ≡ None
  none_step e es true none rest = cc
  none_step e es false none rest = rest none

  pub no_entry : (es : List (Key × Claim)) → lookup t es ≡ None → lookup_entry t es ≡ None
  no_entry [] none = refl
  no_entry (e ∷ es) none = none_step e es (t e.0) none (no_entry es)

  -- the row that was found goes to the front
  pub promoted_rows : (es : List (Key × Claim)) (row : Claim) → AreKeyed es → lookup t es ≡ Some row
      → (rows_of (promoted t es) ≡ row ∷ without k (rows_of es)) × AreKeyed (promoted t es)
  promoted_rows es row keyed found =
      let entry = entry_of es row keyed found in
      let front = ap (λ o. option_map_or (λ e. e ∷ remove_entry t es) o es) entry.0 in (
        ap rows_of front ∙ ap (λ rows. row ∷ rows) (remove_row es keyed),
        subst AreKeyed (sym front) (keyed_cons (k, row) (remove_entry t es) entry.1 (keyed_remove es keyed)),
      )

-- a cache's entries and its size
module _ (eq : Key → Key → Bool) (k : Key) (agrees : (b : Key) → eq k b ≡ same_key k b) (c : LruCache Key Claim) (v : Claim) (own : row_key v ≡ k) (keyed : AreKeyed c.entries) where
  -- a new value under a key that is there
  pub put_there : (row : Claim) → lookup (eq k) c.entries ≡ Some row
      → (rows_of (put_entries eq c k v) ≡ v ∷ without k (rows_of c.entries)) × AreKeyed (put_entries eq c k v)
  put_there row found =
      let entry = entry_of (eq k) k agrees c.entries row keyed found in
      let front = ap (λ o. option_map_or (λ e. (e.0, v) ∷ remove_entry (eq k) c.entries) o ((k, v) ∷ take (c.cap - 1) c.entries)) entry.0 in (
        ap rows_of front ∙ ap (λ rows. v ∷ rows) (remove_row (eq k) k agrees c.entries keyed),
        subst AreKeyed (sym front) (keyed_cons (k, v) (remove_entry (eq k) c.entries) own (keyed_remove (eq k) k agrees c.entries keyed)),
      )

  -- a new value under a key that is not there
  pub put_new : lookup (eq k) c.entries ≡ None
      → (rows_of (put_entries eq c k v) ≡ v ∷ take (c.cap - 1) (rows_of c.entries)) × AreKeyed (put_entries eq c k v)
  put_new none =
      let front = ap (λ o. option_map_or (λ e. (e.0, v) ∷ remove_entry (eq k) c.entries) o ((k, v) ∷ take (c.cap - 1) c.entries)) (no_entry (eq k) k agrees c.entries none) in (
        ap rows_of front ∙ ap (λ rows. v ∷ rows) (rows_take (c.cap - 1) c.entries),
        subst AreKeyed (sym front) (keyed_cons (k, v) (take (c.cap - 1) c.entries) own (keyed_take (c.cap - 1) c.entries keyed)),
      )

  -- what goes for a new key
  pub displaced_new : lookup (eq k) c.entries ≡ None → displaced eq c k v ≡ slice_get c.entries (c.cap - 1)
  displaced_new none = ap (λ o. option_map_or (λ old. Some (k, old)) o (slice_get c.entries (c.cap - 1))) none

-- no entry stands behind the last
pub not_full : (es : List (Key × Claim)) (n : ℕ) → slice_get es n ≡ None → length es ≤ n
not_full [] n none = omega arith
not_full (e ∷ es) zero none = cc
not_full (e ∷ es) (suc n) none = let rest = not_full es n none in omega (arith, rest)

-- an entry that stands at a place is followed by no more than the rest, and its row has its key
pub key_at : (es : List (Key × Claim)) (n : ℕ) (e : Key × Claim) → AreKeyed es → slice_get es n ≡ Some e
    → (n < length es) × (slice_get (map row_key (rows_of es)) n ≡ Some e.0)
key_at [] n e keyed there = cc
key_at (f ∷ es) zero e keyed there =
    let same : f ≡ e = cc in
    (omega arith, ap Some (keyed_head f es keyed ∙ ap (λ g. g.0) same))
key_at (f ∷ es) (suc n) e keyed there =
    let rest = key_at es n e (keyed_tail f es keyed) there in
    let less = rest.0 in
    (omega (arith, less), rest.1)
