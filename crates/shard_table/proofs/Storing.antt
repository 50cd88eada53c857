-- What a store does to the rows of a shard.
use Rattle.std.proofs.Common.{◌≡◌, ℕ, zero, suc, ◌-◌, ◌<◌, ◌≤◌, Bool, true, false, not, cond, List, [], ◌∷◌, map, take, length, Option, Some, None, slice_get, refl, sym, ap, ◌∙◌, subst, arith}
use Rattle.std.proofs.lemmas.List.{take_all}
use Rattle.std.specs.Map.{lookup}
use Rattle.std.specs.Option.{option_map_or}
use Rattle.lru.specs.LruCache.{LruCache, put_entries, displaced}
use Rattle.cha_fact.specs.declared.key.Key.{Key}
use Rattle.cha_fact.specs.declared.calls.Stored.TheVariants.{Added, Evicted, Better, Kept}
use Rattle.cha_fact.specs.Truths.{Claim, rank_of}
use Rattle.shard_table.specs.ShardRows.{row_key, AreKeyed, rows_of}
use Rattle.shard_table.specs.Shards.{same_key, find_row, without, Stores}
use Rattle.shard_table.proofs.Keying.{key_exact, key_itself}
use Rattle.shard_table.proofs.Rowing.{length_rows, lookup_row, entry_of, put_there, put_new, displaced_new, not_full, key_at}

none_parts : (b : Bool) (x : Claim) (o : Option Claim) → cond b (Some x) o ≡ None → (b ≡ false) × (o ≡ None)
none_parts true x o none = cc
none_parts false x o none = (refl, none)

-- an entry of a list without a key has another key
not_under : (t : Key → Bool) (es : List (Key × Claim)) (n : ℕ) (e : Key × Claim) → lookup t es ≡ None → slice_get es n ≡ Some e → t e.0 ≡ false
not_under t [] n e none there = cc
not_under t (f ∷ es) zero e none there =
    let same : f ≡ e = cc in
    ap (λ g. t g.0) (sym same) ∙ (none_parts (t f.0) f.1 (lookup t es) none).0
not_under t (f ∷ es) (suc n) e none there = not_under t es n e (none_parts (t f.0) f.1 (lookup t es) none).1 there

pub is_false : (b : Bool) → not b ≡ true → b ≡ false
is_false true e = cc
is_false false e = refl

pub is_true : (b : Bool) → not b ≡ false → b ≡ true
is_true true e = refl
is_true false e = cc

-- What a push gives back tells whether the key was there.
module _ (eq : Key → Key → Bool) (agrees : (a b : Key) → eq a b ≡ same_key a b) (c : LruCache Key Claim) (row : Claim) (k : Key) where
  abbrev told : Option Claim → Option (Key × Claim)
  told o = option_map_or (λ before. Some (k, before)) o (slice_get c.entries (c.cap - 1))

  nothing_told : (o : Option Claim) → told o ≡ None → o ≡ None
  nothing_told None e = refl
  nothing_told (Some before) e = cc

  pub nothing_goes : displaced eq c k row ≡ None → lookup (eq k) c.entries ≡ None
  nothing_goes e = nothing_told (lookup (eq k) c.entries) e

  module _ (gone : Key × Claim) where
    one_key : gone.0 ≡ k → eq gone.0 k ≡ true
    one_key same = agrees gone.0 k ∙ ap (λ key. same_key key k) same ∙ key_itself k

    another_told : (o : Option Claim) → told o ≡ Some gone → eq gone.0 k ≡ false → o ≡ None
    another_told None e apart = refl
    another_told (Some before) e apart =
        let same : gone.0 ≡ k = cc in
        let one = one_key same in
        cc

    pub another_goes : displaced eq c k row ≡ Some gone → eq gone.0 k ≡ false → lookup (eq k) c.entries ≡ None
    another_goes e apart = another_told (lookup (eq k) c.entries) e apart

    own_told : (o : Option Claim) → lookup (eq k) c.entries ≡ o → told o ≡ Some gone → gone.0 ≡ k → o ≡ Some gone.1
    own_told None none e same =
        let other = not_under (eq k) c.entries (c.cap - 1) gone none e in
        let one : eq k gone.0 ≡ true = agrees k gone.0 ∙ ap (same_key k) same ∙ key_itself k in
        cc
    own_told (Some before) found e same = cc

    pub own_goes : displaced eq c k row ≡ Some gone → eq gone.0 k ≡ true → lookup (eq k) c.entries ≡ Some gone.1
    own_goes e one = own_told (lookup (eq k) c.entries) refl e (key_exact gone.0 k (sym (agrees gone.0 k) ∙ one))

    pub is_one_key : eq gone.0 k ≡ true → gone.0 ≡ k
    is_one_key one = key_exact gone.0 k (sym (agrees gone.0 k) ∙ one)

module _ (eq : Key → Key → Bool) (agrees : (a b : Key) → eq a b ≡ same_key a b) (c : LruCache Key Claim) (keyed : AreKeyed c.entries) (row : Claim) (k : Key) (is : k ≡ row_key row) (old : List Claim) (shown : rows_of c.entries ≡ old) where
  finds : (o : Option Claim) → lookup (eq k) c.entries ≡ o → find_row (row_key row) old ≡ o
  finds o found = (λ i. find_row (sym is i) (sym shown i)) ∙ sym (lookup_row (eq k) k (agrees k) c.entries keyed) ∙ found

  elsewhere : without k (rows_of c.entries) ≡ without (row_key row) old
  elsewhere = λ i. without (is i) (shown i)

  -- a row is put under its key, and then the one that was there is put back
  module _ (before : Claim) (between : LruCache Key Claim) (found : lookup (eq k) c.entries ≡ Some before) (put : between.entries ≡ put_entries eq c k row) where
    rows_between : rows_of between.entries ≡ row ∷ without k (rows_of c.entries)
    rows_between = ap rows_of put ∙ (put_there eq k (agrees k) c row (sym is) keyed before found).0

    keyed_between : AreKeyed between.entries
    keyed_between = subst AreKeyed (sym put) (put_there eq k (agrees k) c row (sym is) keyed before found).1

    own_row : same_key k (row_key row) ≡ true
    own_row = ap (same_key k) (sym is) ∙ key_itself k

    pub found_between : lookup (eq k) between.entries ≡ Some row
    found_between =
        lookup_row (eq k) k (agrees k) between.entries keyed_between ∙ ap (find_row k) rows_between
        ∙ ap (λ b. cond b (Some row) (find_row k (without k (rows_of c.entries)))) own_row

    pub kept_there : (entries : ℕ) (new : LruCache Key Claim) → rank_of row.fact ≤ rank_of before.fact
        → new.entries ≡ put_entries eq between k before → Stores entries row old Kept (rows_of new.entries) × AreKeyed new.entries
    kept_there entries new less moved =
        let own = (entry_of (eq k) k (agrees k) c.entries before keyed found).1 in
        let rows = put_there eq k (agrees k) between before own keyed_between row found_between in
        let rest : without k (rows_of between.entries) ≡ without k (rows_of c.entries) =
        ap (without k) rows_between ∙ ap (λ b. cond b (without k (rows_of c.entries)) (row ∷ without k (without k (rows_of c.entries)))) own_row in
        ((before, finds (Some before) found, less, ap rows_of moved ∙ rows.0 ∙ ap (λ rows. before ∷ rows) (rest ∙ elsewhere)), subst AreKeyed (sym moved) rows.1)

  pub better_there : (entries : ℕ) (before : Claim) (new : LruCache Key Claim) → lookup (eq k) c.entries ≡ Some before → rank_of before.fact < rank_of row.fact
      → new.entries ≡ put_entries eq c k row → Stores entries row old Better (rows_of new.entries) × AreKeyed new.entries
  better_there entries before new found more moved =
      let rows = put_there eq k (agrees k) c row (sym is) keyed before found in
      ((before, finds (Some before) found, more, ap rows_of moved ∙ rows.0 ∙ ap (λ rest. row ∷ rest) elsewhere), subst AreKeyed (sym moved) rows.1)

  module _ (few : length c.entries ≤ c.cap) (some : 0 < c.cap) (entries : ℕ) (cap : c.cap ≡ entries) (new : LruCache Key Claim) (moved : new.entries ≡ put_entries eq c k row) (none : lookup (eq k) c.entries ≡ None) where
    count : length old ≡ length c.entries
    count = ap length (sym shown) ∙ length_rows c.entries

    put_rows : rows_of new.entries ≡ row ∷ take (entries - 1) old
    put_rows =
        ap rows_of moved ∙ (put_new eq k (agrees k) c row (sym is) keyed none).0
        ∙ (λ i. row ∷ take (cap i - 1) (shown i))

    pub new_keyed : AreKeyed new.entries
    new_keyed = subst AreKeyed (sym moved) (put_new eq k (agrees k) c row (sym is) keyed none).1

    pub added_there : displaced eq c k row ≡ None → Stores entries row old Added (rows_of new.entries)
    added_there nothing =
        let room : length c.entries ≤ c.cap - 1 = not_full c.entries (c.cap - 1) (sym (displaced_new eq k (agrees k) c row (sym is) keyed none) ∙ nothing) in
        let long = count in
        (finds None none, omega (arith, room, long, cap, some), put_rows ∙ ap (λ rows. row ∷ rows) (take_all (entries - 1) old (omega (arith, room, long, cap))))

    pub evicted_there : (gone : Key × Claim) → displaced eq c k row ≡ Some gone → Stores entries row old (Evicted gone.0) (rows_of new.entries)
    evicted_there gone last =
        let place = key_at c.entries (c.cap - 1) gone keyed (sym (displaced_new eq k (agrees k) c row (sym is) keyed none) ∙ last) in
        let inside = place.0 in
        let long = count in
        (finds None none, omega (arith, inside, long, cap, some, few), (λ i. slice_get (map row_key (sym shown i)) (sym cap i - 1)) ∙ place.1, put_rows)
