-- A row that was stored stays until it is evicted.
use Rattle.std.proofs.Common.{◌≡◌, ◌∙◌, refl, sym, ap, subst, cond, ℕ, ◌-◌, ◌+◌, zero, suc, List, [], ◌∷◌, ◌++◌, map, take, length, Bool, true, false, Some, None, slice_get, ◌≤◌, ◌⊎◌, inl, inr, ⊎_elim, arith}
use Rattle.std.proofs.lemmas.Option.{same_Some}
use Rattle.turn_cell.specs.declared.object.Entry.{Entry}
use Rattle.turn_cell.specs.Histories.{IsLegalHistory, entry}
use Rattle.cha_fact.specs.declared.key.Key.{Key}
use Rattle.cha_fact.specs.declared.calls.Probe.{Probe}
use Rattle.cha_fact.specs.declared.calls.Probe.TheVariants.{Found, Miss, Refused}
use Rattle.cha_fact.specs.declared.calls.Stored.{Stored}
use Rattle.cha_fact.specs.declared.calls.Stored.TheVariants.{Added, Evicted, Better, Kept, Dropped}
use Rattle.cha_fact.specs.declared.calls.FactCall.{FactCall}
use Rattle.cha_fact.specs.declared.calls.FactCall.TheVariants.{Probe as Asked, Store}
use Rattle.cha_fact.specs.declared.calls.FactReply.{FactReply}
use Rattle.cha_fact.specs.declared.calls.FactReply.TheVariants.{Probed, Stored as StoredAs}
use Rattle.cha_fact.specs.Truths.{Claim, rank_of}
use Rattle.shard_table.proofs.Keying.{key_exact, key_itself}
use Rattle.shard_table.proofs.Lasting.{found_key}
use Rattle.shard_table.specs.Live.{History, IsLive, IsKeptBy, FindsAtLeast}
use Rattle.shard_table.specs.ShardRows.{Rows, row_key}
use Rattle.shard_table.specs.Shards.{same_key, find_row, without, Probes, Stores, ShardStep}

-- the key has a row that says at least so much
abbrev pub Has : Key → ℕ → List Claim → Type 0
Has key n rows = (row : Claim) × (find_row key rows ≡ Some row) × (n ≤ rank_of row.fact)

-- a row in front is found, where it is of the key
front_is : (key : Key) (r : Claim) (rows : List Claim) → same_key key (row_key r) ≡ true → find_row key (r ∷ rows) ≡ Some r
front_is key r rows e = rw e refl

front_not : (key : Key) (r : Claim) (rows : List Claim) → same_key key (row_key r) ≡ false → find_row key (r ∷ rows) ≡ find_row key rows
front_not key r rows e = rw e refl

-- what stands without another key's row is found as before
without_step : (key other : Key) (r : Claim) (rows : List Claim) (b c : Bool) → same_key other (row_key r) ≡ b → same_key key (row_key r) ≡ c → (key ≡ other → ⊥) → find_row key (without other rows) ≡ find_row key rows
    → find_row key (cond b rows (r ∷ without other rows)) ≡ cond c (Some r) (find_row key rows)
without_step key other r rows true true is is' apart on = absurd (apart (key_exact key (row_key r) is' ∙ sym (key_exact other (row_key r) is)))
without_step key other r rows true false is is' apart on = refl
without_step key other r rows false true is is' apart on = front_is key r (without other rows) is'
without_step key other r rows false false is is' apart on = front_not key r (without other rows) is' ∙ on

without_else : (key other : Key) (rows : List Claim) → (key ≡ other → ⊥) → find_row key (without other rows) ≡ find_row key rows
without_else key other [] apart = refl
without_else key other (r ∷ rows) apart = without_step key other r rows (same_key other (row_key r)) (same_key key (row_key r)) refl refl apart (without_else key other rows apart)

-- all rows but the last, which is of another key
take_step : (key : Key) (r row : Claim) (rows rest : List Claim) (b : Bool) → same_key key (row_key r) ≡ b → cond b (Some r) (find_row key rows) ≡ Some row → (find_row key rows ≡ Some row → find_row key rest ≡ Some row) → cond b (Some r) (find_row key rest) ≡ Some row
take_step key r row rows rest true is f on = f
take_step key r row rows rest false is f on = on f

take_else : (key : Key) (rows : List Claim) (row : Claim) (last : Key) (n : ℕ) → find_row key rows ≡ Some row → length rows ≡ n + 1 → slice_get (map row_key rows) n ≡ Some last → (last ≡ key → ⊥) → find_row key (take n rows) ≡ Some row
take_else key [] row last n f l at apart = cc
take_else key (r ∷ []) row last zero f l at apart = absurd (apart (let same : row_key r ≡ last = cc in sym same ∙ only (same_key key (row_key r)) refl f))
  where
    only : (b : Bool) → same_key key (row_key r) ≡ b → cond b (Some r) None ≡ Some row → row_key r ≡ key
    only true is g = sym (key_exact key (row_key r) is)
    only false is g = cc
take_else key (r ∷ s ∷ rows) row last zero f l at apart = absurd (omega (arith, l))
take_else key (r ∷ rows) row last (suc n) f l at apart = take_step key r row rows (take n rows) (same_key key (row_key r)) refl f (λ g. take_else key rows row last n g (omega (arith, l)) at apart)

-- a row that is found is of the key
same_self : (key : Key) (rows : List Claim) (row : Claim) → find_row key rows ≡ Some row → same_key key (row_key row) ≡ true
same_self key rows row f = subst (λ k. same_key key k ≡ true) (sym (found_key key rows row f)) (key_itself key)

none_found : (key : Key) (rows : List Claim) (row : Claim) → find_row key rows ≡ None → find_row key rows ≡ Some row → ⊥
none_found key rows row n s = let e : None ≡ Some row = sym n ∙ s in cc

pub one_found : (key : Key) (rows : List Claim) (a b : Claim) → find_row key rows ≡ Some a → find_row key rows ≡ Some b → a ≡ b
one_found key rows a b f g = let e : Some a ≡ Some b = sym f ∙ g in cc

-- a row put in front of the rest
front_keeps : (key other : Key) (n : ℕ) (first row : Claim) (rest : List Claim) (b : Bool) → same_key key (row_key first) ≡ b → row_key first ≡ other → n ≤ rank_of row.fact
    → (key ≡ other → n ≤ rank_of first.fact) → ((key ≡ other → ⊥) → find_row key rest ≡ Some row) → Has key n (first ∷ rest)
front_keeps key other n first row rest true is of le here else = (first, front_is key first rest is, here (key_exact key (row_key first) is ∙ of))
front_keeps key other n first row rest false is of le here else =
    (row, front_not key first rest is ∙ else (λ e. let same : same_key key (row_key first) ≡ true = ap (same_key key) (of ∙ sym e) ∙ key_itself key in cc), le)

module _ (key : Key) (n : ℕ) where
  kept_by_store : (entries : ℕ) (row : Claim) (old new : List Claim) (reply : Stored) → Stores entries row old reply new → Has key n old → (StoredAs reply ≡ StoredAs (Evicted key) → ⊥) → Has key n new
  kept_by_store entries row old new Added s h stays = subst (Has key n) (sym s.2)
      (front_keeps key (row_key row) n row h.0 old (same_key key (row_key row)) refl refl h.2 (λ e. absurd (none_found key old h.0 (subst (λ k. find_row k old ≡ None) (sym e) s.0) h.1)) (λ apart. h.1))
  kept_by_store entries row old new (Evicted last) s h stays = subst (Has key n) (sym s.3)
      (front_keeps key (row_key row) n row h.0 (take (entries - 1) old) (same_key key (row_key row)) refl refl h.2
      (λ e. absurd (none_found key old h.0 (subst (λ k. find_row k old ≡ None) (sym e) s.0) h.1))
      (λ apart. take_else key old h.0 last (entries - 1) h.1 (some_long (entries - 1) entries old h.0 h.1 s.1 refl) s.2 (λ e. stays (ap (λ k. StoredAs (Evicted k)) e))))
    where
      some_long : (m entries : ℕ) (old : List Claim) (row : Claim) → find_row key old ≡ Some row → length old ≡ entries → m ≡ entries - 1 → length old ≡ m + 1
      some_long m entries [] row f l e = cc
      some_long m entries (r ∷ rs) row f l e = omega (arith, l, e)
  kept_by_store entries row old new Better s h stays = subst (Has key n) (sym s.3)
      (front_keeps key (row_key row) n row h.0 (without (row_key row) old) (same_key key (row_key row)) refl refl h.2
      (λ e. let same = one_found (row_key row) old s.0 h.0 s.1 (subst (λ k. find_row k old ≡ Some h.0) e h.1) in
      let r = ap (λ (c : Claim). rank_of c.fact) same in let le = h.2 in let lt = s.2 in omega (arith, r, le, lt))
      (λ apart. without_else key (row_key row) old apart ∙ h.1))
  kept_by_store entries row old new Kept s h stays = subst (Has key n) (sym s.3)
      (front_keeps key (row_key row) n s.0 h.0 (without (row_key row) old) (same_key key (row_key s.0)) refl (found_key (row_key row) old s.0 s.1) h.2
      (λ e. let same = one_found (row_key row) old s.0 h.0 s.1 (subst (λ k. find_row k old ≡ Some h.0) e h.1) in
      let r = ap (λ (c : Claim). rank_of c.fact) same in let le = h.2 in omega (arith, r, le))
      (λ apart. without_else key (row_key row) old apart ∙ h.1))
  kept_by_store entries row old new Dropped s h stays = absurd s

  kept_by_probe : (asked : Key) (old new : List Claim) (reply : Probe) → Probes asked old reply new → Has key n old → Has key n new
  kept_by_probe asked old new (Found row) p h = subst (Has key n) (sym p.1)
      (front_keeps key asked n row h.0 (without asked old) (same_key key (row_key row)) refl (found_key asked old row p.0) h.2
      (λ e. let same = one_found asked old row h.0 p.0 (subst (λ k. find_row k old ≡ Some h.0) e h.1) in
      let r = ap (λ (c : Claim). rank_of c.fact) same in let le = h.2 in omega (arith, r, le))
      (λ apart. without_else key asked old apart ∙ h.1))
  kept_by_probe asked old new Miss p h = subst (Has key n) (sym p.1) h
  kept_by_probe asked old new Refused p h = subst (Has key n) (sym p.1) h

  kept_by_step : (old new : Rows) (call : FactCall) (reply : FactReply) → ShardStep old call reply new → Has key n old.rows → (reply ≡ StoredAs (Evicted key) → ⊥) → Has key n new.rows
  kept_by_step old new (Asked asked) (Probed reply) s h stays = kept_by_probe asked old.rows new.rows reply s.0 h
  kept_by_step old new (Store row) (StoredAs reply) s h stays = kept_by_store old.entries row old.rows new.rows reply s.0 h stays
  kept_by_step old new (Asked asked) (StoredAs reply) s h stays = absurd s
  kept_by_step old new (Store row) (Probed reply) s h stays = absurd s

  kept_by_all : (history : History) (v u : Rows) → IsLegalHistory ShardStep v history u → Has key n v.rows → ((j : ℕ) (d : Entry FactCall FactReply) → slice_get history j ≡ Some d → d.reply ≡ StoredAs (Evicted key) → ⊥) → Has key n u.rows
  kept_by_all [] v u l h stays = subst (λ (x : Rows). Has key n x.rows) (sym l) h
  kept_by_all (e ∷ history) v u l h stays = kept_by_all history l.0 u l.2 (kept_by_step v l.0 e.call e.reply l.1 h (stays 0 e refl)) (λ j d f. stays (suc j) d f)

-- after the store itself
stored_has : (entries : ℕ) (row : Claim) (old new : List Claim) (reply : Stored) → Stores entries row old reply new → IsKeptBy (StoredAs reply) → Has (row_key row) (rank_of row.fact) new
stored_has entries row old new Added s h = subst (Has (row_key row) (rank_of row.fact)) (sym s.2) (row, front_is (row_key row) row old (key_itself (row_key row)), omega arith)
stored_has entries row old new (Evicted last) s h = subst (Has (row_key row) (rank_of row.fact)) (sym s.3) (row, front_is (row_key row) row (take (entries - 1) old) (key_itself (row_key row)), omega arith)
stored_has entries row old new Better s h = subst (Has (row_key row) (rank_of row.fact)) (sym s.3) (row, front_is (row_key row) row (without (row_key row) old) (key_itself (row_key row)), omega arith)
stored_has entries row old new Kept s h = subst (Has (row_key row) (rank_of row.fact)) (sym s.3) (s.0, front_is (row_key row) s.0 (without (row_key row) old) (same_self (row_key row) old s.0 s.1), s.2)
stored_has entries row old new Dropped s h = absurd h

store_step_has : (row : Claim) (v u : Rows) (reply : FactReply) → ShardStep v (Store row) reply u → IsKeptBy reply → Has (row_key row) (rank_of row.fact) u.rows
store_step_has row v u (StoredAs reply) s h = stored_has v.entries row v.rows u.rows reply s.0 h
store_step_has row v u (Probed reply) s h = absurd h

-- a live entry's key has a row that says no less
live_has : (history : History) (i : ℕ) (v u : Rows) (row : Claim) → IsLegalHistory ShardStep v history u → IsLive history i row → Has (row_key row) (rank_of row.fact) u.rows
live_has [] i v u row l h = let e = h.1 in cc
live_has (e ∷ history) zero v u row l h =
    let same : e ≡ h.0 = same_Some e h.0 h.1 in
    let call : e.call ≡ Store row = ap (λ (x : Entry FactCall FactReply). x.call) same ∙ h.2 in
    let stay : IsKeptBy e.reply = subst (λ (x : Entry FactCall FactReply). IsKeptBy x.reply) (sym same) h.3 in
    kept_by_all (row_key row) (rank_of row.fact) history l.0 u l.2 (store_step_has row v l.0 e.reply (subst (λ c. ShardStep v c e.reply l.0) call l.1) stay) (λ j d f. h.4 (suc j) d (omega arith) f)
live_has (e ∷ history) (suc i) v u row l h = live_has history i l.0 u row l.2 (h.0, h.1, h.2, h.3, λ j d lt f. h.4 (suc j) d (omega (arith, lt)) f)

-- a history whose last entry is known
pub legal_split : (history : History) (e : Entry FactCall FactReply) (v u : Rows) → IsLegalHistory ShardStep v (history ++ e ∷ []) u → (m : Rows) × IsLegalHistory ShardStep v history m × ShardStep m e.call e.reply u
legal_split [] e v u l = (v, refl, subst (λ x. ShardStep v e.call e.reply x) (sym l.2) l.1)
legal_split (d ∷ history) e v u l = let r = legal_split history e l.0 u l.2 in (r.0, (l.0, l.1, r.1), r.2)

get_longer : (history : History) (e d : Entry FactCall FactReply) (i : ℕ) → slice_get history i ≡ Some d → slice_get (history ++ e ∷ []) i ≡ Some d
get_longer [] e d i f = cc
get_longer (x ∷ history) e d zero f = f
get_longer (x ∷ history) e d (suc i) f = get_longer history e d i f

get_snoc : (history : History) (e d : Entry FactCall FactReply) (i : ℕ) → slice_get (history ++ e ∷ []) i ≡ Some d → (slice_get history i ≡ Some d) ⊎ (e ≡ d)
get_snoc [] e d zero f = inr (let g : Some e ≡ Some d = f in cc)
get_snoc [] e d (suc i) f = cc
get_snoc (x ∷ history) e d zero f = inl f
get_snoc (x ∷ history) e d (suc i) f = get_snoc history e d i f

module _ (key : Key) (number : ℕ) (reply : Probe) where
  abbrev last : Entry FactCall FactReply
  last = entry number (Asked key) (Probed reply)

  before : (history : History) (i : ℕ) (row : Claim) → IsLive (history ++ last ∷ []) i row → IsLive history i row
  before history i row h = ⊎_elim
      (λ f. (h.0, f, h.2, h.3, λ j d lt g. h.4 j d lt (get_longer history last d j g)))
      (λ e. let call : Asked key ≡ Store row = ap (λ (x : Entry FactCall FactReply). x.call) e ∙ h.2 in cc)
      (get_snoc history last h.0 i h.1)

  at_least : (n : ℕ) (rows rows' : List Claim) (r : Probe) → Probes key rows r rows' → Has key n rows → FindsAtLeast key n r
  at_least n rows rows' (Found row) p h = (found_key key rows row p.0, let same = one_found key rows row h.0 p.0 h.1 in let r = ap (λ (c : Claim). rank_of c.fact) same in let le = h.2 in omega (arith, r, le))
  at_least n rows rows' Miss p h = none_found key rows h.0 p.0 h.1
  at_least n rows rows' Refused p h = tt

  -- where a live entry stored a row of the key, the probe that comes last found one that says no less
  pub live_found : (history : History) (i : ℕ) (v u : Rows) (row : Claim) → IsLegalHistory ShardStep v (history ++ last ∷ []) u → row_key row ≡ key → IsLive (history ++ last ∷ []) i row → FindsAtLeast key (rank_of row.fact) reply
  live_found history i v u row l of h =
      let s = legal_split history last v u l in
      at_least (rank_of row.fact) s.0.rows u.rows reply s.2.0 (subst (λ k. Has k (rank_of row.fact) s.0.rows) of (live_has history i v s.0 row s.1 (before history i row h)))
