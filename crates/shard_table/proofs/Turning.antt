-- What one turn of a probe or a store tells.
use Rattle.std.proofs.Common.{◌≡◌, ◌≢◌, ◌∙◌, refl, sym, ap, subst, ℕ, List, [], ◌∷◌, ◌++◌}
use Rattle.turn_cell.specs.declared.object.Entry.{Entry}
use Rattle.turn_cell.specs.Histories.{IsLegalHistory, entry}
use Rattle.turn_cell.specs.Passes.{Known, Turned}
use Rattle.cha_board.specs.declared.men.Color.{Color}
use Rattle.cha_board.specs.Board.{Board, IsValid}
use Rattle.cha_fact.proofs.Searching.{keys_tell}
use Rattle.cha_fact.specs.declared.key.Key.{Key}
use Rattle.cha_fact.specs.declared.calls.Probe.{Probe}
use Rattle.cha_fact.specs.declared.calls.Probe.TheVariants.{Found, Miss, Refused}
use Rattle.cha_fact.specs.declared.calls.Stored.{Stored}
use Rattle.cha_fact.specs.declared.calls.Stored.TheVariants.{Added, Evicted, Better, Kept, Dropped}
use Rattle.cha_fact.specs.declared.calls.FactCall.{FactCall}
use Rattle.cha_fact.specs.declared.calls.FactCall.TheVariants.{Probe as Asked, Store}
use Rattle.cha_fact.specs.declared.calls.FactReply.{FactReply}
use Rattle.cha_fact.specs.declared.calls.FactReply.TheVariants.{Probed, Stored as StoredAs}
use Rattle.cha_fact.specs.Entries.{IsOfKey}
use Rattle.cha_fact.specs.Keys.{key_of}
use Rattle.cha_fact.specs.Truths.{Claim, IsTrueOf, rank_of}
use Rattle.shard_table.proofs.Lasting.{found_key}
use Rattle.shard_table.proofs.Staying.{legal_split, live_found, one_found}
use Rattle.shard_table.specs.Live.{History, IsLive, FindsAtLeast}
use Rattle.shard_table.specs.ShardRows.{Rows, row_key}
use Rattle.shard_table.specs.Shards.{without, Probes, Stores, ShardStep}
use Rattle.shard_table.specs.Tables.{IsRowOf}

-- a step leaves one list of rows
stores_one : (entries : ℕ) (row : Claim) (old a b : List Claim) (reply : Stored) → Stores entries row old reply a → Stores entries row old reply b → a ≡ b
stores_one entries row old a b Added s t = s.2 ∙ sym t.2
stores_one entries row old a b (Evicted k) s t = s.3 ∙ sym t.3
stores_one entries row old a b Better s t = s.3 ∙ sym t.3
stores_one entries row old a b Kept s t = s.3 ∙ (ap (λ x. x ∷ without (row_key row) old) (one_found (row_key row) old s.0 t.0 s.1 t.1) ∙ sym t.3)
stores_one entries row old a b Dropped s t = absurd s

probes_one : (key : Key) (old a b : List Claim) (reply : Probe) → Probes key old reply a → Probes key old reply b → a ≡ b
probes_one key old a b (Found row) s t = s.1 ∙ sym t.1
probes_one key old a b Miss s t = s.1 ∙ sym t.1
probes_one key old a b Refused s t = s.1 ∙ sym t.1

same_rows : (a b : Rows) → a.rows ≡ b.rows → a.entries ≡ b.entries → a ≡ b
same_rows a b e f = λ i. record { rows = e i; entries = f i }

step_one : (old a b : Rows) (call : FactCall) (reply : FactReply) → ShardStep old call reply a → ShardStep old call reply b → a ≡ b
step_one old a b (Asked key) (Probed reply) s t = same_rows a b (probes_one key old.rows a.rows b.rows reply s.0 t.0) (s.1 ∙ sym t.1)
step_one old a b (Store row) (StoredAs reply) s t = same_rows a b (stores_one old.entries row old.rows a.rows b.rows reply s.0 t.0) (s.1 ∙ sym t.1)
step_one old a b (Asked key) (StoredAs reply) s t = absurd s
step_one old a b (Store row) (Probed reply) s t = absurd s

-- a history leaves one value
legal_one : (history : History) (v a b : Rows) → IsLegalHistory ShardStep v history a → IsLegalHistory ShardStep v history b → a ≡ b
legal_one [] v a b l m = l ∙ sym m
legal_one (e ∷ history) v a b l m = legal_one history m.0 a b (subst (λ x. IsLegalHistory ShardStep x history a) (step_one v l.0 m.0 e.call e.reply l.1 m.1) l.2) m.2

-- no call changes how many rows there may be
step_room : (old new : Rows) (call : FactCall) (reply : FactReply) → ShardStep old call reply new → new.entries ≡ old.entries
step_room old new (Asked key) (Probed reply) s = s.1
step_room old new (Store row) (StoredAs reply) s = s.1
step_room old new (Asked key) (StoredAs reply) s = absurd s
step_room old new (Store row) (Probed reply) s = absurd s

legal_room : (history : History) (v u : Rows) → IsLegalHistory ShardStep v history u → u.entries ≡ v.entries
legal_room [] v u l = ap (λ (x : Rows). x.entries) l
legal_room (e ∷ history) v u l = legal_room history l.0 u l.2 ∙ step_room v l.0 e.call e.reply l.1

snoc_is : {A : Type 0} (xs ys : List A) (a b : A) → xs ++ a ∷ [] ≡ ys ++ b ∷ [] → xs ≡ ys
snoc_is [] [] a b e = refl
snoc_is [] (y ∷ []) a b e = absurd (cc)
snoc_is [] (y ∷ z ∷ ys) a b e = absurd (cc)
snoc_is (x ∷ []) [] a b e = absurd (cc)
snoc_is (x ∷ z ∷ xs) [] a b e = absurd (cc)
snoc_is (x ∷ xs) (y ∷ ys) a b e =
    let h : x ≡ y = cc in
    let t : xs ++ a ∷ [] ≡ ys ++ b ∷ [] = cc in
    subst (λ z. x ∷ xs ≡ z ∷ ys) h (ap (λ zs. x ∷ zs) (snoc_is xs ys a b t))

module _ (start : Rows) (v w : Known FactCall FactReply) where
  module _ (call : FactCall) (reply : FactReply) (t : Turned ShardStep start v call reply w) where
    -- the last step, from what all entries before it leave
    last_step : (m : Rows) × IsLegalHistory ShardStep start t.before m × ShardStep m call reply t.last
    last_step = legal_split t.before (entry v.number call reply) start t.last (subst (λ xs. IsLegalHistory ShardStep start xs t.last) t.seen t.legal)

    step_from : (before : History) (rows : Rows) (e : Entry FactCall FactReply) → w.seen ≡ before ++ e ∷ [] → IsLegalHistory ShardStep start before rows → ShardStep rows call reply t.last
    step_from before rows e s l =
        let is : t.before ≡ before = snoc_is t.before before (entry v.number call reply) e (sym t.seen ∙ s) in
        let h = last_step in
        let same : h.0 ≡ rows = legal_one before start h.0 rows (subst (λ xs. IsLegalHistory ShardStep start xs h.0) is h.1) l in
        subst (λ x. ShardStep x call reply t.last) same h.2

  -- a probe is never answered as a store, nor a store as a probe
  pub no_stored : (key : Key) (reply : Stored) → Turned ShardStep start v (Asked key) (StoredAs reply) w → ⊥
  no_stored key reply t = (last_step (Asked key) (StoredAs reply) t).2

  pub no_probed : (row : Claim) (reply : Probe) → Turned ShardStep start v (Store row) (Probed reply) w → ⊥
  no_probed row reply t = (last_step (Store row) (Probed reply) t).2

  module _ (key : Key) (reply : Probe) (t : Turned ShardStep start v (Asked key) (Probed reply) w) where
    -- where a live entry stored a row of the key, one was found that says no less
    pub stays : (i : ℕ) (row : Claim) → row_key row ≡ key → IsLive w.seen i row → FindsAtLeast key (rank_of row.fact) reply
    stays i row of h =
        live_found key v.number reply t.before i start t.last row (subst (λ xs. IsLegalHistory ShardStep start xs t.last) t.seen t.legal) of (subst (λ xs. IsLive xs i row) t.seen h)

    is_row : (r : Probe) (rows rows' : List Claim) → Probes key rows r rows' → IsRowOf key rows r
    is_row (Found row) rows rows' p = p.0
    is_row Miss rows rows' p = p.0
    is_row Refused rows rows' p = p.0

    pub finds : (before : History) (rows : Rows) (e : Entry FactCall FactReply) → w.seen ≡ before ++ e ∷ [] → IsLegalHistory ShardStep start before rows → IsRowOf key rows.rows reply
    finds before rows e s l = is_row reply rows.rows t.last.rows (step_from (Asked key) (Probed reply) t before rows e s l).0

    of_key : (r : Probe) (rows rows' : List Claim) → Probes key rows r rows' → IsOfKey key r
    of_key (Found row) rows rows' p = found_key key rows row p.0
    of_key Miss rows rows' p = tt
    of_key Refused rows rows' p = tt

    pub finds_key : IsOfKey key reply
    finds_key = let h = last_step (Asked key) (Probed reply) t in of_key reply h.0.rows t.last.rows h.2.0

  module _ (row : Claim) (reply : Stored) (t : Turned ShardStep start v (Store row) (StoredAs reply) w) where
    pub stores : (before : History) (rows : Rows) (e : Entry FactCall FactReply) → w.seen ≡ before ++ e ∷ [] → IsLegalHistory ShardStep start before rows
        → (after : List Claim) × Stores start.entries row rows.rows reply after
    stores before rows e s l =
        (t.last.rows, subst (λ n. Stores n row rows.rows reply t.last.rows) (legal_room before start rows l) (step_from (Store row) (StoredAs reply) t before rows e s l).0)

    none_dropped : (entries : ℕ) (old new : List Claim) (r : Stored) → Stores entries row old r new → r ≡ Dropped → ⊥
    none_dropped entries old new r step is = subst (λ x. Stores entries row old x new) is step

    pub keeps : reply ≢ Dropped
    keeps is = let h = last_step (Store row) (StoredAs reply) t in none_dropped h.0.entries h.0.rows t.last.rows reply h.2.0 is

-- a row that is true is true of the position and the side whose key it has
pub true_of : (row : Claim) (q : Board) (winner : Color) → IsValid row.position → IsValid q → row_key row ≡ key_of q winner → IsTrueOf row.position row.winner row.fact → IsTrueOf q winner row.fact
true_of row q winner valid asked of holds =
    let same = (keys_tell row.position q row.winner winner valid asked).0 of in
    subst (λ side. IsTrueOf q side row.fact) same.1 (subst (λ p. IsTrueOf p row.winner row.fact) same.0 holds)
