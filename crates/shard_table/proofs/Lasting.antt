-- What holds of the rows of a shard after any calls.
use Rattle.std.proofs.Common.{◌≡◌, ℕ, zero, suc, ◌-◌, ◌<◌, ◌≤◌, Bool, true, false, cond, List, [], ◌∷◌, take, length, Option, Some, None, refl, sym, ap, ◌∙◌, subst, arith}
use Rattle.std.specs.List.{AllByRecursion}
use Rattle.std.proofs.lemmas.List.Elements.{All-from_recursion}
use Rattle.cha_fact.specs.declared.key.Key.{Key}
use Rattle.cha_fact.specs.declared.calls.Probe.{Probe}
use Rattle.cha_fact.specs.declared.calls.Probe.TheVariants.{Found, Miss, Refused}
use Rattle.cha_fact.specs.declared.calls.Stored.{Stored}
use Rattle.cha_fact.specs.declared.calls.Stored.TheVariants.{Added, Evicted, Better, Kept, Dropped}
use Rattle.cha_fact.specs.declared.calls.FactCall.{FactCall}
use Rattle.cha_fact.specs.declared.calls.FactCall.TheVariants.{Probe as Asked, Store}
use Rattle.cha_fact.specs.declared.calls.FactReply.{FactReply}
use Rattle.cha_fact.specs.declared.calls.FactReply.TheVariants.{Probed, Stored as StoredAs}
use Rattle.cha_fact.specs.Truths.{Claim}
use Rattle.cha_fact.specs.Entries.{Entry}
use Rattle.shard_table.specs.ShardRows.{Rows, row_key}
use Rattle.shard_table.specs.Shards.{same_key, find_row, without, Probes, Stores, ShardStep, IsReplay, empty, IsTrueRow, GivesTruth, StoresTruths, HaveDifferentKeys, AreRows}
use Rattle.shard_table.proofs.Keying.{key_exact}

-- a row that is found has the key
found_step : (key : Key) (first : Claim) (rest : Option Claim) (row : Claim) (b : Bool) → same_key key (row_key first) ≡ b → cond b (Some first) rest ≡ Some row
    → (rest ≡ Some row → row_key row ≡ key) → row_key row ≡ key
found_step key first rest row true test found later =
    let same : first ≡ row = cc in
    ap row_key (sym same) ∙ sym (key_exact key (row_key first) test)
found_step key first rest row false test found later = later found

pub found_key : (key : Key) (rows : List Claim) (row : Claim) → find_row key rows ≡ Some row → row_key row ≡ key
found_key key [] row found = cc
found_key key (first ∷ rows) row found = found_step key first (find_row key rows) row (same_key key (row_key first)) refl found (found_key key rows row)

-- a row less
fewer_step : (first row : Claim) (rows rest : List Claim) (o : Option Claim) (b : Bool) → cond b (Some first) o ≡ Some row
    → (o ≡ Some row → suc (length rest) ≡ length rows) → suc (length (cond b rows (first ∷ rest))) ≡ suc (length rows)
fewer_step first row rows rest o true found later = refl
fewer_step first row rows rest o false found later = let less = later found in omega (arith, less)

fewer : (key : Key) (rows : List Claim) (row : Claim) → find_row key rows ≡ Some row → suc (length (without key rows)) ≡ length rows
fewer key [] row found = cc
fewer key (first ∷ rows) row found =
    let step = fewer_step first row rows (without key rows) (find_row key rows) (same_key key (row_key first)) found (fewer key rows row) in
    omega (arith, step)

-- a key without a row has none among fewer rows
none_step : (k : Key) (first : Claim) (rows rest : List Claim) (b c : Bool) → same_key k (row_key first) ≡ c → cond c (Some first) (find_row k rows) ≡ None
    → (find_row k rows ≡ None → find_row k rest ≡ None) → find_row k (cond b rows (first ∷ rest)) ≡ None
none_step k first rows rest b true test none later = cc
none_step k first rows rest true false test none later = none
none_step k first rows rest false false test none later = rw test (later none)

none_without : (k key : Key) (rows : List Claim) → find_row k rows ≡ None → find_row k (without key rows) ≡ None
none_without k key [] none = refl
none_without k key (first ∷ rows) none =
    none_step k first rows (without key rows) (same_key key (row_key first)) (same_key k (row_key first)) refl none (none_without k key rows)

none_taken : (k : Key) (n : ℕ) (rows : List Claim) → find_row k rows ≡ None → find_row k (take n rows) ≡ None
none_taken k zero rows none = refl
none_taken k (suc n) [] none = refl
none_taken k (suc n) (first ∷ rows) none =
    none_step k first rows (take n rows) false (same_key k (row_key first)) refl none (none_taken k n rows)

-- where keys differ, a key has no row once its row is gone
gone_step : (key : Key) (first : Claim) (rows rest : List Claim) (b : Bool) → same_key key (row_key first) ≡ b → find_row (row_key first) rows ≡ None
    → find_row key rest ≡ None → find_row key (cond b rows (first ∷ rest)) ≡ None
gone_step key first rows rest true test alone later = ap (λ k. find_row k rows) (key_exact key (row_key first) test) ∙ alone
gone_step key first rows rest false test alone later = rw test later

pub gone : (key : Key) (rows : List Claim) → HaveDifferentKeys rows → find_row key (without key rows) ≡ None
gone key [] apart = refl
gone key (first ∷ rows) apart = gone_step key first rows (without key rows) (same_key key (row_key first)) refl apart.0 (gone key rows apart.1)

apart_cond : (b : Bool) (x y : List Claim) → HaveDifferentKeys x → HaveDifferentKeys y → HaveDifferentKeys (cond b x y)
apart_cond true x y first second = first
apart_cond false x y first second = second

apart_without : (key : Key) (rows : List Claim) → HaveDifferentKeys rows → HaveDifferentKeys (without key rows)
apart_without key [] apart = apart
apart_without key (first ∷ rows) apart =
    apart_cond (same_key key (row_key first)) rows (first ∷ without key rows) apart.1 (none_without (row_key first) key rows apart.0, apart_without key rows apart.1)

apart_taken : (n : ℕ) (rows : List Claim) → HaveDifferentKeys rows → HaveDifferentKeys (take n rows)
apart_taken zero rows apart = tt
apart_taken (suc n) [] apart = tt
apart_taken (suc n) (first ∷ rows) apart = (none_taken (row_key first) n rows apart.0, apart_taken n rows apart.1)

-- truths stay
true_cond : (b : Bool) (x y : List Claim) → AllByRecursion IsTrueRow x → AllByRecursion IsTrueRow y → AllByRecursion IsTrueRow (cond b x y)
true_cond true x y first second = first
true_cond false x y first second = second

true_without : (key : Key) (rows : List Claim) → AllByRecursion IsTrueRow rows → AllByRecursion IsTrueRow (without key rows)
true_without key [] truths = truths
true_without key (first ∷ rows) truths =
    true_cond (same_key key (row_key first)) rows (first ∷ without key rows) truths.1 (truths.0, true_without key rows truths.1)

true_taken : (n : ℕ) (rows : List Claim) → AllByRecursion IsTrueRow rows → AllByRecursion IsTrueRow (take n rows)
true_taken zero rows truths = tt
true_taken (suc n) [] truths = tt
true_taken (suc n) (first ∷ rows) truths = (truths.0, true_taken n rows truths.1)

found_true_step : (first row : Claim) (o : Option Claim) (b : Bool) → cond b (Some first) o ≡ Some row → IsTrueRow first → (o ≡ Some row → IsTrueRow row) → IsTrueRow row
found_true_step first row o true found here later = (let same : first ≡ row = cc in subst IsTrueRow same here)
found_true_step first row o false found here later = later found

found_true : (key : Key) (rows : List Claim) (row : Claim) → AllByRecursion IsTrueRow rows → find_row key rows ≡ Some row → IsTrueRow row
found_true key [] row truths found = cc
found_true key (first ∷ rows) row truths found =
    found_true_step first row (find_row key rows) (same_key key (row_key first)) found truths.0 (found_true key rows row truths.1)

taken_few : (n : ℕ) (rows : List Claim) → length (take n rows) ≤ n
taken_few zero rows = omega arith
taken_few (suc n) [] = omega arith
taken_few (suc n) (first ∷ rows) = (let rest = taken_few n rows in omega (arith, rest))

-- what is kept from call to call
record Holds (entries : ℕ) (rows : List Claim) : Type 0 where
  few : length rows ≤ entries
  apart : HaveDifferentKeys rows
  truths : AllByRecursion IsTrueRow rows

-- a row in front of the others, whose key had a row
fronted : (entries : ℕ) (key : Key) (rows : List Claim) (before row : Claim) → Holds entries rows → find_row key rows ≡ Some before → row_key row ≡ key → IsTrueRow row
    → Holds entries (row ∷ without key rows)
fronted entries key rows before row holds found own true_row =
    let less = fewer key rows before found in
    let few = holds.few in record {
      few = omega (arith, less, few);
      apart = (ap (λ k. find_row k (without key rows)) own ∙ gone key rows holds.apart, apart_without key rows holds.apart);
      truths = (true_row, true_without key rows holds.truths);
    }

stored_holds : (entries : ℕ) (row : Claim) (rows : List Claim) (reply : Stored) (new : List Claim) → 0 < entries → IsTrueRow row → Stores entries row rows reply new → Holds entries rows → Holds entries new
stored_holds entries row rows Added new some true_row step holds =
    let less = step.1 in
    subst (Holds entries) (sym step.2) (record { few = omega (arith, less); apart = (step.0, holds.apart); truths = (true_row, holds.truths) })
stored_holds entries row rows (Evicted key) new some true_row step holds =
    let less = taken_few (entries - 1) rows in
    subst (Holds entries) (sym step.3) (record {
      few = omega (arith, less, some);
      apart = (none_taken (row_key row) (entries - 1) rows step.0, apart_taken (entries - 1) rows holds.apart);
      truths = (true_row, true_taken (entries - 1) rows holds.truths);
    })
stored_holds entries row rows Better new some true_row step holds =
    subst (Holds entries) (sym step.3) (fronted entries (row_key row) rows step.0 row holds step.1 refl true_row)
stored_holds entries row rows Kept new some true_row step holds =
    subst (Holds entries) (sym step.3)
    (fronted entries (row_key row) rows step.0 step.0 holds step.1 (found_key (row_key row) rows step.0 step.1) (found_true (row_key row) rows step.0 holds.truths step.1))
stored_holds entries row rows Dropped new some true_row step holds = absurd step

probed_holds : (entries : ℕ) (key : Key) (rows : List Claim) (reply : Probe) (new : List Claim) → Probes key rows reply new → Holds entries rows → Holds entries new
probed_holds entries key rows (Found row) new step holds =
    subst (Holds entries) (sym step.1) (fronted entries key rows row row holds step.0 (found_key key rows row step.0) (found_true key rows row holds.truths step.0))
probed_holds entries key rows Miss new step holds = subst (Holds entries) (sym step.1) holds
probed_holds entries key rows Refused new step holds = subst (Holds entries) (sym step.1) holds

step_holds : (entries : ℕ) (old : Rows) (call : FactCall) (reply : FactReply) (new : Rows) → 0 < entries → old.entries ≡ entries → GivesTruth call → ShardStep old call reply new
    → Holds entries old.rows → Holds entries new.rows × (new.entries ≡ entries)
step_holds entries old (Asked key) (Probed reply) new some same truth step holds = (probed_holds entries key old.rows reply new.rows step.0 holds, step.1 ∙ same)
step_holds entries old (Store row) (StoredAs reply) new some same truth step holds =
    (stored_holds entries row old.rows reply new.rows some truth (subst (λ n. Stores n row old.rows reply new.rows) same step.0) holds, step.1 ∙ same)
step_holds entries old (Asked key) (StoredAs reply) new some same truth step holds = absurd step
step_holds entries old (Store row) (Probed reply) new some same truth step holds = absurd step

all_hold : (entries : ℕ) (old : Rows) (history : List Entry) (last : Rows) → 0 < entries → old.entries ≡ entries → StoresTruths history → IsReplay old history last → Holds entries old.rows → Holds entries last.rows
all_hold entries old [] last some same truths replay holds = subst (λ s. Holds entries s.rows) replay holds
all_hold entries old (e ∷ history) last some same truths replay holds =
    let next = step_holds entries old e.call e.reply replay.0 some same truths.0 replay.1 holds in
    all_hold entries replay.0 history last some next.1 truths.1 replay.2 next.0

pub any_calls_hold : (entries : ℕ) (history : List Entry) (last : Rows) → 0 < entries → StoresTruths history → IsReplay (empty entries) history last → AreRows entries last.rows
any_calls_hold entries history last some truths replay =
    let holds = all_hold entries (empty entries) history last some refl truths replay (record { few = omega arith; apart = tt; truths = tt }) in
    record { few = holds.few; apart = holds.apart; truths = All-from_recursion IsTrueRow last.rows holds.truths }
