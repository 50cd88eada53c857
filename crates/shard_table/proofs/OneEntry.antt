-- One turn makes one entry.
use Rattle.std.proofs.Common.{◌≡◌, ◌≢◌, ℕ, Bool, true, false, cond, ⊎_elim, List, [], ◌∷◌, ◌++◌, map, nat_eq, sym, ap, subst, ◌∙◌}
use Rattle.std.proofs.lemmas.Bool.Decides.{eqb_tells}
use Rattle.std.proofs.lemmas.List.{append-nil, append_assoc}
use Rattle.turn_cell.specs.Histories.{entry}
use Rattle.cha_fact.specs.declared.calls.FactCall.{FactCall}
use Rattle.cha_fact.specs.declared.calls.FactReply.{FactReply}
use Rattle.cha_fact.specs.Entries.{Entry}
use Rattle.shard_table.specs.Live.{History}
use Rattle.shard_table.specs.Makes.{call_key, MakesAt, Makes}
use Rattle.shard_table.specs.Tables.{pass_at, shard_number, TakesTurn, OthersStay, IsFirstPass, StaysFirst}
use Rattle.shard_table.specs.declared.table.Table.{Table}
use Rattle.shard_table.specs.declared.table.TablePass.{TablePass}

module _ (table : Table) (old new : TablePass) (call : FactCall) (reply : FactReply) (turned : TakesTurn (shard_number (call_key call)) table old call reply new) (others : OthersStay (shard_number (call_key call)) old new) where
  abbrev one : List Entry
  one = record { call = call; reply = reply } ∷ []

  -- where the test of the shard answers so
  abbrev entered_as : Bool → ℕ → List Entry → History
  entered_as b number xs = map (λ (e : Entry). entry number e.call e.reply) (cond b xs [])

  here : (k : ℕ) → k ≡ shard_number (call_key call) → nat_eq (shard_number (call_key call)) k ≡ true → MakesAt k (pass_at old k) one (pass_at new k)
  here k is test =
      let t = subst (λ n. TakesTurn n table old call reply new) (sym is) turned in record {
        mine = t.mine ∙ ap (λ b. (pass_at old k).mine ++ entered_as b (pass_at old k).number one) (sym test);
        known_before = (
          t.known_before.0 ++ entry (pass_at old k).number call reply ∷ [],
          t.seen ∙ ap (λ before. before ++ entry (pass_at old k).number call reply ∷ []) t.known_before.1
              ∙ append_assoc (pass_at old k).seen t.known_before.0 (entry (pass_at old k).number call reply ∷ []),
        );
        same = t.same;
      }

  there : (k : ℕ) → k ≢ shard_number (call_key call) → nat_eq (shard_number (call_key call)) k ≡ false → MakesAt k (pass_at old k) one (pass_at new k)
  there k apart test =
      let e = others k apart in record {
        mine = ap (λ p. p.mine) e ∙ sym (append-nil (pass_at old k).mine) ∙ ap (λ b. (pass_at old k).mine ++ entered_as b (pass_at old k).number one) (sym test);
        known_before = ([], ap (λ p. p.seen) e ∙ sym (append-nil (pass_at old k).seen));
        same = (ap (λ p. p.number) e, ap (λ p. p.splits) e, ap (λ p. p.joins) e);
      }

  pub turn_makes : Makes old one new
  unfolding Makes
  turn_makes k = ⊎_elim
      (λ same. here k (sym same.1) same.0)
      (λ apart. there k (λ e. apart.1 (sym e)) apart.0)
      (eqb_tells (shard_number (call_key call)) k)

-- no call makes another pass of the first one
pub makes_first : (old new : TablePass) (entries : List Entry) → Makes old entries new → StaysFirst old new
unfolding Makes IsFirstPass
makes_first old new entries makes first =
    let zero_same = (makes 0).same in (
      (λ k lt. let same = (makes k).same in let f = first k lt in
          (same.0 ∙ f.0, same.1 ∙ f.1 ∙ sym zero_same.1, same.2 ∙ f.2 ∙ sym zero_same.2)),
      zero_same.1,
      zero_same.2,
    )

pub first_both : (a b c : TablePass) → StaysFirst a b → StaysFirst b c → StaysFirst a c
first_both a b c one two first = let x = one first in let y = two x.0 in (y.0, y.1 ∙ x.1, y.2 ∙ x.2)

pub turn_first : (table : Table) (old new : TablePass) (call : FactCall) (reply : FactReply) → TakesTurn (shard_number (call_key call)) table old call reply new → OthersStay (shard_number (call_key call)) old new → StaysFirst old new
turn_first table old new call reply turned others = makes_first old new (record { call = call; reply = reply } ∷ []) (turn_makes table old new call reply turned others)
