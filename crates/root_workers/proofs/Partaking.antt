-- What workers did in a run, as one history at each shard.
use Rattle.std.proofs.Common.{◌≡◌, ◌∙◌, ℕ, ◌<◌, List, [], ◌∷◌, ◌++◌, length, slice_index_or, refl, sym, ap, subst, arith}
use Rattle.std.proofs.lemmas.Option.{slice_get-get_or}
use Rattle.turn_cell.specs.Histories.{IsLegalHistory}
use Rattle.cha_fact.specs.Entries.{Entry}
use Rattle.shard_table.specs.ShardRows.{Rows}
use Rattle.shard_table.specs.Shards.{ShardStep, empty}
use Rattle.shard_table.specs.Makes.{Makes, entered_at}
use Rattle.shard_table.specs.Tables.{ShardPass, pass_at, IsNewPass, AreReplays}
use Rattle.shard_table.specs.declared.table.Table.{Table}
use Rattle.shard_table.specs.declared.table.TablePass.{TablePass}
use Rattle.root_workers.specs.declared.work.Worker.{Worker}
use Rattle.root_workers.specs.Crews.{CrewMakes}
use Rattle.root_workers.specs.Histories.{IsOneHistory, EndsAsOne, TookPart, DidAsOne}

-- a pass that has seen and done nothing
abbrev idle : ShardPass
idle = record { number = 0; seen = []; mine = []; splits = 0; joins = 0 }

-- where nobody was called on, nothing was done
pub did_nothing : (count entries : ℕ) → DidAsOne count entries
did_nothing count entries = record {
  whole = λ k. idle;
  parts = λ i less. record {
    calls = [];
    own = λ k. idle;
    mine = λ k low. refl;
    front = λ k low. record { seen = ([], refl); mine = refl };
  };
  legal = λ k low. (empty entries, refl);
}

module _ (before : TablePass) (begun ended : List Worker) (after : TablePass)
    (fresh : (i : ℕ) (d : Worker) → i < length begun → IsNewPass (slice_index_or begun i d).pass)
    (history : IsOneHistory before ended after) (same : length ended ≡ length begun) where
  part_of : (i : ℕ) (d : Worker) → i < length begun → (calls : List Entry) → Makes (slice_index_or begun i d).pass calls (slice_index_or ended i d).pass → TookPart (pass_at after)
  unfolding Makes
  part_of i d less calls makes = record {
    calls = calls;
    own = pass_at (slice_index_or ended i d).pass;
    mine = λ k low. (
        let m = makes k in
        m.mine ∙ ap (λ xs. xs ++ entered_at k (pass_at (slice_index_or begun i d).pass k).number calls) (fresh i d less k low).1
        ∙ ap (λ n. entered_at k n calls) (sym m.same.0));
    front = λ k low. history.each i d (subst (λ n. i < n) (sym same) less) k low;
  }

-- each of the eight shards is what its history leaves
legal_at : (entries : ℕ) (table : Table) (after : TablePass) (shards : List Rows) → table.entries ≡ entries → length shards ≡ 8 → AreReplays table.entries after shards
    → (k : ℕ) → k < 8 → (last : Rows) × IsLegalHistory ShardStep (empty entries) (pass_at after k).seen last
legal_at entries table after shards rows count replays k low =
    let shard = slice_index_or shards k (empty entries) in
    (shard, subst (λ n. IsLegalHistory ShardStep (empty n) (pass_at after k).seen shard) rows (replays k shard (slice_get-get_or shards k (empty entries) (subst (λ n. k < n) (sym count) low))))

-- at the end of a table and its crew
pub did_as_one : (count entries : ℕ) (table : Table) (before : TablePass) (begun ended : List Worker) (xs : List Entry) (shards : List Rows) → table.entries ≡ entries → length begun ≡ count
    → ((i : ℕ) (d : Worker) → i < length begun → IsNewPass (slice_index_or begun i d).pass) → CrewMakes 0 begun xs ended → EndsAsOne table before ended shards → DidAsOne count entries
did_as_one count entries table before [] ended xs shards rows workers fresh makes end = record {
  whole = pass_at end.after;
  parts = λ i less. absurd (omega (arith, less, workers));
  legal = legal_at entries table end.after shards rows end.count end.replays;
}
did_as_one count entries table before (w ∷ ws) ended xs shards rows workers fresh makes end = record {
  whole = pass_at end.after;
  parts = λ i less. (
      let at = subst (λ n. i < n) (sym workers) less in
      let one = makes.each i w at in
      part_of before (w ∷ ws) ended end.after fresh end.history makes.same i w at one.0 one.1);
  legal = legal_at entries table end.after shards rows end.count end.replays;
}
