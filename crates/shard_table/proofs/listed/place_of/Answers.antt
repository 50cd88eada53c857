use Rattle.std.proofs.Common.{◌≡◌, true, false, sym, ap, ◌∙◌}
use Rattle.shard_table.specs.ShardRows.{row_key}
use Rattle.shard_table.specs.Shards.{same_key}
use Rattle.shard_table.proofs.Keying.{eq_is_same, same_back}
use Rattle.shard_table.proofs.Listing.{place_is, none_yet}
use Rattle.shard_table.proofs.listed.place_of.Goals as goal

pub returns-then-eq : goal.returns-then-eq
returns-then-eq c =
    let row = c.index-rows-place.result in
    let is : same_key c.args.key.now (row_key row) ≡ true = same_back (row_key row) c.args.key.now ∙ ap (λ k. same_key k c.args.key.now) (sym c.key.ensures) ∙ sym (eq_is_same c.key.result c.args.key.now) ∙ sym c.eq.ensures ∙ c.if-eq.true in
    place_is c.args.key.now c.args.rows.now c.loop-place.place row c.loop-place.invariant c.loop-place-test.true c.index-rows-place.is is

pub loop-place-preserved : goal.loop-place-preserved
loop-place-preserved c =
    let row = c.index-rows-place.result in
    let is : same_key c.args.key.now (row_key row) ≡ false = same_back (row_key row) c.args.key.now ∙ ap (λ k. same_key k c.args.key.now) (sym c.key.ensures) ∙ sym (eq_is_same c.key.result c.args.key.now) ∙ sym c.eq.ensures ∙ c.if-eq.false in
    none_yet c.args.key.now c.args.rows.now c.loop-place.place row c.loop-place.invariant c.loop-place-test.true c.index-rows-place.is is
