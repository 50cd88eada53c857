use Rattle.std.proofs.Common.{◌≡◌, ◌∷◌, Some, None, refl, sym, ap, ◌∙◌, subst}
use Rattle.std.specs.Map.{lookup}
use Rattle.cha_fact.specs.contracts.key.KeyPartialEq.TheImpl.{eq-value}
use Rattle.shard_table.specs.ShardRows.{row_key, AreKeyed, rows_of}
use Rattle.shard_table.specs.Shards.{without}
use Rattle.shard_table.proofs.Keying.{eq_is_same}
use Rattle.shard_table.proofs.Rowing.{lookup_row, entry_of, promoted_rows}
use Rattle.shard_table.proofs.cached.probe.Goals as goal

pub returns-in-Ok-clause-keyed : goal.returns-in-Ok-clause-keyed
returns-in-Ok-clause-keyed c =
    let k = c.args.key.now in
    let es = c.args.cache.now.entries in
    let found : lookup (eq-value.it k) es ≡ Some c.in-Some.row.now = sym c.in-Some.ensures in
    let moved = promoted_rows (eq-value.it k) k (eq_is_same k) es c.in-Some.row.now c.requires found in
    subst AreKeyed (ap (λ s. s.entries) (sym c.promote.ensures.entries)) moved.1

pub returns-in-Ok-clause-reply : goal.returns-in-Ok-clause-reply
returns-in-Ok-clause-reply c =
    let k = c.args.key.now in
    let es = c.args.cache.now.entries in
    let found : lookup (eq-value.it k) es ≡ Some c.in-Some.row.now = sym c.in-Some.ensures in
    let moved = promoted_rows (eq-value.it k) k (eq_is_same k) es c.in-Some.row.now c.requires found in
    let same = sym c.in-Ok.ensures.value in (
      sym (lookup_row (eq-value.it k) k (eq_is_same k) es c.requires) ∙ found ∙ ap Some same,
      ap (λ s. rows_of s.entries) c.promote.ensures.entries ∙ moved.0 ∙ (λ i. same i ∷ without k (rows_of es)),
    )

pub returns-in-Ok-clause-of_key : goal.returns-in-Ok-clause-of_key
returns-in-Ok-clause-of_key c =
    let k = c.args.key.now in
    let es = c.args.cache.now.entries in
    let found : lookup (eq-value.it k) es ≡ Some c.in-Some.row.now = sym c.in-Some.ensures in
    ap row_key c.in-Ok.ensures.value ∙ (entry_of (eq-value.it k) k (eq_is_same k) es c.in-Some.row.now c.requires found).1

pub returns-in-None-clause-reply : goal.returns-in-None-clause-reply
returns-in-None-clause-reply c =
    let k = c.args.key.now in
    let es = c.args.cache.now.entries in
    let found : lookup (eq-value.it k) es ≡ None = sym c.in-None.ensures in
    (sym (lookup_row (eq-value.it k) k (eq_is_same k) es c.requires) ∙ found, refl)

pub returns-in_default-clause-reply : goal.returns-in_default-clause-reply
returns-in_default-clause-reply c =
    let k = c.args.key.now in
    let es = c.args.cache.now.entries in
    let found : lookup (eq-value.it k) es ≡ Some c.in-Some.row.now = sym c.in-Some.ensures in
    ((c.in-Some.row.now, sym (lookup_row (eq-value.it k) k (eq_is_same k) es c.requires) ∙ found, c.in_default.ensures.refused refl), refl)
