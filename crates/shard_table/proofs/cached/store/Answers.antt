use Rattle.std.proofs.Common.{◌≤◌, ◌<◌, is_some, is_ok, refl, sym, ap, ◌∙◌, arith}
use Rattle.cha_fact.specs.contracts.key.KeyPartialEq.TheImpl.{eq-value}
use Rattle.cha_fact.specs.Truths.{rank_of}
use Rattle.shard_table.proofs.Keying.{eq_is_same}
use Rattle.shard_table.proofs.Storing.{is_false, is_true, nothing_goes, another_goes, own_goes, kept_there, found_between, better_there, new_keyed, added_there, evicted_there}
use Rattle.shard_table.proofs.cached.store.Goals as goal

pub returns-in-Ok-None-clause-keyed : goal.returns-in-Ok-None-clause-keyed
returns-in-Ok-None-clause-keyed c =
    let valid = c.len-len.ensures.valid in
    let none = nothing_goes eq-value.it eq_is_same c.args.cache.now c.args.row c.key-key.result (sym c.in-Ok-None.ensures.old ∙ c.in-Ok-None.field-0-is) in
    new_keyed eq-value.it eq_is_same c.args.cache.now c.requires c.args.row c.key-key.result c.key-key.ensures _ refl valid.1 valid.2 c.args.cache.now.cap refl c.push.new.self (ap (λ s. s.entries) c.in-Ok-None.ensures.entries) none

pub returns-in-Ok-None-clause-reply : goal.returns-in-Ok-None-clause-reply
returns-in-Ok-None-clause-reply c =
    let valid = c.len-len.ensures.valid in
    let gone = sym c.in-Ok-None.ensures.old ∙ c.in-Ok-None.field-0-is in
    let none = nothing_goes eq-value.it eq_is_same c.args.cache.now c.args.row c.key-key.result gone in
    added_there eq-value.it eq_is_same c.args.cache.now c.requires c.args.row c.key-key.result c.key-key.ensures _ refl valid.1 valid.2 c.args.cache.now.cap refl c.push.new.self (ap (λ s. s.entries) c.in-Ok-None.ensures.entries) none gone

pub returns-then-ne-clause-keyed : goal.returns-then-ne-clause-keyed
returns-then-ne-clause-keyed c =
    let valid = c.len-len.ensures.valid in
    let none = another_goes eq-value.it eq_is_same c.args.cache.now c.args.row c.key-key.result (c.in-Ok-Some.last, c.in-Ok-Some.old) (sym c.in-Ok-Some.ensures.old ∙ c.in-Ok-Some.field-0-is) (is_false _ (sym c.ne.ensures ∙ c.if-ne.true)) in
    new_keyed eq-value.it eq_is_same c.args.cache.now c.requires c.args.row c.key-key.result c.key-key.ensures _ refl valid.1 valid.2 c.args.cache.now.cap refl c.push.new.self (ap (λ s. s.entries) c.in-Ok-Some.ensures.entries) none

pub returns-then-ne-clause-reply : goal.returns-then-ne-clause-reply
returns-then-ne-clause-reply c =
    let valid = c.len-len.ensures.valid in
    let gone = sym c.in-Ok-Some.ensures.old ∙ c.in-Ok-Some.field-0-is in
    let none = another_goes eq-value.it eq_is_same c.args.cache.now c.args.row c.key-key.result (c.in-Ok-Some.last, c.in-Ok-Some.old) gone (is_false _ (sym c.ne.ensures ∙ c.if-ne.true)) in
    evicted_there eq-value.it eq_is_same c.args.cache.now c.requires c.args.row c.key-key.result c.key-key.ensures _ refl valid.1 valid.2 c.args.cache.now.cap refl c.push.new.self (ap (λ s. s.entries) c.in-Ok-Some.ensures.entries) none
    (c.in-Ok-Some.last, c.in-Ok-Some.old) gone

pub returns-then-rank-clause-keyed : goal.returns-then-rank-clause-keyed
returns-then-rank-clause-keyed c =
    let found = own_goes eq-value.it eq_is_same c.args.cache.now c.args.row c.key-key.result (c.in-Ok-Some.last, c.in-Ok-Some.old) (sym c.in-Ok-Some.ensures.old ∙ c.in-Ok-Some.field-0-is) (is_true _ (sym c.ne.ensures ∙ c.if-ne.false)) in
    let more : rank_of c.in-Ok-Some.old.fact < rank_of c.args.row.fact = omega (arith, c.rank.ensures, c.rank-rank.ensures, c.if-rank.true) in
    (better_there eq-value.it eq_is_same c.args.cache.now c.requires c.args.row c.key-key.result c.key-key.ensures _ refl c.args.cache.now.cap c.in-Ok-Some.old c.push.new.self found more (ap (λ s. s.entries) c.in-Ok-Some.ensures.entries)).1

pub returns-then-rank-clause-reply : goal.returns-then-rank-clause-reply
returns-then-rank-clause-reply c =
    let found = own_goes eq-value.it eq_is_same c.args.cache.now c.args.row c.key-key.result (c.in-Ok-Some.last, c.in-Ok-Some.old) (sym c.in-Ok-Some.ensures.old ∙ c.in-Ok-Some.field-0-is) (is_true _ (sym c.ne.ensures ∙ c.if-ne.false)) in
    let more : rank_of c.in-Ok-Some.old.fact < rank_of c.args.row.fact = omega (arith, c.rank.ensures, c.rank-rank.ensures, c.if-rank.true) in
    (better_there eq-value.it eq_is_same c.args.cache.now c.requires c.args.row c.key-key.result c.key-key.ensures _ refl c.args.cache.now.cap c.in-Ok-Some.old c.push.new.self found more (ap (λ s. s.entries) c.in-Ok-Some.ensures.entries)).0

pub unreachable-requires : goal.unreachable-requires
unreachable-requires c =
    let found = own_goes eq-value.it eq_is_same c.args.cache.now c.args.row c.key-key.result (c.in-Ok-Some.last, c.in-Ok-Some.old) (sym c.in-Ok-Some.ensures.old ∙ c.in-Ok-Some.field-0-is) (is_true _ (sym c.ne.ensures ∙ c.if-ne.false)) in
    let there = found_between eq-value.it eq_is_same c.args.cache.now c.requires c.args.row c.key-key.result c.key-key.ensures _ refl c.in-Ok-Some.old c.push.new.self found (ap (λ s. s.entries) c.in-Ok-Some.ensures.entries) in
    let done = c.put.ensures.succeeds (ap is_some there) in
    let both = sym done ∙ ap is_ok c.in_default.is in
    cc

pub returns-in-Ok-clause-keyed : goal.returns-in-Ok-clause-keyed
returns-in-Ok-clause-keyed c =
    let found = own_goes eq-value.it eq_is_same c.args.cache.now c.args.row c.key-key.result (c.in-Ok-Some.last, c.in-Ok-Some.old) (sym c.in-Ok-Some.ensures.old ∙ c.in-Ok-Some.field-0-is) (is_true _ (sym c.ne.ensures ∙ c.if-ne.false)) in
    let less : rank_of c.args.row.fact ≤ rank_of c.in-Ok-Some.old.fact = omega (arith, c.rank.ensures, c.rank-rank.ensures, c.if-rank.false) in
    (kept_there eq-value.it eq_is_same c.args.cache.now c.requires c.args.row c.key-key.result c.key-key.ensures _ refl c.in-Ok-Some.old c.push.new.self found (ap (λ s. s.entries) c.in-Ok-Some.ensures.entries) c.args.cache.now.cap c.put.new.self less (ap (λ s. s.entries) c.in-Ok.ensures.entries)).1

pub returns-in-Ok-clause-reply : goal.returns-in-Ok-clause-reply
returns-in-Ok-clause-reply c =
    let found = own_goes eq-value.it eq_is_same c.args.cache.now c.args.row c.key-key.result (c.in-Ok-Some.last, c.in-Ok-Some.old) (sym c.in-Ok-Some.ensures.old ∙ c.in-Ok-Some.field-0-is) (is_true _ (sym c.ne.ensures ∙ c.if-ne.false)) in
    let less : rank_of c.args.row.fact ≤ rank_of c.in-Ok-Some.old.fact = omega (arith, c.rank.ensures, c.rank-rank.ensures, c.if-rank.false) in
    (kept_there eq-value.it eq_is_same c.args.cache.now c.requires c.args.row c.key-key.result c.key-key.ensures _ refl c.in-Ok-Some.old c.push.new.self found (ap (λ s. s.entries) c.in-Ok-Some.ensures.entries) c.args.cache.now.cap c.put.new.self less (ap (λ s. s.entries) c.in-Ok.ensures.entries)).0
