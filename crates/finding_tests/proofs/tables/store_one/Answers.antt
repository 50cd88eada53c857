use Rattle.shard_table.proofs.OneEntry.{first_both, makes_first}
use Rattle.finding_tests.proofs.tables.store_one.Goals as goal

pub returns-in-Some-known_at-clause-first : goal.returns-in-Some-known_at-clause-first
returns-in-Some-known_at-clause-first g c = first_both c.args.pass.now c.store.new.pass c.known_at.new.pass c.store.ensures.first (makes_first c.store.new.pass c.known_at.new.pass _ c.known_at.ensures.made.1)

pub returns-in-None-clause-first : goal.returns-in-None-clause-first
returns-in-None-clause-first g c = first_both c.args.pass.now c.store.new.pass c.known_at.new.pass c.store.ensures.first (makes_first c.store.new.pass c.known_at.new.pass _ c.known_at.ensures.made.1)
