use Rattle.std.proofs.Common.{◌∙◌, subst}
use Rattle.cha_fact.specs.declared.calls.FactCall.TheVariants.{Probe as Asked}
use Rattle.cha_fact.specs.declared.calls.FactReply.TheVariants.{Probed}
use Rattle.cha_fact.specs.declared.calls.Probe.TheVariants.{Found, Miss, Refused}
use Rattle.shard_table.specs.Shards.{empty}
use Rattle.shard_table.specs.Tables.{TakesTurn, pass_at, shard_number}
use Rattle.shard_table.proofs.Turning.{no_stored, stays, finds, finds_key, true_of}
use Rattle.shard_table.proofs.Knowing.{knows_well}
use Rattle.shard_table.proofs.table.Table.probe.Goals as goal

pub unreachable-requires : goal.unreachable-requires
unreachable-requires g c =
    no_stored _ _ _ c.args.key.now c.in-Stored.field-0 (subst (λ r. TakesTurn (shard_number c.args.key.now) c.args.self.now c.args.pass.now (Asked c.args.key.now) r c.turn.new.pass) c.in-Stored.is c.turn.ensures.turned)

pub returns-in-Probed-Found-clause-key : goal.returns-in-Probed-Found-clause-key
returns-in-Probed-Found-clause-key g c =
    let k = shard_number c.args.key.now in
    finds_key (empty c.args.self.now.entries) (pass_at c.args.pass.now k) (pass_at c.turn.new.pass k) c.args.key.now (Found c.in-Probed-Found.row)
    (subst (λ r. TakesTurn k c.args.self.now c.args.pass.now (Asked c.args.key.now) (Probed r) c.turn.new.pass) c.in-Probed-Found.field-0-is c.in-Probed-Found.ensures.turned)

pub returns-in-Probed-Found-clause-exactly : goal.returns-in-Probed-Found-clause-exactly
returns-in-Probed-Found-clause-exactly g c =
    let k = shard_number c.args.key.now in
    finds (empty c.args.self.now.entries) (pass_at c.args.pass.now k) (pass_at c.turn.new.pass k) c.args.key.now (Found c.in-Probed-Found.row)
    (subst (λ r. TakesTurn k c.args.self.now c.args.pass.now (Asked c.args.key.now) (Probed r) c.turn.new.pass) c.in-Probed-Found.field-0-is c.in-Probed-Found.ensures.turned)

pub returns-in-Probed-Found-clause-stays : goal.returns-in-Probed-Found-clause-stays
returns-in-Probed-Found-clause-stays g c =
    let k = shard_number c.args.key.now in
    stays (empty c.args.self.now.entries) (pass_at c.args.pass.now k) (pass_at c.turn.new.pass k) c.args.key.now (Found c.in-Probed-Found.row)
    (subst (λ r. TakesTurn k c.args.self.now c.args.pass.now (Asked c.args.key.now) (Probed r) c.turn.new.pass) c.in-Probed-Found.field-0-is c.in-Probed-Found.ensures.turned)

pub returns-in-Probed-Miss-clause-exactly : goal.returns-in-Probed-Miss-clause-exactly
returns-in-Probed-Miss-clause-exactly g c =
    let k = shard_number c.args.key.now in
    finds (empty c.args.self.now.entries) (pass_at c.args.pass.now k) (pass_at c.turn.new.pass k) c.args.key.now Miss
    (subst (λ r. TakesTurn k c.args.self.now c.args.pass.now (Asked c.args.key.now) (Probed r) c.turn.new.pass) c.in-Probed-Miss.field-0-is c.in-Probed-Miss.ensures.turned)

pub returns-in-Probed-Miss-clause-stays : goal.returns-in-Probed-Miss-clause-stays
returns-in-Probed-Miss-clause-stays g c =
    let k = shard_number c.args.key.now in
    stays (empty c.args.self.now.entries) (pass_at c.args.pass.now k) (pass_at c.turn.new.pass k) c.args.key.now Miss
    (subst (λ r. TakesTurn k c.args.self.now c.args.pass.now (Asked c.args.key.now) (Probed r) c.turn.new.pass) c.in-Probed-Miss.field-0-is c.in-Probed-Miss.ensures.turned)

pub returns-in-Probed-Found-clause-holds : goal.returns-in-Probed-Found-clause-holds
returns-in-Probed-Found-clause-holds g c = λ q winner valid asked.
    true_of c.in-Probed-Found.row q winner c.known.ensures valid
    ((let k = shard_number c.args.key.now in
    finds_key (empty c.args.self.now.entries) (pass_at c.args.pass.now k) (pass_at c.turn.new.pass k) c.args.key.now (Found c.in-Probed-Found.row)
    (subst (λ r. TakesTurn k c.args.self.now c.args.pass.now (Asked c.args.key.now) (Probed r) c.turn.new.pass) c.in-Probed-Found.field-0-is c.in-Probed-Found.ensures.turned)) ∙ asked) c.fact-fact.ensures.holds

pub returns-in-Probed-Found-clause-knows : goal.returns-in-Probed-Found-clause-knows
returns-in-Probed-Found-clause-knows g c = knows_well c.args.self.now c.turn.new.pass c.turn.ensures.of

pub returns-in-Probed-Miss-clause-knows : goal.returns-in-Probed-Miss-clause-knows
returns-in-Probed-Miss-clause-knows g c = knows_well c.args.self.now c.turn.new.pass c.turn.ensures.of

pub returns-in-Probed-Refused-clause-exactly : goal.returns-in-Probed-Refused-clause-exactly
returns-in-Probed-Refused-clause-exactly g c =
    let k = shard_number c.args.key.now in
    finds (empty c.args.self.now.entries) (pass_at c.args.pass.now k) (pass_at c.turn.new.pass k) c.args.key.now Refused
    (subst (λ r. TakesTurn k c.args.self.now c.args.pass.now (Asked c.args.key.now) (Probed r) c.turn.new.pass) c.in-Probed-Refused.field-0-is c.in-Probed-Refused.ensures.turned)

pub returns-in-Probed-Refused-clause-stays : goal.returns-in-Probed-Refused-clause-stays
returns-in-Probed-Refused-clause-stays g c =
    let k = shard_number c.args.key.now in
    stays (empty c.args.self.now.entries) (pass_at c.args.pass.now k) (pass_at c.turn.new.pass k) c.args.key.now Refused
    (subst (λ r. TakesTurn k c.args.self.now c.args.pass.now (Asked c.args.key.now) (Probed r) c.turn.new.pass) c.in-Probed-Refused.field-0-is c.in-Probed-Refused.ensures.turned)

pub returns-in-Probed-Refused-clause-knows : goal.returns-in-Probed-Refused-clause-knows
returns-in-Probed-Refused-clause-knows g c = knows_well c.args.self.now c.turn.new.pass c.turn.ensures.of
