use Rattle.std.proofs.Common.{◌∙◌, subst, ap}
use Rattle.shard_table.specs.Tables.{TakesTurn, OthersStay, shard_number}
use Rattle.shard_table.proofs.OneEntry.{turn_first}
use Rattle.shard_table.proofs.turns.turn.Goals as goal

pub returns-clause-turned : goal.returns-clause-turned
returns-clause-turned g c =
    subst (λ k. TakesTurn k c.args.table.now c.args.pass.now c.args.call c.turn_at.result c.turn_at.new.pass) (c.shard_of-shard.ensures.number ∙ ap shard_number c.requires.key) c.turn_at.ensures.turned

pub returns-clause-others : goal.returns-clause-others
returns-clause-others g c = subst (λ k. OthersStay k c.args.pass.now c.turn_at.new.pass) (c.shard_of-shard.ensures.number ∙ ap shard_number c.requires.key) c.turn_at.ensures.others

pub returns-clause-first : goal.returns-clause-first
returns-clause-first g c =
    let same = c.shard_of-shard.ensures.number ∙ ap shard_number c.requires.key in
    turn_first c.args.table.now c.args.pass.now c.turn_at.new.pass c.args.call c.turn_at.result
    (subst (λ k. TakesTurn k c.args.table.now c.args.pass.now c.args.call c.turn_at.result c.turn_at.new.pass) same c.turn_at.ensures.turned)
    (subst (λ k. OthersStay k c.args.pass.now c.turn_at.new.pass) same c.turn_at.ensures.others)
