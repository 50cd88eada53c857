use Rattle.std.proofs.Common.{refl, sym, ◌∙◌, subst}
use Rattle.shard_table.specs.Makes.{Makes}
use Rattle.shard_table.specs.Tables.{IsOfTable}
use Rattle.shard_table.specs.declared.table.Table.{Table}
use Rattle.shard_table.specs.declared.table.TablePass.{TablePass}
use Rattle.root_workers.proofs.Crewing.{calls_keep, calls_seen}
use Rattle.root_workers.proofs.many.work_on.Goals as goal

pub shape_of-worker : goal.shape_of-worker
shape_of-worker g c = sym (calls_keep _ (λ s. s.pass.ghost_name) c.new-facts.result c.share_of.new.facts c.args.task.now c.args.moves.now c.args.worker.now.number c.args.count c.share_of.result (λ xs made. made.1) c.share_of.ensures.calls ∙ c.new-facts.ensures.same_pass)

pub returns : goal.returns
returns g c =
    let same = calls_keep _ (λ s. s.table.now) c.new-facts.result c.share_of.new.facts c.args.task.now c.args.moves.now c.args.worker.now.number c.args.count c.share_of.result (λ xs made. made.0) c.share_of.ensures.calls in
    record {
      done = record {
        number = refl;
        of = subst (λ (t : Table). IsOfTable t c.share_of.new.facts.pass.now) (same ∙ c.new-facts.ensures.table) c.share_of.ensures.stays_ready;
        share = c.share_of.ensures.share;
        calls = calls_seen _ Makes c.new-facts.result c.share_of.new.facts c.args.worker.now.pass c.share_of.new.facts.pass.now c.args.task.now c.args.moves.now c.args.worker.now.number c.args.count c.share_of.result
            (λ xs made. subst (λ (p : TablePass). Makes p xs c.share_of.new.facts.pass.now) c.new-facts.ensures.state made.2) c.share_of.ensures.calls;
      };
    }
