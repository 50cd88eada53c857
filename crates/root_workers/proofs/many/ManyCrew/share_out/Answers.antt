use Rattle.std.proofs.Common.{refl, sym, ◌∙◌, ap, length}
use Rattle.root_workers.proofs.Crewing.{shares_done, calls_done_by, grow_done, done_back}
use Rattle.root_workers.proofs.many.ManyCrew.share_out.Goals as goal

pub returns-clause-shares : goal.returns-clause-shares
returns-clause-shares g c =
    let e = c.deref_mut.ensures in
    let back = done_back c.args.self.now.table.now c.args.task.now c.args.moves.now c.deref_mut.result.now c.args.self.now.crew.now.items c.hand_out.new.crew c.args.self.now.crew.now.len e.value (sym e.len ∙ ap length e.value) c.hand_out.ensures.count c.hand_out.ensures.done in
    shares_done c.args.self.now.table.now c.args.task.now c.args.moves.now c.args.self.now.crew.now.items _ c.requires.ready.1 back.0 back.1

pub returns-clause-calls : goal.returns-clause-calls
returns-clause-calls g c =
    let e = c.deref_mut.ensures in
    let back = done_back c.args.self.now.table.now c.args.task.now c.args.moves.now c.deref_mut.result.now c.args.self.now.crew.now.items c.hand_out.new.crew c.args.self.now.crew.now.len e.value (sym e.len ∙ ap length e.value) c.hand_out.ensures.count c.hand_out.ensures.done in
    calls_done_by c.args.self.now.table.now c.args.task.now c.args.moves.now _ c.args.self.now _ c.args.self.now.crew.now.items _ c.requires.ready.1 back.0 back.1 (λ i xs made. (refl, refl, made))

pub returns-clause-grow : goal.returns-clause-grow
returns-clause-grow g c =
    let e = c.deref_mut.ensures in
    let back = done_back c.args.self.now.table.now c.args.task.now c.args.moves.now c.deref_mut.result.now c.args.self.now.crew.now.items c.hand_out.new.crew c.args.self.now.crew.now.len e.value (sym e.len ∙ ap length e.value) c.hand_out.ensures.count c.hand_out.ensures.done in
    grow_done c.args.self.now.table.now c.args.task.now c.args.moves.now _ c.args.self.now _ c.args.self.now.crew.now.items _ back.0 back.1 (λ i xs made. (refl, refl, made))
