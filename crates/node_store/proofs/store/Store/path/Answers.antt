use Rattle.std.proofs.Common.{◌<◌, ◌∙◌, arith}
use Rattle.node_store.proofs.Paths.{path_begins, path_more, path_whole, earlier}
use Rattle.node_store.proofs.store.Store.path.Goals as goal

pub loop-origin-init : goal.loop-origin-init
loop-origin-init c = record { within = c.requires; path = path_begins c.args.self.now.nodes c.args.name c.new-back.result.items c.requires c.new-back.ensures.items }

pub loop-origin-smaller : goal.loop-origin-smaller
loop-origin-smaller c = (earlier c.args.self.now.nodes c.loop-origin.at c.in-Some.ensures.comes.0 c.in-Some.origin c.in-Some.ensures.comes.2)

pub loop-origin-preserved : goal.loop-origin-preserved
loop-origin-preserved c = let less : c.in-Some.origin.parent < c.loop-origin.at = (earlier c.args.self.now.nodes c.loop-origin.at c.in-Some.ensures.comes.0 c.in-Some.origin c.in-Some.ensures.comes.2) in let within = c.loop-origin.invariant.within in record { within = omega arith; path = path_more c.args.self.now.nodes c.loop-origin.at c.args.name c.in-Some.origin c.loop-origin.back.items c.push.new.self.items c.in-Some.ensures.comes.0 c.in-Some.ensures.comes.1 c.in-Some.ensures.comes.2 c.in_ok-push.ensures.items c.loop-origin.invariant.path }

pub returns : goal.returns
returns c = path_whole c.args.self.now.nodes c.loop-origin.at c.args.name c.loop-origin.back.items c.from_vec.result c.in_default.ensures.comes.0 c.in_default.ensures.comes.2 (c.from_vec.ensures ∙ c.reverse.ensures.items) c.loop-origin.invariant.path
