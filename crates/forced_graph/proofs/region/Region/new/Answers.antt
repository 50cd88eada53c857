use Rattle.std.proofs.Common.{List, [], ◌∷◌, ◌++◌, None, false, refl, ap, ◌∙◌}
use Rattle.cha_cert.specs.declared.nodes.Part.{Part}
use Rattle.cha_cert.specs.declared.nodes.Part.TheVariants.{Inner}
use Rattle.forced_graph.proofs.Popping.{begun}
use Rattle.forced_graph.proofs.region.Region.new.Goals as goal

pub returns-clause-between : goal.returns-clause-between
returns-clause-between c =
    let s = c.in_ok-store.store in
    begun c.args.root.now c.args.winner s.nodes (record { position = c.args.root.now; origin = None; leaf = false }) s.waiting c.push.new.self.items c.in_ok-store.ensures.nodes refl refl c.in_ok-store.ensures.waiting
    (c.in_ok-push.ensures.items ∙ ap (λ (l : List Part). l ++ Inner ∷ []) c.new-parts.ensures.items) c.requires
