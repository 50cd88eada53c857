use Rattle.std.proofs.Common.{List, ◌++◌, ap, ◌∙◌}
use Rattle.cha_moves.specs.Step.{Move}
use Rattle.forced_graph.proofs.Lines.{path_mates}
use Rattle.forced_graph.proofs.region.Region.line_by.Goals as goal

pub returns : goal.returns
returns c =
    let s = c.args.self.now in
    let rest = c.args.rest.now in
    record {
      mates = path_mates s.store.nodes s.root s.winner c.args.name c.in_ok-path.field-0 rest c.from_vec.result c.in_ok-path.ensures c.requires.root c.requires.mates
          (c.from_vec.ensures ∙ c.in_ok-extend_from_slice.ensures.items ∙ ap (λ (l : List Move). l ++ rest) c.into_vec-moves.ensures);
    }
