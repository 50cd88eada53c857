use Rattle.std.proofs.Common.{refl, List, sym, ◌∙◌, subst}
use Rattle.cha_fact.specs.declared.fact.Fact.TheVariants.{Mate}
use Rattle.cha_moves.specs.Step.{Move}
use Rattle.cha_moves.specs.Ends.{IsMatingLine}
use Rattle.cha_fact.proofs.Searching.{true_of_asked}
use Rattle.forced_graph.proofs.known.mate_of.Goals as goal

pub returns-in-Mate-clause-mates : goal.returns-in-Mate-clause-mates
returns-in-Mate-clause-mates c =
    let row = c.args.row.now in
    let L : List Move → Type 0 = λ l. IsMatingLine c.args.position.now c.args.winner l in
    subst L (sym (c.of.ensures ∙ c.moves.ensures.value))
    (true_of_asked row.position row.position c.args.position.now row.winner c.args.winner row.fact (Mate c.in-Mate.line) c.known-2.ensures refl c.known.ensures c.requires c.fact.ensures.holds (sym c.fact.ensures.value ∙ c.in-Mate.is))
