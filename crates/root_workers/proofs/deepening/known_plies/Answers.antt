use Rattle.std.proofs.Common.{refl, sym, ◌∙◌}
use Rattle.cha_fact.specs.declared.fact.Fact.TheVariants.{NoneWithin}
use Rattle.cha_fact.proofs.Searching.{true_of_asked}
use Rattle.root_workers.proofs.deepening.known_plies.Goals as goal

pub returns-in-NoneWithin-clause-none : goal.returns-in-NoneWithin-clause-none
returns-in-NoneWithin-clause-none c =
    let row = c.args.row.now in
    true_of_asked row.position row.position c.args.position.now row.winner c.args.winner row.fact (NoneWithin c.in-NoneWithin.within) c.known-2.ensures refl c.known.ensures c.requires.key c.fact.ensures.holds (sym c.fact.ensures.value ∙ c.in-NoneWithin.is)
