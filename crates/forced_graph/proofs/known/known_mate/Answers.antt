use Rattle.std.proofs.Common.{[], ◌∷◌, sym, ◌∙◌, ap, subst}
use Rattle.cha_fact.specs.declared.key.Key.{Key}
use Rattle.cha_fact.specs.Entries.{probe_entry}
use Rattle.forced_graph.specs.Asking.{line_of_reply}
use Rattle.forced_graph.proofs.known.known_mate.Goals as goal

pub returns-in-Found-clause-asked : goal.returns-in-Found-clause-asked
returns-in-Found-clause-asked g c = (
  c.probe.result,
  subst (λ (k : Key). g.F.Facts.made c.args.facts.now (probe_entry k c.probe.result ∷ []) c.probe.new.self) c.of.ensures c.probe.ensures.entered,
  c.mate_of.ensures.value ∙ sym (ap line_of_reply c.in-Found.is),
)

pub returns-in-Miss-clause-asked : goal.returns-in-Miss-clause-asked
returns-in-Miss-clause-asked g c = (
  c.probe.result,
  subst (λ (k : Key). g.F.Facts.made c.args.facts.now (probe_entry k c.probe.result ∷ []) c.probe.new.self) c.of.ensures c.probe.ensures.entered,
  sym (ap line_of_reply c.in-Miss.is),
)

pub returns-in-Refused-clause-asked : goal.returns-in-Refused-clause-asked
returns-in-Refused-clause-asked g c = (
  c.probe.result,
  subst (λ (k : Key). g.F.Facts.made c.args.facts.now (probe_entry k c.probe.result ∷ []) c.probe.new.self) c.of.ensures c.probe.ensures.entered,
  sym (ap line_of_reply c.in-Refused.is),
)
