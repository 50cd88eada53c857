use Rattle.std.proofs.Common.{refl, sym, ◌∙◌, ap, subst, arith, length, List}
use Rattle.cha_fact.specs.declared.fact.Fact.TheVariants.{Mate, NoneWithin}
use Rattle.cha_moves.specs.Step.{Move}
use Rattle.cha_moves.specs.Ends.{IsMatingLine}
use Rattle.cha_fact.proofs.Searching.{true_of_asked}
use Rattle.helpmate.proofs.deciding.decided.Goals as goal

pub returns-else-moves-gt-MOST_FOUND-clause-holds : goal.returns-else-moves-gt-MOST_FOUND-clause-holds
returns-else-moves-gt-MOST_FOUND-clause-holds c =
    let row = c.args.row.now in
    let mates : IsMatingLine c.args.position.now c.args.winner c.in-Mate.line =
    true_of_asked row.position row.position c.args.position.now row.winner c.args.winner row.fact (Mate c.in-Mate.line) c.known-2.ensures refl c.known.ensures c.requires c.fact.ensures.holds (sym c.fact.ensures.value ∙ c.in-Mate.is)
    in
    let L : List Move → Type 0 = λ l. IsMatingLine c.args.position.now c.args.winner l in
    let short = c.if-moves-gt-MOST_FOUND.false in
    let same = ap length c.of.ensures in
    (subst L (sym (c.of.ensures ∙ c.moves-moves.ensures.value)) mates, omega arith)

pub returns-else-within-depth-clause-holds : goal.returns-else-within-depth-clause-holds
returns-else-within-depth-clause-holds c = λ ms few line.
    let row = c.args.row.now in
    let enough = c.if-within-depth.false in
    true_of_asked row.position row.position c.args.position.now row.winner c.args.winner row.fact (NoneWithin c.in-NoneWithin.within) c.known-2.ensures refl c.known.ensures c.requires c.fact.ensures.holds (sym c.fact.ensures.value ∙ c.in-NoneWithin.is) ms (omega arith) line
