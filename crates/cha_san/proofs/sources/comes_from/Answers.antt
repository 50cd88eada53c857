-- cha_san/proofs/sources/comes_from/Answers.antt
use Rattle.std.proofs.Common.{sym, ◌∙◌}
use Rattle.cha_san.proofs.Sourced.{pawn_comes_from, other_comes_from}
use Rattle.cha_san.proofs.sources.comes_from.Goals as goal

pub returns-then-is : goal.returns-then-is
returns-then-is c =
    pawn_comes_from c.args.side c.other.result c.args.kind c.args.to c.aims_alone-aims.result c.along.result c.joined.result c.other.ensures (sym c.is.ensures ∙ c.if-is.true) c.aims_alone-aims.ensures c.along.ensures c.joined.ensures

pub returns-else-is : goal.returns-else-is
returns-else-is c =
    other_comes_from c.args.side c.other.result c.args.kind c.args.to c.aims_alone-aims.result c.other.ensures (sym c.is.ensures ∙ c.if-is.false) c.aims_alone-aims.ensures
