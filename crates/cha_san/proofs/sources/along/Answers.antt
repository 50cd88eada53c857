-- cha_san/proofs/sources/along/Answers.antt
use Rattle.cha_san.proofs.Sourced.{along_is}
use Rattle.cha_san.proofs.sources.along.Goals as goal

pub returns : goal.returns
returns c =
    along_is c.args.side c.other.result c.args.to c.rank.result c.aims_alone.result c.of_rank.result c.minus.result c.other.ensures c.aims_alone.ensures c.rank.ensures.value c.of_rank.ensures c.minus.ensures
