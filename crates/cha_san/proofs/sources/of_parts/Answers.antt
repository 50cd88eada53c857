-- cha_san/proofs/sources/of_parts/Answers.antt
use Rattle.cha_san.proofs.Sourced.{parts_come_from}
use Rattle.cha_san.proofs.sources.of_parts.Goals as goal

pub returns : goal.returns
returns c =
    parts_come_from c.args.position.now c.args.parts.now c.side-side.result c.men.result c.comes_from.result c.common.result c.side-side.ensures c.men.ensures c.comes_from.ensures c.common.ensures
