-- cha_san/proofs/sources/sources/Answers.antt
use Rattle.cha_san.proofs.Sourced.{short_comes_from, long_comes_from}
use Rattle.cha_san.proofs.sources.sources.Goals as goal

pub returns-in-Short : goal.returns-in-Short
returns-in-Short c = short_comes_from c.args.position.now c.args.form.now c.side.result c.men.result c.in-Short.is c.side.ensures c.men.ensures

pub returns-in-Long : goal.returns-in-Long
returns-in-Long c = long_comes_from c.args.position.now c.args.form.now c.side-in-Long.result c.men-in-Long.result c.in-Long.is c.side-in-Long.ensures c.men-in-Long.ensures
