use Rattle.mob_sets.specs.Rows.{sets_of}
use Rattle.mob_solve.proofs.Entered.{joined_grows, joined_has, joined_within}
use Rattle.mob_solve.proofs.entering.enter_row.Goals as goal

pub returns-clause-grows : goal.returns-clause-grows
returns-clause-grows c = joined_grows (sets_of c.args.sets.now) (sets_of c.join.new.self) c.args.origin c.args.kind c.args.squares c.in_ok-join.ensures.ok

pub returns-clause-all : goal.returns-clause-all
returns-clause-all c = joined_has (sets_of c.args.sets.now) (sets_of c.join.new.self) c.args.origin c.args.kind c.args.squares c.in_ok-join.ensures.ok

pub returns-clause-inside : goal.returns-clause-inside
returns-clause-inside c = λ r given within.
    joined_within (sets_of c.args.sets.now) (sets_of c.join.new.self) r c.args.origin c.args.kind c.args.squares c.in_ok-join.ensures.ok given within
