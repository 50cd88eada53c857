use Rattle.std.proofs.Common.{◌-◌, [], Ok, sym, ◌∙◌, refl, subst, arith}
use Rattle.helpmate.specs.declared.answers.RoundAnswer.{RoundAnswer}
use Rattle.helpmate.specs.Rounds.{AreExpandedBy}
use Rattle.helpmate.proofs.Counting.{no_positions}
use Rattle.helpmate.proofs.Trying.{the_answer, asks_once, decides, undecided, missed, refused}
use Rattle.helpmate.proofs.rounds.looked.Goals as goal

pub returns-in-Some-clause-calls : goal.returns-in-Some-clause-calls
returns-in-Some-clause-calls g c =
    decides g.F.Facts.made c.args.facts.now c.ask.new.facts c.args.position.now c.args.winner c.args.depth (c.args.left.now - c.args.left.now) c.ask.result c.in-Found.row c.in-Some.answer (Ok c.in-Some.answer) c.ask.ensures.entered
    c.in-Found.is (sym c.decided.ensures.value ∙ c.in-Some.is) (omega arith) refl

pub returns-in-Found-clause-calls : goal.returns-in-Found-clause-calls
returns-in-Found-clause-calls g c =
    let positions = c.args.left.now - c.search_shallow.new.left in
    asks_once g.F.Facts.made c.args.facts.now c.ask.new.facts c.args.position.now c.args.winner c.args.depth positions c.ask.result (Ok c.search_shallow.result) c.ask.ensures.entered
    c.requires.few (λ a same.
    let A : RoundAnswer → Type 0 = λ x. AreExpandedBy [] c.args.position.now c.args.winner c.args.depth x positions in
    undecided c.args.position.now c.args.winner c.args.depth positions c.ask.result c.in-Found.row c.in-Found.is (sym c.decided.ensures.value ∙ c.in-None.is) [] a (subst A (the_answer c.search_shallow.result a (Ok c.search_shallow.result) refl same) c.search_shallow.ensures.counted))

pub returns-in-Miss-clause-calls : goal.returns-in-Miss-clause-calls
returns-in-Miss-clause-calls g c =
    let positions = c.args.left.now - c.search_shallow-in-Miss.new.left in
    asks_once g.F.Facts.made c.args.facts.now c.ask.new.facts c.args.position.now c.args.winner c.args.depth positions c.ask.result (Ok c.search_shallow-in-Miss.result) c.ask.ensures.entered
    c.requires.few (λ a same.
    let A : RoundAnswer → Type 0 = λ x. AreExpandedBy [] c.args.position.now c.args.winner c.args.depth x positions in
    missed c.args.position.now c.args.winner c.args.depth positions c.ask.result c.in-Miss.is [] a (subst A (the_answer c.search_shallow-in-Miss.result a (Ok c.search_shallow-in-Miss.result) refl same) c.search_shallow-in-Miss.ensures.counted))

pub returns-in-Some-clause-positions : goal.returns-in-Some-clause-positions
returns-in-Some-clause-positions g c = no_positions c.args.position.now c.args.depth (c.args.left.now - c.args.left.now) (omega arith)

pub returns-clause-calls : goal.returns-clause-calls
returns-clause-calls g c =
    let positions = c.args.left.now - c.search_shallow-in-Refused.new.left in
    asks_once g.F.Facts.made c.args.facts.now c.ask.new.facts c.args.position.now c.args.winner c.args.depth positions c.ask.result (Ok c.search_shallow-in-Refused.result) c.ask.ensures.entered
    c.requires.few (λ a same.
    let A : RoundAnswer → Type 0 = λ x. AreExpandedBy [] c.args.position.now c.args.winner c.args.depth x positions in
    refused c.args.position.now c.args.winner c.args.depth positions c.ask.result c.in-Refused.is [] a (subst A (the_answer c.search_shallow-in-Refused.result a (Ok c.search_shallow-in-Refused.result) refl same) c.search_shallow-in-Refused.ensures.counted))
