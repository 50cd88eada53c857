-- cha_san/proofs/resolving/resolve/Answers.antt
use Rattle.cha_san.proofs.Resolved.{says_nothing, Answers, answers_resolved, answers_none, answers_more, answers_one, answers_legal, answers_from}
use Rattle.cha_san.proofs.resolving.resolve.Goals.{After-only}
use Rattle.cha_san.proofs.resolving.resolve.Goals as goal

answers : (c : goal.After-only) → Answers c.args.position.now c.args.word.now c.in-Some.form c.only.result
answers c =
    answers_from c.args.position.now c.args.word.now c.in-Some.form c.only.result c.form.result c.found_for.result c.form.ensures c.in-Some.is c.found_for.ensures c.only.ensures

pub returns-in_default-clause-value : goal.returns-in_default-clause-value
returns-in_default-clause-value c = says_nothing c.args.position.now c.args.word.now c.form.result c.form.ensures c.in_default.is

pub returns-clause-value : goal.returns-clause-value
returns-clause-value c = answers_resolved c.args.position.now c.args.word.now c.in-Some.form c.only.result (answers c)

pub returns-clause-no_such_move : goal.returns-clause-no_such_move
returns-clause-no_such_move c = answers_none c.args.position.now c.args.word.now c.in-Some.form c.only.result (answers c)

pub returns-clause-ambiguous : goal.returns-clause-ambiguous
returns-clause-ambiguous c = answers_more c.args.position.now c.args.word.now c.in-Some.form c.only.result (answers c)

pub returns-clause-one : goal.returns-clause-one
returns-clause-one c = answers_one c.args.position.now c.args.word.now c.in-Some.form c.only.result (answers c)

pub returns-clause-legal : goal.returns-clause-legal
returns-clause-legal c = answers_legal c.args.position.now c.args.word.now c.in-Some.form c.only.result (answers c)
