use Rattle.std.proofs.lemmas.Grind.{common_steps}
use Rattle.std.proofs.Common.{◌≡◌, rules, [], ◌∷◌, ◌++◌, ◌-◌, ◌+◌, drop, length, ◌∙◌, sym, ap, subst, arith}
use Rattle.std.proofs.lemmas.List.{length-append}
use Rattle.cert_text.specs.TextLines.{lines_of, tail_of}
use Rattle.cert_text.specs.Texts.{and_then, found}
use Rattle.cert_text.specs.SharedTexts.{sets_after, many_after}
use Rattle.cert_text.specs.Agreeing.{Agrees, seen}
use Rattle.cert_text.proofs.Many.{many_first, many_goes, many_done}
use Rattle.cert_text.proofs.shared_bodies.all_sets.Goals as goal

pub returns-in_err-sets-clause-said : goal.returns-in_err-sets-clause-said
returns-in_err-sets-clause-said c =
    let bytes = c.args.bytes.now in
    let then = tail_of (drop c.args.left.at bytes) in
    let lines = lines_of (drop c.loop-read.left.at bytes) in
    let k = c.args.count - (c.loop-read._read + 1) in
    let whole =
    many_first (sets_after then) _ c.loop-read.shared.sets k (c.args.count - c.loop-read._read) c.loop-read.left.number lines (omega arith) c.loop-read.invariant.said
    ∙ ap (λ tail. and_then (sets_after tail c.loop-read.left.number lines) (λ x. many_after (sets_after then) k (c.loop-read.shared.sets ++ x.value ∷ []) x.number x.lines)) (sym c.loop-read.invariant.tail) in
    subst (Agrees (λ read. seen bytes read.0.sets read.1) c.from_residual.result) (sym whole) (first_of (search rules, grind (arith, common_steps)))

pub loop-read-preserved : goal.loop-read-preserved
loop-read-preserved c =
    let bytes = c.args.bytes.now in
    let then = tail_of (drop c.args.left.at bytes) in
    let n = c.loop-read.left.number in
    let lines = lines_of (drop c.loop-read.left.at bytes) in
    let rest = lines_of (drop c.in_ok-sets.rest.at bytes) in
    let k = c.args.count - (c.loop-read._read + 1) in
    let here = subst (λ tail. sets_after tail n lines ≡ found c.in_ok-sets.sets c.in_ok-sets.rest.number rest) c.loop-read.invariant.tail c.in_ok-sets.ensures.said in
    let goes =
    many_goes (sets_after then) _ c.loop-read.shared.sets k (c.args.count - c.loop-read._read) n lines c.in_ok-sets.sets c.in_ok-sets.rest.number rest (omega arith) c.loop-read.invariant.said here in
    let grown = c.in_ok-add_sets.ensures.ok in
    record {
      size = ap (λ x. length x.sets) grown ∙ length-append c.loop-read.shared.sets (c.in_ok-sets.sets ∷ []) ∙ ap (λ k. k + 1) c.loop-read.invariant.size;
      no_nodes = ap (λ x. x.nodes) grown ∙ c.loop-read.invariant.no_nodes;
      inside = c.in_ok-sets.ensures.inside;
      tail = c.in_ok-sets.ensures.tail ∙ c.loop-read.invariant.tail;
      said = goes ∙ ap (λ xs. many_after (sets_after then) k xs c.in_ok-sets.rest.number rest) (sym (ap (λ x. x.sets) grown));
    }

pub returns-clause-said : goal.returns-clause-said
returns-clause-said c =
    many_done (sets_after (tail_of (drop c.args.left.at c.args.bytes.now))) _ c.loop-read.shared.sets 0 (c.args.count - c.loop-read._read) c.loop-read.left.number _ (omega arith) c.loop-read.invariant.said
