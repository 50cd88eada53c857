-- cha_san/proofs/resolving/found_for/Answers.antt
use Rattle.std.proofs.Common.{◌<◌, sym, ap, ◌∙◌, arith}
use Rattle.std.specs.List.{filter, flat_map}
use Rattle.cha_moves.specs.Moves.{moves_from}
use Rattle.cha_san.specs.declared.found.Found.TheVariants.{Nothing}
use Rattle.cha_san.specs.Seen.{seen}
use Rattle.cha_san.specs.Sources.{names, target_of}
use Rattle.cha_san.proofs.Sourced.{from_sources}
use Rattle.cha_san.proofs.Seeing.{seen_next}
use Rattle.cha_san.proofs.resolving.found_for.Goals as goal

pub loop-from-init : goal.loop-from-init
loop-from-init c =
    let q = c.args.position.now in
    let target = c.target-to.ensures in
    let small : c.target-to.result < 64 = omega arith in
    let to : target_of q c.args.form.now < 64 = rw (← target) small in
    ap (seen Nothing) (from_sources q c.args.form.now c.into_iter-from-iterator.result to (c.into_iter-from-iterator.ensures.into_iter_gives ∙ c.sources-from-items.ensures))

pub loop-from-preserved : goal.loop-from-preserved
loop-from-preserved c =
    let q = c.args.position.now in
    let from = c.in-Some.from in
    let small : c.target-to.result < 64 = omega arith in
    let next = c.in-Some.ensures.steps.0 in
    seen_next q c.args.form.now c.loop-from.found c.with_moves-found.result _ _ _ from c.target-to.result c.loop-from.invariant next c.target-to.ensures small c.with_moves-found.ensures

pub returns : goal.returns
returns c =
    let q = c.args.position.now in
    let none = c.in-None.ensures.steps.0 in
    sym (ap (λ xs. seen c.loop-from.found (filter (names q c.args.form.now) (flat_map moves_from xs))) none) ∙ c.loop-from.invariant
