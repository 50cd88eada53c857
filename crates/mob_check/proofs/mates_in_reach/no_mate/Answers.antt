use Rattle.std.proofs.Common.{◌≡◌, not, sym, ap, ◌∙◌}
use Rattle.mob_check.specs.MatesInReach.{may_mate}
use Rattle.mob_check.specs.Scenes.{scene_of}
use Rattle.mob_check.proofs.ThreatsSeen.{none_from, none_test}
use Rattle.mob_check.proofs.mates_in_reach.no_mate.Goals as goal

pub returns : goal.returns
returns c =
    let p = c.args.position.now in
    let r = c.args.sets.now in
    let w = c.args.winner in
    let size = c.known.ensures.size in
    let same : not c.some_mate.result ≡ not (may_mate p r.rows (scene_of p r w)) =
    ap not (c.some_mate.ensures ∙ ap (λ rows. may_mate p rows c.of.result) c.rows.ensures.value ∙ ap (may_mate p r.rows) c.of.ensures) in
    (λ h. none_from p r w size (sym same ∙ h), λ none. same ∙ none_test p r w size none)
