use Rattle.std.proofs.Common.{ap, ◌∙◌}
use Rattle.cha_board.specs.declared.men.Color.TheVariants.{White, Black}
use Rattle.cha_board.proofs.Contents.{set_is}
use Rattle.mob_sets.specs.Rows.{sets_of}
use Rattle.mob_check.specs.declared.groups.Group.TheVariants.{MenOf}
use Rattle.mob_check.specs.Reaches.{reach_of}
use Rattle.mob_check.proofs.RulesHold.{reached_is}
use Rattle.mob_check.proofs.closing.ground_of.Goals as goal

pub returns : goal.returns
returns c =
    let p = c.args.position.now in
    let r = c.args.sets.now in
    c.of.ensures (sets_of r) (c.loose.ensures.value ∙ set_is r.loose c.loose.ensures.width)
    (c.squares_of.ensures ∙ ap (λ rows. reach_of p rows (MenOf White)) c.rows-rows.ensures.value ∙ reached_is p r White c.known.ensures.size)
    (c.squares_of-2.ensures ∙ ap (λ rows. reach_of p rows (MenOf Black)) c.rows-rows.ensures.value ∙ reached_is p r Black c.known.ensures.size)
