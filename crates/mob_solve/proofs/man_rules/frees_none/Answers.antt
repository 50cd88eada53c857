use Rattle.std.proofs.Common.{sym, ap, ◌∙◌}
use Rattle.std.proofs.lemmas.Bool.{OnTrue_from}
use Rattle.cha_board.specs.SquareSets.{set_common}
use Rattle.mob_check.specs.declared.ground.SideGround.{SideGround}
use Rattle.mob_check.specs.Grounds.{side_in}
use Rattle.mob_solve.specs.Reaching.{sets_in}
use Rattle.mob_solve.proofs.Empty.{freed_alone}
use Rattle.mob_solve.proofs.man_rules.frees_none.Goals as goal

pub returns : goal.returns
returns c =
    let g = c.args.ground.now in
    let other = c.side.ensures ∙ ap (side_in g) c.other.ensures in
    let prey = c.common.ensures ∙ ap (λ (s : SideGround). set_common g.fixed s.men) other in
    OnTrue_from c.is_empty.result _ (λ none.
    freed_alone g c.args.origin c.args.side c.args.kind (sets_in c.args.reach.now) c.common.result (sym c.is.ensures ∙ c.if-is.false) (sym c.has.ensures ∙ c.if-not-has.false) prey (sym c.is_empty.ensures ∙ none))
