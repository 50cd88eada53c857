use Rattle.std.proofs.Common.{◌≡◌, List, Option, refl, ap, ◌∙◌}
use Rattle.cha_board.specs.declared.men.Man.{Man}
use Rattle.cha_board.specs.declared.placement.Men.TheInside.{Inside}
use Rattle.cha_board.specs.SquareSets.{set_joined, set_minus}
use Rattle.cha_board.specs.MenSets.{sets_of}
use Rattle.cha_board.specs.Packing.{AreShown}
use Rattle.cha_board.proofs.Showing.{shown_sets, sets_shown}
use Rattle.cha_board.proofs.Tidiness.{sets_are_tidy, sets_show, same_inside}
use Rattle.cha_board.proofs.placement.Men.of_four.Goals as goal
use Rattle.cha_board.proofs.placement.Men.of_four.Goals.{After-common-3}

abbrev made : After-common-3 → Inside
made c = record {
  white = c.minus.result;
  black = c.args.black;
  pawns = c.minus-2.result;
  knights = c.minus-3.result;
  bishops = c.common.result;
  rooks = c.minus-4.result;
  queens = c.common-2.result;
  kings = c.common-3.result;
}

made_so : (c : After-common-3) → made c ≡ shown_sets c.args.black c.args.first c.args.second c.args.third
made_so c =
    same_inside (made c) (shown_sets c.args.black c.args.first c.args.second c.args.third)
    (c.minus.ensures ∙ ap (λ x. set_minus x c.args.black) (c.joined-2.ensures ∙ ap (λ x. set_joined x c.args.third) c.joined.ensures))
    refl
    (c.minus-2.ensures ∙ ap (set_minus c.args.first) c.joined-3.ensures)
    (c.minus-3.ensures ∙ ap (set_minus c.args.second) c.joined-4.ensures)
    c.common.ensures
    (c.minus-4.ensures ∙ ap (set_minus c.args.third) c.joined-5.ensures)
    c.common-2.ensures
    c.common-3.ensures

are_sets : (c : After-common-3) (men : List (Option Man)) → AreShown c.args.black c.args.first c.args.second c.args.third men → made c ≡ sets_of men
are_sets c men shown = made_so c ∙ sets_shown c.args.black c.args.first c.args.second c.args.third men shown

pub invariant_of-result : goal.invariant_of-result
invariant_of-result c = sets_are_tidy (made c) c.requires.shown.0 c.requires.shown.1.size (are_sets c c.requires.shown.0 c.requires.shown.1)

pub returns : goal.returns
returns c = λ men shown. sets_show (made c) men shown.size (are_sets c men shown)
