use Rattle.std.proofs.Common.{◌∙◌}
use Rattle.cha_board.specs.Men.{is_kind}
use Rattle.cha_board.specs.Board.{man_at}
use Rattle.cha_board.specs.SquareSets.{set_joined}
use Rattle.cha_board.proofs.PackedWords.{three_joined}
use Rattle.cha_board.proofs.packed.of_kinds.Goals as goal

pub returns : goal.returns
returns c =
    let men = c.args.men.now in
    let first = c.joined-first.ensures ∙ (λ i. set_joined (c.all_of_kind.ensures i) (c.all_of_kind-2.ensures i)) in
    c.joined.ensures ∙ (λ i. set_joined (first i) (c.all_of_kind-3.ensures i))
    ∙ three_joined (λ s. is_kind c.args.one (man_at men s)) (λ s. is_kind c.args.two (man_at men s)) (λ s. is_kind c.args.three (man_at men s))
