use Rattle.std.proofs.Common.{◌∷◌, [], ◌∙◌, ap}
use Rattle.cha_board.specs.declared.men.Color.TheVariants.{Black}
use Rattle.cha_board.specs.declared.men.Kind.TheVariants.{Pawn, Knight, Bishop, Rook, Queen, King}
use Rattle.cha_board.specs.Men.{is_of}
use Rattle.cha_board.specs.SquareSets.{bits_of_set}
use Rattle.cha_board.specs.Packing.{is_of_three, bits_where, state_number, words_of}
use Rattle.cha_board.proofs.position.Position.pack.Goals as goal

pub returns : goal.returns
unfolding words_of
returns c =
    let men = c.placement-men.ensures.value in
    let black = c.bits.ensures.value ∙ ap bits_of_set c.of_side.ensures ∙ ap (bits_where (is_of Black)) men in
    let first = c.bits-2.ensures.value ∙ ap bits_of_set c.of_kinds.ensures ∙ ap (bits_where (is_of_three Pawn Bishop Queen)) men in
    let second = c.bits-3.ensures.value ∙ ap bits_of_set c.of_kinds-2.ensures ∙ ap (bits_where (is_of_three Knight Bishop King)) men in
    let third = c.bits-4.ensures.value ∙ ap bits_of_set c.of_kinds-3.ensures ∙ ap (bits_where (is_of_three Rook Queen King)) men in
    let rest = c.state_word.ensures ∙ (λ i. state_number (c.side.ensures i) (c.rights.ensures i) (c.target.ensures i)) in
    λ i. black i ∷ first i ∷ second i ∷ third i ∷ rest i ∷ []
