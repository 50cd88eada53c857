use Rattle.std.proofs.Common.{sym, subst, ◌∙◌}
use Rattle.cha_board.specs.Board.{IsValid}
use Rattle.cha_board.proofs.Keeping.{words_show, word_small, shown_again}
use Rattle.cha_board.proofs.kept.Kept.position.Goals as goal

pub of_four-men-requires : goal.of_four-men-requires
of_four-men-requires c = record {
  shown = (c.self.inside.of.value.men, words_show c.self.inside.of.value c.self.inside.packed.words _ _ _ _ c.self.invariant.0 c.self.invariant.1 c.from_bits.ensures c.from_bits-2.ensures c.from_bits-3.ensures c.from_bits-4.ensures);
}

pub state_of-state-requires : goal.state_of-state-requires
state_of-state-requires c = word_small c.self.inside.of.value c.self.inside.packed.words c.self.invariant.0 c.self.invariant.1

pub of_parts-requires : goal.of_parts-requires
of_parts-requires c =
    let men = c.of_four-men.ensures c.self.inside.of.value.men (words_show c.self.inside.of.value c.self.inside.packed.words _ _ _ _ c.self.invariant.0 c.self.invariant.1 c.from_bits.ensures c.from_bits-2.ensures c.from_bits-3.ensures c.from_bits-4.ensures) in
    subst IsValid (sym (shown_again c.self.inside.of.value c.self.inside.packed.words _ _ _ _ c.self.invariant.1 men c.state_of-state.ensures)) c.self.invariant.0

pub returns : goal.returns
returns c =
    let men = c.of_four-men.ensures c.self.inside.of.value.men (words_show c.self.inside.of.value c.self.inside.packed.words _ _ _ _ c.self.invariant.0 c.self.invariant.1 c.from_bits.ensures c.from_bits-2.ensures c.from_bits-3.ensures c.from_bits-4.ensures) in
    c.of_parts.ensures ∙ shown_again c.self.inside.of.value c.self.inside.packed.words _ _ _ _ c.self.invariant.1 men c.state_of-state.ensures ∙ c.self.view_is
