use Rattle.std.proofs.Common.{refl, ◌∙◌}
use Rattle.cha_moves.specs.Moves.{after}
use Rattle.cha_moves.proofs.Listed.{is_listed}
use Rattle.cha_moves.proofs.Validity.{after_is_valid}
use Rattle.cha_moves.proofs.afterwards.after_promotion.Goals as goal

pub of_parts-requires : goal.of_parts-requires
unfolding after
of_parts-requires c =
    let q = c.args.position.now in
    let m = c.args.m in
    let found = is_listed q m c.requires in
    rw (c.men_made.ensures, c.other.ensures, c.side.ensures, c.rights_made.ensures, c.rights.ensures, c.target_made.ensures) (after_is_valid q m c.known.ensures found.from found.to found.legal)

pub returns : goal.returns
unfolding after
returns c = c.of_parts.ensures ∙ rw (c.men_made.ensures, c.other.ensures, c.side.ensures, c.rights_made.ensures, c.rights.ensures, c.target_made.ensures) refl
