use Rattle.std.proofs.Common.{refl, ap, ◌∙◌}
use Rattle.cha_moves.specs.Step.{Move}
use Rattle.cha_moves.specs.Moves.{after}
use Rattle.cha_moves.proofs.Listed.{is_listed}
use Rattle.cha_moves.proofs.Validity.{after_is_valid}
use Rattle.cha_moves.proofs.afterwards.after_castling.Goals as goal

pub of_parts-requires : goal.of_parts-requires
unfolding after
of_parts-requires c =
    let q = c.args.position.now in
    let m = c.args.m in
    let found = is_listed q m c.requires.legal in
    let from = ap (λ (m : Move). m.from) c.m.view_is in
    let to = ap (λ (m : Move). m.to) c.m.view_is in
    rw (c.moved.ensures, c.corner.ensures, c.crossing.ensures, c.moved-gone.ensures, from, to, c.placement.ensures.value, c.other.ensures, c.requires.side, c.rights_made.ensures, c.rights.ensures, c.requires.target, ← c.requires.men) (after_is_valid q m c.known.ensures found.from found.to found.legal)

pub returns : goal.returns
unfolding after
returns c =
    let from = ap (λ (m : Move). m.from) c.m.view_is in
    let to = ap (λ (m : Move). m.to) c.m.view_is in
    c.of_parts.ensures ∙ rw (c.moved.ensures, c.corner.ensures, c.crossing.ensures, c.moved-gone.ensures, from, to, c.placement.ensures.value, c.other.ensures, c.requires.side, c.rights_made.ensures, c.rights.ensures, c.requires.target, ← c.requires.men) refl
