use Rattle.std.proofs.Common.{◌≡◌, ◌≢◌, sym, refl, ap, subst, ◌∙◌}
use Rattle.std.proofs.lemmas.Bool.{and_parts}
use Rattle.cha_board.specs.declared.men.Color.{Color}
use Rattle.cha_board.specs.declared.men.Kind.TheVariants.{Pawn}
use Rattle.cha_board.specs.Men.{other_color}
use Rattle.cha_board.specs.Squares.{rank_of, last_rank, aims_at}
use Rattle.cha_moves.specs.Step.{Move}
use Rattle.cha_moves.specs.Moves.{is_target, is_en_passant, men_after, after}
use Rattle.cha_moves.proofs.Alone.{passes, passes_no_target}
use Rattle.cha_moves.proofs.Captured.{captures_ahead}
use Rattle.cha_moves.proofs.Listed.{is_listed}
use Rattle.cha_moves.proofs.Validity.{after_is_valid}
use Rattle.cha_moves.proofs.afterwards.after_passing.Goals as goal

pub captured_on-captured-requires : goal.captured_on-captured-requires
unfolding is_en_passant
captured_on-captured-requires c =
    let q = c.args.position.now in
    let m = c.args.m in
    let aims = (and_parts (aims_at q.side Pawn m.from m.to) (is_target q.target m.to) c.requires.passing).0 in
    let P : Color → Type 0 = λ side. rank_of m.to ≢ last_rank (other_color side) in
    let ahead : P c.args.side = subst P (sym c.requires.side) (captures_ahead q.side m.from m.to c.known-2.ensures.from aims) in
    subst (λ t. rank_of t ≢ last_rank (other_color c.args.side)) (sym (ap (λ (k : Move). k.to) c.m.view_is)) ahead

pub of_parts-requires : goal.of_parts-requires
unfolding after
of_parts-requires c =
    let q = c.args.position.now in
    let m = c.args.m in
    let found = is_listed q m c.requires.legal in
    let from = ap (λ (m : Move). m.from) c.m.view_is in
    let to = ap (λ (m : Move). m.to) c.m.view_is in
    let men : c.lifted-men.result ≡ men_after q m = rw (c.lifted-men.ensures, c.moved.ensures, c.captured_on-captured.ensures, from, to, c.placement.ensures.value, c.requires.side) (sym (passes q m c.requires.man c.requires.plain c.requires.passing)) in
    rw (men, c.other.ensures, c.requires.side, c.rights_made-rights.ensures, c.rights.ensures, passes_no_target q m c.requires.passing) (after_is_valid q m c.known.ensures found.from found.to found.legal)

pub returns : goal.returns
unfolding after
returns c =
    let q = c.args.position.now in
    let m = c.args.m in
    let from = ap (λ (m : Move). m.from) c.m.view_is in
    let to = ap (λ (m : Move). m.to) c.m.view_is in
    let men : c.lifted-men.result ≡ men_after q m = rw (c.lifted-men.ensures, c.moved.ensures, c.captured_on-captured.ensures, from, to, c.placement.ensures.value, c.requires.side) (sym (passes q m c.requires.man c.requires.plain c.requires.passing)) in
    c.of_parts.ensures ∙ rw (men, c.other.ensures, c.requires.side, c.rights_made-rights.ensures, c.rights.ensures, passes_no_target q m c.requires.passing) refl
