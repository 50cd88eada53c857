use Rattle.std.proofs.Common.{◌≡◌, ◌≢◌, ◌<◌, true, sym, ap, subst, ◌∙◌}
use Rattle.std.proofs.lemmas.Bool.{and_parts}
use Rattle.cha_board.specs.declared.men.Color.{Color}
use Rattle.cha_board.specs.declared.men.Kind.TheVariants.{Pawn}
use Rattle.cha_board.specs.Men.{other_color}
use Rattle.cha_board.specs.Squares.{rank_of, last_rank, aims_at}
use Rattle.cha_moves.specs.Step.{Move}
use Rattle.cha_moves.specs.Moves.{is_target, is_en_passant}
use Rattle.cha_moves.proofs.Captured.{captures_ahead}
use Rattle.cha_moves.proofs.changes.men_made.Goals as goal

pub captured_on-captured-requires : goal.captured_on-captured-requires
unfolding is_en_passant
captured_on-captured-requires c =
    let q = c.args.position.now in
    let m = c.m.inside in
    let goes : is_en_passant q m.from m.to ≡ true = sym c.goes_en_passant.ensures ∙ c.if-goes_en_passant.true in
    let aims = (and_parts (aims_at q.side Pawn m.from m.to) (is_target q.target m.to) goes).0 in
    let small : m.from < 64 = subst (λ n. n < 64) (sym (ap (λ (k : Move). k.from) c.m.view_is)) c.known.ensures.from in
    let same : m.to ≡ c.m-then-goes_en_passant.inside.to = ap (λ (k : Move). k.to) c.m.view_is ∙ sym (ap (λ (k : Move). k.to) c.m-then-goes_en_passant.view_is) in
    let P : Color → Type 0 = λ side. rank_of m.to ≢ last_rank (other_color side) in
    let ahead : P c.side-side.result = subst P (sym c.side-side.ensures) (captures_ahead q.side m.from m.to small aims) in
    subst (λ t. rank_of t ≢ last_rank (other_color c.side-side.result)) same ahead
