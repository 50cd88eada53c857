-- cha_san/proofs/resolving/with_move/Answers.antt
use Rattle.std.proofs.Common.{◌<◌, ◌↔◌, IsTrue, sym, subst, ◌∙◌, arith}
use Rattle.std.specs.List.{Contains}
use Rattle.cha_moves.specs.Step.{Move}
use Rattle.cha_moves.specs.Moves.{legal}
use Rattle.cha_san.proofs.Seeing.{with_named, without_named, no_fit, not_legal}
use Rattle.cha_san.proofs.resolving.with_move.Goals.{else-fits-via-then-fits+else-is_legal, else-fits-via-else-fits}
use Rattle.cha_san.proofs.resolving.with_move.Goals as goal

pub returns-then-is_legal : goal.returns-then-is_legal
returns-then-is_legal c =
    let m : Move = record { from = c.args.from; to = c.args.to; promotion = c.args.promotion } in
    with_named c.args.position.now c.args.form.now c.args.found c.and.result m (sym c.fits.ensures ∙ c.if-fits.true) (subst (λ (k : Move). Contains (legal c.args.position.now) k) c.m.view_is (c.is_legal.ensures.0 c.if-is_legal.true)) c.and.ensures

pub returns-else-fits : goal.returns-else-fits
returns-else-fits c =
    let q = c.args.position.now in
    let form = c.args.form.now in
    let m : Move = record { from = c.args.from; to = c.args.to; promotion = c.args.promotion } in
    let from : c.args.from < 64 = omega arith in
    let to : c.args.to < 64 = omega arith in
    elim c.else-fits.branch [
      | else-fits-via-then-fits+else-is_legal w ↦ without_named q form c.args.found m (not_legal q form m w.is_legal.result from to (subst (λ (k : Move). IsTrue w.is_legal.result ↔ Contains (legal q) k) c.m.view_is w.is_legal.ensures) w.if-is_legal.false)
      | else-fits-via-else-fits w ↦ without_named q form c.args.found m (no_fit q form m (sym c.fits.ensures ∙ w.if-fits.false))
    ]
