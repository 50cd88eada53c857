use Rattle.std.proofs.Common.{◌≡◌, ◌<◌, ◌≤◌, ℕ, Bool, sym, ap, ◌∙◌, arith}
use Rattle.cha_board.specs.Men.{is_non_king}
use Rattle.cha_board.specs.Board.{man_at}
use Rattle.cha_board.specs.SquareSets.{has_square}
use Rattle.cha_board.proofs.SetLaws.{has-set_of}
use Rattle.mob_check.specs.Grounds.{reaches_from, is_reached, has_own}
use Rattle.mob_solve.specs.Reaching.{sets_in}
use Rattle.mob_check.proofs.Gathering.{gathers_none, gathers_joined, gathers_skipped, gathers_all}
use Rattle.mob_solve.proofs.ReachedBy.{reached_by, reached_not}
use Rattle.mob_solve.proofs.reached.reached_squares.Goals as goal
use Rattle.mob_solve.proofs.reached.reached_squares.Goals.{then-has, else-has}

pub loop-index-init : goal.loop-index-init
loop-index-init c = gathers_none (λ (o t : ℕ). reaches_from c.args.position.now (sets_in c.args.reach.now) c.args.side t o) c.empty-squares.result c.empty-squares.ensures

pub loop-index-preserved : goal.loop-index-preserved
unfolding has_own
loop-index-preserved c =
    let p = c.args.position.now in
    let s = sets_in c.args.reach.now in
    let side = c.args.side in
    let f : ℕ → ℕ → Bool = λ (o t : ℕ). reaches_from p s side t o in
    let small : c.at-origin.result < 64 = omega arith in
    let own : c.has.result ≡ has_own p side c.at-origin.result = c.has.ensures ∙ ap (λ x. has_square x c.at-origin.result) c.non_kings-own.ensures ∙ has-set_of (λ u. is_non_king side (man_at p.men u)) c.at-origin.result small in
    elim c.if-has.branch [
      | then-has w ↦ gathers_joined f c.loop-index.squares w.all_rows.result c.if-has.squares c.loop-index.index c.loop-index.invariant
          (λ t inside. reached_by p s side t c.at-origin.result c.loop-index.index w.all_rows.result c.at-origin.ensures inside w.all_rows.ensures (sym own ∙ w.if-has.true))
          (w.squares-is ∙ w.joined-squares.ensures)
      | else-has w ↦ gathers_skipped f c.loop-index.squares c.if-has.squares c.loop-index.index c.loop-index.invariant
          (λ t inside. reached_not p s side t c.at-origin.result c.loop-index.index c.at-origin.ensures (sym own ∙ w.if-has.false))
          w.squares-is
    ]

pub returns : goal.returns
unfolding is_reached
returns c =
    let end : 64 ≤ c.loop-index.index = omega arith in
    let below : c.loop-index.index ≤ 64 = omega arith in
    gathers_all (λ (o t : ℕ). reaches_from c.args.position.now (sets_in c.args.reach.now) c.args.side t o) c.loop-index.squares c.loop-index.index c.loop-index.invariant end below
