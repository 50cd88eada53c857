use Rattle.std.proofs.Common.{◌≡◌, ◌<◌, ◌==◌, ◌&&◌, not, refl, sym, ap, ◌∙◌, arith}
use Rattle.std.proofs.lemmas.Bool.{and_parts}
use Rattle.cha_board.specs.declared.men.Kind.TheVariants.{King}
use Rattle.cha_board.specs.declared.men.Man.{Man}
use Rattle.cha_board.specs.Men.{other_color}
use Rattle.cha_board.specs.Squares.{aims_at}
use Rattle.cha_board.specs.Board.{attacked}
use Rattle.cha_board.specs.SquareSets.{set_of, has_square, set_without}
use Rattle.cha_board.proofs.SetLaws.{has-set_of}
use Rattle.cha_moves.specs.Shields.{men_less}
use Rattle.cha_moves.proofs.Arriving.{Going}
use Rattle.cha_moves.proofs.Facing.{first_in}
use Rattle.cha_moves.proofs.GoingLegally.{king_goes, sifted_one, all_sifted}
use Rattle.cha_moves.proofs.Quiet.{castling_told, near_steps}
use Rattle.cha_moves.proofs.legally.sifted_of_king.Goals as goal

pub loop-to-init : goal.loop-to-init
loop-to-init c =
    let q = c.args.position.now in
    let s = c.args.from in
    let man : Man = record { color = c.args.side; kind = King } in
    let small : s < 64 = omega arith in
    let near : c.aims_alone.result ≡ set_of (aims_at q.side King s) = c.aims_alone.ensures ∙ ap (λ x. set_of (aims_at x King s)) c.requires.side in
    rw (c.into_iter-to-iterator.ensures.into_iter_gives ∙ c.common-to-items.ensures) (record {
      sifted = castling_told q s man c.args.ways c.aims_alone.result c.known.ensures small c.requires.man refl c.requires.ways near;
      near = λ t small h. near_steps q s t c.args.ways c.aims_alone.result small near h;
    })

pub loop-to-preserved : goal.loop-to-preserved
unfolding set_without
loop-to-preserved c =
    let q = c.args.position.now in
    let s = c.args.from in
    let t = c.in-Some.to in
    let man : Man = record { color = c.args.side; kind = King } in
    let from : s < 64 = omega arith in
    let to : t < 64 = omega arith in
    let next = c.in-Some.ensures.steps.0 in
    let inside = first_in c.loop-to.to-iterator t _ next in
    let going : Going q s t man = record { valid = c.known.ensures; from = from; to = to; found = c.requires.man; way = c.loop-to.invariant.sifted.ways t to inside } in
    let enemy = c.other.ensures ∙ ap other_color c.requires.side in
    let less = c.lifted-less.ensures ∙ rw c.placement.ensures.value refl in
    let safe = ap not (c.attacks.ensures ∙ ap (λ x. attacked x c.other.result t) less ∙ ap (λ x. attacked (men_less q s) x t) enemy) ∙ sym (king_goes q s t man going refl (c.loop-to.invariant.near t to inside)) in
    rw (c.in-Some.ensures.steps.1, c.placed-legal.ensures) (record {
      sifted = sifted_one q s t c.loop-to.to-iterator c.loop-to.legal (not c.attacks.result) to safe c.loop-to.invariant.sifted;
      near = λ u small h. c.loop-to.invariant.near u small (and_parts _ (has_square c.loop-to.to-iterator u) (sym (has-set_of (λ k. not (k == t) && has_square c.loop-to.to-iterator k) u small) ∙ h)).1;
    })

pub returns : goal.returns
returns c = all_sifted c.args.position.now c.args.from c.loop-to.to-iterator c.loop-to.legal c.loop-to.invariant.sifted c.in-None.ensures.steps.0
