use Rattle.std.proofs.Common.{◌≡◌, ◌<◌, Bool, List, Option, length, None, Some, slice_set, refl, sym, ap, ◌∙◌, false, arith}
use Rattle.std.proofs.Common.{length-set}
use Rattle.cha_board.specs.declared.men.Man.{Man}
use Rattle.cha_board.specs.declared.men.Color.TheVariants.{White, Black}
use Rattle.cha_board.specs.declared.men.Kind.TheVariants.{Pawn, Knight, Bishop, Rook, Queen, King}
use Rattle.cha_board.specs.Men.{is_of, is_kind}
use Rattle.cha_board.specs.Board.{man_at}
use Rattle.cha_board.specs.SquareSets.{set_of, has_square, set_placed}
use Rattle.cha_board.specs.MenSets.{sets_of}
use Rattle.cha_board.specs.declared.placement.Men.TheInside.{Inside}
use Rattle.cha_board.proofs.Identity.{empty_is_none}
use Rattle.cha_board.proofs.Tidiness.{sets_are_tidy, sets_show, tidy, length-men_in, placed_all, same_inside}
use Rattle.cha_board.proofs.Moving.{stands_so, sets_moved}
use Rattle.cha_board.proofs.placement.Men.stepped.Goals as goal
use Rattle.cha_board.proofs.placement.Men.stepped.Goals.{After-gone_on-8}

abbrev made : After-gone_on-8 → Inside
made c = record {
  white = c.gone_on.result;
  black = c.gone_on-2.result;
  pawns = c.gone_on-3.result;
  knights = c.gone_on-4.result;
  bishops = c.gone_on-5.result;
  rooks = c.gone_on-6.result;
  queens = c.gone_on-7.result;
  kings = c.gone_on-8.result;
}

size : (c : After-gone_on-8) → length c.args.self.now ≡ 64
size c = ap length (sym c.self.view_is) ∙ length-men_in c.self.inside

the_same : (c : After-gone_on-8) → c.self.inside ≡ sets_of c.args.self.now
the_same c = tidy c.self.inside c.args.self.now c.self.view_is c.self.invariant

-- a set in which the man's square has given way to the other, or which has neither
set_made : (c : After-gone_on-8) (test : Option Man → Bool) (set made : List Bool) (so asked : Bool)
    → ((so ≡ false → has_square set c.args.from ≡ false) → (so ≡ false → has_square set c.args.to ≡ false) → made ≡ set_placed (set_placed set c.args.from false) c.args.to so)
    → set ≡ set_of (λ s. test (man_at c.args.self.now s)) → so ≡ asked → test (Some c.args.man) ≡ asked → test None ≡ false → made ≡ set_placed (set_placed set c.args.from false) c.args.to asked
set_made c test set made so asked is are same told nobody =
    let from : c.args.from < 64 = omega arith in
    let to : c.args.to < 64 = omega arith in
    let free = empty_is_none (man_at c.args.self.now c.args.to) c.requires.free in
    is (λ e. stands_so c.args.self.now test set c.args.from (Some c.args.man) false from are c.requires.found (told ∙ sym same ∙ e))
    (λ e. stands_so c.args.self.now test set c.args.to None false to are free nobody)
    ∙ ap (set_placed (set_placed set c.args.from false) c.args.to) same

made_so : (c : After-gone_on-8) → made c ≡ placed_all (placed_all c.self.inside c.args.from None) c.args.to (Some c.args.man)
made_so c =
    same_inside (made c) (placed_all (placed_all c.self.inside c.args.from None) c.args.to (Some c.args.man))
    (set_made c (is_of White) c.self.inside.white c.gone_on.result c.is.result _ c.gone_on.ensures (ap (λ (a : Inside). a.white) (the_same c)) c.is.ensures refl refl)
    (set_made c (is_of Black) c.self.inside.black c.gone_on-2.result c.is-2.result _ c.gone_on-2.ensures (ap (λ (a : Inside). a.black) (the_same c)) c.is-2.ensures refl refl)
    (set_made c (is_kind Pawn) c.self.inside.pawns c.gone_on-3.result c.is-3.result _ c.gone_on-3.ensures (ap (λ (a : Inside). a.pawns) (the_same c)) c.is-3.ensures refl refl)
    (set_made c (is_kind Knight) c.self.inside.knights c.gone_on-4.result c.is-4.result _ c.gone_on-4.ensures (ap (λ (a : Inside). a.knights) (the_same c)) c.is-4.ensures refl refl)
    (set_made c (is_kind Bishop) c.self.inside.bishops c.gone_on-5.result c.is-5.result _ c.gone_on-5.ensures (ap (λ (a : Inside). a.bishops) (the_same c)) c.is-5.ensures refl refl)
    (set_made c (is_kind Rook) c.self.inside.rooks c.gone_on-6.result c.is-6.result _ c.gone_on-6.ensures (ap (λ (a : Inside). a.rooks) (the_same c)) c.is-6.ensures refl refl)
    (set_made c (is_kind Queen) c.self.inside.queens c.gone_on-7.result c.is-7.result _ c.gone_on-7.ensures (ap (λ (a : Inside). a.queens) (the_same c)) c.is-7.ensures refl refl)
    (set_made c (is_kind King) c.self.inside.kings c.gone_on-8.result c.is-8.result _ c.gone_on-8.ensures (ap (λ (a : Inside). a.kings) (the_same c)) c.is-8.ensures refl refl)

new : (c : After-gone_on-8) → made c ≡ sets_of (slice_set (slice_set c.args.self.now c.args.from None) c.args.to (Some c.args.man))
new c =
    let n = size c in
    let from : c.args.from < 64 = omega arith in
    let to : c.args.to < 64 = omega arith in
    made_so c ∙ sets_moved c.self.inside c.args.self.now c.args.from c.args.to c.args.man (omega (arith, from, n)) (omega (arith, to, n)) (the_same c)

long : (c : After-gone_on-8) → length (slice_set (slice_set c.args.self.now c.args.from None) c.args.to (Some c.args.man)) ≡ 64
long c = length-set (slice_set c.args.self.now c.args.from None) c.args.to (Some c.args.man) ∙ length-set c.args.self.now c.args.from None ∙ size c

pub invariant_of-result : goal.invariant_of-result
invariant_of-result c = sets_are_tidy (made c) _ (long c) (new c)

pub returns : goal.returns
returns c = sets_show (made c) _ (long c) (new c)
