-- Squares on which no man of the winner is in reach: from there none gives check, attacks a square or mates.
use Rattle.std.proofs.Common.{◌≡◌, ℕ, ◌<◌, Bool, true, false, ◌||◌, ◌==◌, if◌then◌else◌, List, refl, ap, sym, ◌∙◌}
use Rattle.std.specs.List.{list_any}
use Rattle.std.specs.Int.{bit_at}
use Rattle.std.proofs.lemmas.Bool.{and_right, or_parts}
use Rattle.std.proofs.lemmas.Nat.Bits.{bit_at-zero}
use Rattle.cha_board.specs.declared.men.Kind.{Kind}
use Rattle.cha_board.specs.declared.men.Kind.TheVariants.{Pawn, Knight, Bishop, Rook, Queen, King}
use Rattle.cha_board.specs.SquareSets.{set_of_bits, has_square, set_joined}
use Rattle.cha_board.proofs.SetLaws.{has-set_of}
use Rattle.cha_board.proofs.Scans.{no_square}
use Rattle.cha_board.specs.Board.{Board}
use Rattle.mob_sets.specs.Rows.{Row, kinds}
use Rattle.mob_sets.proofs.KindTests.{no_kind}
use Rattle.mob_check.specs.declared.scene.ByKind.{ByKind}
use Rattle.mob_check.specs.declared.scene.Scene.{Scene}
use Rattle.mob_check.specs.Scenes.{squares_as, all_in_reach}
use Rattle.mob_check.specs.MatesInReach.{checks_as, checks_from, has_check, seen_through, strikes_as, mates_as, mates_from, mates_with_one, mates_with_all, mates_among, men_near, may_mate_on, may_mate}

-- a square of neither set
pub in_neither : (a b : List Bool) (u : ℕ) → u < 64 → has_square (set_joined a b) u ≡ false → (has_square a u ≡ false) × (has_square b u ≡ false)
unfolding set_joined
in_neither a b u small h =
    or_parts (has_square a u) (has_square b u) (sym (has-set_of (λ s. has_square a s || has_square b s) u small) ∙ h)

pub not_as : (r : ByKind) (u : ℕ) (k : Kind) → u < 64 → has_square (all_in_reach r) u ≡ false → has_square (squares_as r k) u ≡ false
unfolding all_in_reach
not_as r u k small none =
    let five = set_joined (set_joined (set_joined (set_joined r.pawns r.knights) r.bishops) r.rooks) r.queens in
    let four = set_joined (set_joined (set_joined r.pawns r.knights) r.bishops) r.rooks in
    let three = set_joined (set_joined r.pawns r.knights) r.bishops in
    let two = set_joined r.pawns r.knights in
    let e = in_neither five r.kings u small none in
    let d = in_neither four r.queens u small e.0 in
    let c = in_neither three r.rooks u small d.0 in
    let b = in_neither two r.bishops u small c.0 in
    let a = in_neither r.pawns r.knights u small b.0 in
    each a.0 a.1 b.1 c.1 d.1 e.1 k
  where
    each : has_square r.pawns u ≡ false → has_square r.knights u ≡ false → has_square r.bishops u ≡ false → has_square r.rooks u ≡ false → has_square r.queens u ≡ false → has_square r.kings u ≡ false → (k : Kind) → has_square (squares_as r k) u ≡ false
    each p n b s q l Pawn = p
    each p n b s q l Knight = n
    each p n b s q l Bishop = b
    each p n b s q l Rook = s
    each p n b s q l Queen = q
    each p n b s q l King = l

pub no_check_from : (scene : Scene) (ks u : ℕ) → u < 64 → has_square (all_in_reach scene.men) u ≡ false → checks_from scene ks u ≡ false
unfolding checks_from checks_as
no_check_from scene ks u small none = no_kind (checks_as scene ks u) (λ k. rw (not_as scene.men u k small none) refl)

pub no_strike_as : (scene : Scene) (seen : List Bool) (ks n u : ℕ) → u < 64 → has_square (all_in_reach scene.men) u ≡ false → list_any (strikes_as scene seen ks n u) kinds ≡ false
unfolding strikes_as
no_strike_as scene seen ks n u small none = no_kind (strikes_as scene seen ks n u) (λ k. rw (not_as scene.men u k small none) refl)

pub no_mate_from : (scene : Scene) (seen : List Bool) (men ks u : ℕ) → u < 64 → has_square (all_in_reach scene.men) u ≡ false → mates_from scene seen men ks u ≡ false
unfolding mates_from mates_as checks_as
no_mate_from scene seen men ks u small none = no_kind (mates_as scene seen men ks u) (λ k. rw (not_as scene.men u k small none) refl)

no_mate_among : (scene : Scene) (seen : List Bool) (men ks : ℕ) → ((u : ℕ) → u < 64 → has_square (all_in_reach scene.men) u ≡ false) → mates_among scene seen men ks ≡ false
unfolding mates_among mates_with_one mates_with_all has_check
no_mate_among scene seen men ks none =
    let one = no_square (mates_from scene seen men ks) (λ u small. no_mate_from scene seen men ks u small (none u small)) in
    let check = no_square (checks_from scene ks) (λ u small. no_check_from scene ks u small (none u small)) in
    rw (one, check) (neither_way scene.one_man)
  where
    neither_way : (b : Bool) → (if b then false else false) ≡ false
    neither_way true = refl
    neither_way false = refl

-- without any man in reach no mate is
pub no_mate_without : (p : Board) (rows : List Row) (scene : Scene) → all_in_reach scene.men ≡ set_of_bits 0 → may_mate p rows scene ≡ false
unfolding may_mate may_mate_on
no_mate_without p rows scene none =
    no_square (may_mate_on p rows scene) (λ ks small.
    and_right (has_square scene.loser_king ks) (mates_among scene (seen_through scene ks) (men_near p rows scene.winner ks) ks)
    (no_mate_among scene (seen_through scene ks) (men_near p rows scene.winner ks) ks (λ u inside.
    ap (λ set. has_square set u) none ∙ has-set_of (λ s. bit_at 0 s == 1) u inside ∙ ap (λ n. n == 1) (bit_at-zero u))))
