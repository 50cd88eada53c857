-- The widest sets, in which each man reaches all squares as all kinds: they are closed for each position, so the law speaks
-- of something. For a side with only its king they have no mate.
use Rattle.std.proofs.Common.{◌≡◌, ℕ, true, false, refl}
use Rattle.std.proofs.lemmas.Bool.{and_left, both_ways}
use Rattle.cha_board.specs.declared.men.Color.{Color}
use Rattle.cha_board.specs.Men.{other_color, is_non_king}
use Rattle.cha_board.specs.Board.{Board, man_at, IsValid}
use Rattle.cha_moves.specs.Ends.{IsUnwinnable}
use Rattle.mob_law.specs.Reach.{is_fixed}
use Rattle.mob_sets.specs.Mobility.{Sets}
use Rattle.mob_law.specs.Closed.{has_fixed_enemy, Enters, Castles, IsClosed}
use Rattle.mob_law.specs.Threats.{HasNoMate}
use Rattle.mob_law.specs.Static.{IsStaticallyUnwinnable}
use Rattle.mob_law.proofs.Law.{static_bounded}
use Rattle.mob_law.proofs.Standing.{loose_unfixed}

abbrev pub widest : Sets
widest = record { has = λ o k u. true; loose = λ o. true }

-- nothing is fixed in them
none_fixed : (p : Board) (c : Color) (t : ℕ) → has_fixed_enemy p widest c t ≡ false
unfolding has_fixed_enemy
none_fixed p c t = and_left (is_fixed p widest t) (is_non_king (other_color c) (man_at p.men t)) (loose_unfixed p widest t refl)

all_entered : (p : Board) (o : ℕ) (c : Color) (u t : ℕ) → Enters p widest o c u t
all_entered p o c u t = record { stays = λ inside. refl; becomes = λ last k promotion. refl; leaves = λ home. refl }

all_castle : (h k r t : ℕ) → Castles widest h k r t
all_castle h k r t = record { king = refl; rook = refl; king_leaves = refl; rook_leaves = refl }

pub widest_closed : (p : Board) → IsClosed p widest
widest_closed p = record {
  begins = λ o man stood. refl;
  pieces_move = λ o man k u t entry piece aims open_way unguarded. record { goes = λ free. refl; leaves = λ free home. refl; spares = none_fixed p man.color t };
  pawns_step = λ o man u t entry file ahead free. all_entered p o man.color u t;
  pawns_double_step = λ o man u t entry file begins ends over free. all_entered p o man.color u t;
  pawns_capture = λ o man u t entry aims. record {
    captures = λ free enemy. all_entered p o man.color u t;
    spares = none_fixed p man.color t;
    en_passant = λ target side. all_entered p o man.color u t;
    victim = λ target side. refl;
  };
  kings_castle = λ c w right free. all_castle _ _ _ _;
}

-- where a side has no man but its king, no man of it gives check
pub bare_has_no_mate : (p : Board) (s : Sets) (w : Color) → ((u : ℕ) → is_non_king w (man_at p.men u) ≡ false) → HasNoMate p s w
bare_has_no_mate p s w bare ks wk threat =
    let checker = threat.checks.checker in
    both_ways (is_non_king w (man_at p.men checker.origin)) (bare checker.origin) checker.stood

-- so a side with only its king is statically unwinnable
pub bare_is_static : (p : Board) (w : Color) → ((u : ℕ) → is_non_king w (man_at p.men u) ≡ false) → IsStaticallyUnwinnable p w
bare_is_static p w bare = (widest, widest_closed p, bare_has_no_mate p widest w bare)

-- and never mates
pub bare_never_mates : (p : Board) (w : Color) → IsValid p → ((u : ℕ) → is_non_king w (man_at p.men u) ≡ false) → IsUnwinnable p w
bare_never_mates p w valid bare = static_bounded p w valid (bare_is_static p w bare)
