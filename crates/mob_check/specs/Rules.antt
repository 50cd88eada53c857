-- The rules of closed sets on a ground, each for one origin and kind.
use Rattle.std.specs.Prelude.{◌≡◌, ℕ, ◌<◌, ◌==◌, Bool, true, false, not, ◌&&◌, ◌||◌, if◌then◌else◌, List, Some}
use Rattle.std.specs.List.{list_any}
use Rattle.cha_board.specs.declared.men.Color.{Color}
use Rattle.cha_board.specs.declared.men.Kind.{Kind}
use Rattle.cha_board.specs.declared.men.Kind.TheVariants.{Pawn, King}
use Rattle.cha_board.specs.declared.men.Man.{Man}
use Rattle.cha_board.specs.Men.{other_color, same_kind}
use Rattle.cha_board.specs.Squares.{squares, files_apart, is_rank_ahead}
use Rattle.cha_board.specs.Shifts.{is_ahead}
use Rattle.cha_board.specs.SquareSets.{set_of, has_square}
use Rattle.cha_board.specs.Board.{Board, man_at}
use Rattle.cha_moves.specs.Moves.{is_promotion}
use Rattle.mob_law.specs.Reach.{steps_to}
use Rattle.mob_sets.specs.Mobility.{Sets}
use Rattle.mob_check.specs.declared.ground.Ground.{Ground}
use Rattle.mob_check.specs.SingleSteps.{is_stepped_to, stays}
use Rattle.mob_check.specs.Grounds.{side_in}

-- a fixed man of the other side keeps a king of c from t
unfoldable pub is_barred : Ground → Color → Kind → ℕ → Bool
is_barred g c k t = same_kind k King && has_square (side_in g (other_color c)).guards t

unfoldable pub piece_goes : Ground → Color → Kind → ℕ → ℕ → Bool
piece_goes g c k u t = steps_to c k u t && not (is_barred g c k t) && not (has_square g.fixed t)

-- a pawn's step; a double step goes there by two
unfoldable pub pawn_steps : Ground → Color → ℕ → ℕ → Bool
pawn_steps g c u t = (files_apart u t == 0) && is_rank_ahead c u t && not (has_square g.fixed t)

-- a pawn may find a man to capture on t
unfoldable pub is_capturable : Ground → Color → ℕ → Bool
is_capturable g c t =
    (not (has_square g.fixed t) && has_square (side_in g (other_color c)).reach t) || has_square (side_in g c).target t

unfoldable pub pawn_captures : Ground → Color → ℕ → ℕ → Bool
pawn_captures g c u t = steps_to c Pawn u t && is_capturable g c t

unfoldable pub pawn_goes : Ground → Color → ℕ → ℕ → Bool
pawn_goes g c u t = pawn_steps g c u t || pawn_captures g c u t

-- a k of c goes from u to t
unfoldable pub goes_on : Ground → Color → Kind → ℕ → ℕ → Bool
goes_on g c k u t = if same_kind k Pawn then pawn_goes g c u t else piece_goes g c k u t

-- from some square of a set it goes to t
unfoldable pub is_entered : Ground → Color → Kind → List Bool → ℕ → Bool
is_entered g c k set t = list_any (λ u. has_square set u && goes_on g c k u t) squares

-- the squares to which it goes from a set
abbrev pub entered_from : Ground → Color → Kind → List Bool → List Bool
entered_from g c k set = set_of (is_entered g c k set)

-- those of these squares on which a man stays a k
unfoldable pub comes_on : Ground → Color → Kind → List Bool → ℕ → Bool
comes_on g c k set t = is_entered g c k set t && stays c k t

-- those on which it does not, as a pawn on its last rank
unfoldable pub ends_on : Ground → Color → Kind → List Bool → ℕ → Bool
ends_on g c k set t = is_entered g c k set t && not (stays c k t)

-- squares that hold all to which a k of c goes from them, as a k
abbrev pub StaysIn : Ground → Color → Kind → (ℕ → Bool) → Type 0
StaysIn g c k inside =
    (u t : ℕ) → u < 64 → t < 64 → inside u ≡ true → goes_on g c k u t ≡ true → stays c k t ≡ true → inside t ≡ true

-- a k of c that may be on the squares of a set captures the fixed man of the other side on x
unfoldable pub is_struck : Ground → Color → Kind → List Bool → ℕ → Bool
is_struck g c k set x =
    has_square g.fixed x && has_square (side_in g (other_color c)).men x && not (is_barred g c k x) && is_stepped_to c k set x

-- as a pawn it captures en passant onto t at once
unfoldable pub passes_on : Ground → Color → Kind → List Bool → ℕ → Bool
passes_on g c k set t = has_square (side_in g c).target t && is_stepped_to c k set t

-- the pawn that it captures so stands on x, behind such a square
unfoldable pub is_passed : Ground → Color → Kind → List Bool → ℕ → Bool
is_passed g c k set x = same_kind k Pawn && is_ahead (other_color c) (set_of (passes_on g c k set)) x

-- the man of x, which is its origin o, goes from there
unfoldable pub is_left : Ground → ℕ → Color → Kind → List Bool → ℕ → Bool
is_left g o c k set x = (x == o) && has_square set o && list_any (goes_on g c k o) squares

-- the origin x becomes loose where the man of the origin o may be on the squares of a set as a k
unfoldable pub is_freed : Ground → ℕ → Color → Kind → List Bool → ℕ → Bool
is_freed g o c k set x = is_struck g c k set x || is_passed g c k set x || is_left g o c k set x

-- the rules for a man of c of an origin, as a k
pub record AreRules (g : Ground) (s : Sets) (o : ℕ) (c : Color) (k : Kind) : Type 0 where
  pub stay : StaysIn g c k (s.has o k)
  pub become : (u t : ℕ) → u < 64 → t < 64 → s.has o k u ≡ true → goes_on g c k u t ≡ true → stays c k t ≡ false
      → (j : Kind) → is_promotion (Some j) ≡ true → s.has o j t ≡ true
  pub free : (set : List Bool) → ((u : ℕ) → has_square set u ≡ true → s.has o k u ≡ true)
      → (x : ℕ) → x < 64 → is_freed g o c k set x ≡ true → s.loose x ≡ true

-- all the rules for the man of an origin
pub record ManRules (g : Ground) (s : Sets) (o : ℕ) (man : Man) : Type 0 where
  pub begins : s.has o man.kind o ≡ true
  pub each : (k : Kind) → AreRules g s o man.color k

-- all the rules on a ground
abbrev pub AllRules : Board → Ground → Sets → Type 0
AllRules p g s = (o : ℕ) (man : Man) → man_at p.men o ≡ Some man → ManRules g s o man
