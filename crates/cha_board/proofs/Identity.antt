-- Who a man is, by the tests of its colour and kind.
use Rattle.std.proofs.Common.{◌≡◌, ℕ, ◌<◌, Bool, true, false, not, ◌&&◌, ◌||◌, List, length, Option, Some, None, refl, inl, inr}
use Rattle.std.proofs.lemmas.Bool.{and_parts, cases_lt}
use Rattle.std.proofs.lemmas.List.{get_or_past}
use Rattle.cha_board.specs.declared.men.Color.{Color}
use Rattle.cha_board.specs.declared.men.Color.TheVariants.{White, Black}
use Rattle.cha_board.specs.declared.men.Kind.{Kind}
use Rattle.cha_board.specs.declared.men.Kind.TheVariants.{Pawn, Knight, Bishop, Rook, Queen, King}
use Rattle.cha_board.specs.declared.men.Man.{Man}
use Rattle.cha_board.specs.Men.{other_color, same_color, same_kind, is_vacant, is_man, is_pawn}
use Rattle.cha_board.specs.Board.{man_at}

pub all_four : (a b c d : Bool) → (a && b && c && d) ≡ true → (a ≡ true) × (b ≡ true) × (c ≡ true) × (d ≡ true)
all_four a b c d h =
    let x = and_parts (a && b && c) d h in
    let y = and_parts (a && b) c x.0 in
    let z = and_parts a b y.0 in
    (z.0, z.1, y.1, x.1)

pub same_color_equal : (a b : Color) → same_color a b ≡ true → a ≡ b
same_color_equal White White h = refl
same_color_equal White Black h = cc
same_color_equal Black White h = cc
same_color_equal Black Black h = refl

pub same_color_self : (c : Color) → same_color c c ≡ true
same_color_self White = refl
same_color_self Black = refl

pub other_other : (c : Color) → other_color (other_color c) ≡ c
other_other White = refl
other_other Black = refl

pub side_other : (c : Color) → c ≡ other_color c → ⊥
side_other White e = cc
side_other Black e = cc

-- a man has one colour
pub one_color : (a c : Color) → same_color a c ≡ true → same_color a (other_color c) ≡ true → ⊥
one_color White White h k = cc
one_color White Black h k = cc
one_color Black White h k = cc
one_color Black Black h k = cc

pub same_kind_equal : (k j : Kind) → same_kind k j ≡ true → k ≡ j
same_kind_equal Pawn Pawn h = refl
same_kind_equal Knight Knight h = refl
same_kind_equal Bishop Bishop h = refl
same_kind_equal Rook Rook h = refl
same_kind_equal Queen Queen h = refl
same_kind_equal King King h = refl
same_kind_equal _ _ h = cc

pub same_kind_self : (k : Kind) → same_kind k k ≡ true
same_kind_self Pawn = refl
same_kind_self Knight = refl
same_kind_self Bishop = refl
same_kind_self Rook = refl
same_kind_self Queen = refl
same_kind_self King = refl

-- a man of this colour and kind, as a man
pub record ManOf (o : Option Man) (c : Color) (k : Kind) : Type 0 where
  pub man : Man
  pub found : o ≡ Some man
  pub color : man.color ≡ c
  pub kind : man.kind ≡ k

pub man_of : (o : Option Man) (c : Color) (k : Kind) → is_man c k o ≡ true → ManOf o c k
man_of None c k h = cc
man_of (Some man) c k h =
    let both = and_parts (same_color man.color c) (same_kind man.kind k) h in
    record { man = man; found = refl; color = same_color_equal man.color c both.0; kind = same_kind_equal man.kind k both.1 }

pub is_man_from : (o : Option Man) (man : Man) (c : Color) (k : Kind) → o ≡ Some man → man.color ≡ c → man.kind ≡ k → is_man c k o ≡ true
is_man_from o man c k found color kind = rw (found, color, kind, same_color_self, same_kind_self) refl

pub two_kinds : (a b : Bool) → b ≡ false → (a && b) ≡ false
two_kinds true b h = h
two_kinds false b h = refl

-- a man is of one kind
pub one_kind : (c d : Color) (k j : Kind) (o : Option Man) → same_kind k j ≡ false → is_man c k o ≡ true → is_man d j o ≡ false
one_kind c d k j None other h = refl
one_kind c d k j (Some man) other h =
    let both = and_parts (same_color man.color c) (same_kind man.kind k) h in
    let e = same_kind_equal man.kind k both.1 in
    two_kinds (same_color man.color d) (same_kind man.kind j) (rw e other)

-- what is empty is no man
pub empty_no_man : (c : Color) (k : Kind) (o : Option Man) → is_vacant o ≡ true → is_man c k o ≡ false
empty_no_man c k None h = refl
empty_no_man c k (Some man) h = cc

pub empty_is_none : (o : Option Man) → is_vacant o ≡ true → o ≡ None
empty_is_none None h = refl
empty_is_none (Some man) h = cc

pub none_some : (o : Option Man) (man : Man) → o ≡ None → o ≡ Some man → ⊥
none_some o man e f = cc

-- a man stands on the board
pub on_board : (men : List (Option Man)) (u : ℕ) (man : Man) → man_at men u ≡ Some man → u < length men
on_board men u man found = elim (cases_lt u (length men)) [
  | inl h ↦ h
  | inr h ↦ absurd (none_some (man_at men u) man (get_or_past men u None h) found)
]

pawn_or : (a b : Bool) → b ≡ true → (a || b) ≡ true
pawn_or true b h = refl
pawn_or false b h = h

-- a pawn of either side is a pawn
pub pawn_of : (c : Color) (o : Option Man) → is_man c Pawn o ≡ true → is_pawn o ≡ true
pawn_of White o h = rw h refl
pawn_of Black o h = pawn_or (is_man White Pawn o) (is_man Black Pawn o) h

pub all_five : (a b c d e : Bool) → (a && b && c && d && e) ≡ true → (a ≡ true) × (b ≡ true) × (c ≡ true) × (d ≡ true) × (e ≡ true)
all_five a b c d e h =
    let x = and_parts (a && b && c && d) e h in
    let y = all_four a b c d x.0 in
    (y.0, y.1, y.2, y.3, x.1)

-- an implication written as a test
pub if_at : (a b : Bool) → (not a || b) ≡ true → a ≡ true → b ≡ true
if_at true b h e = h
if_at false b h e = cc

pub if_from : (a b : Bool) → (a ≡ true → b ≡ true) → (not a || b) ≡ true
if_from true b h = h refl
if_from false b h = refl
