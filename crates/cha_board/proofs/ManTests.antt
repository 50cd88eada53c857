-- What follows from the tests of colours and kinds.
use Rattle.std.proofs.Common.{◌≡◌, ◌≢◌, true, false, not, ◌⊎◌, Option, Some, refl, subst, ap, inl, inr}
use Rattle.std.proofs.lemmas.Bool.{and_parts, and_from, both_ways, false_from_ne_true}
use Rattle.cha_board.specs.declared.men.Color.{Color}
use Rattle.cha_board.specs.declared.men.Color.TheVariants.{White, Black}
use Rattle.cha_board.specs.declared.men.Kind.{Kind}
use Rattle.cha_board.specs.declared.men.Kind.TheVariants.{King}
use Rattle.cha_board.specs.declared.men.Man.{Man}
use Rattle.cha_board.specs.Men.{other_color, same_color, same_kind, is_man, is_non_king}
use Rattle.cha_board.proofs.Identity.{one_color, same_color_self, same_kind_equal, same_kind_self}

-- a colour is a side's or the other's
pub either_color : (a c : Color) → (a ≡ c) ⊎ (a ≡ other_color c)
either_color White White = inl refl
either_color White Black = inr refl
either_color Black White = inr refl
either_color Black Black = inl refl

-- who is not of a side is of the other
pub other_color_of : (a c : Color) → same_color a c ≡ false → same_color a (other_color c) ≡ true
other_color_of White Black h = refl
other_color_of Black White h = refl
other_color_of White White h = cc
other_color_of Black Black h = cc

pub same_color_from : (a b : Color) → a ≡ b → same_color a b ≡ true
same_color_from a b e = rw e (same_color_self b)

-- a man of c is none of its enemy's
pub not_of_other : (c : Color) (k : Kind) (o : Option Man) (man : Man) → o ≡ Some man → same_color man.color c ≡ true → is_man (other_color c) k o ≡ true → ⊥
not_of_other c k o man found own other =
    let P : Option Man → Type 0 = λ x. is_man (other_color c) k x ≡ true in
    let both = and_parts (same_color man.color (other_color c)) (same_kind man.kind k) (subst P found other) in
    one_color man.color c own both.0

-- what a test of two kinds says
pub other_kind : (a b : Kind) → a ≢ b → same_kind a b ≡ false
other_kind a b other = false_from_ne_true (same_kind a b) (λ h. other (same_kind_equal a b h))

pub kinds_differ : (a b : Kind) → same_kind a b ≡ false → a ≢ b
kinds_differ a b h e = both_ways (same_kind a b) h (rw e (same_kind_self b))

pub same_kind_from : (a b : Kind) → a ≡ b → same_kind a b ≡ true
same_kind_from a b e = rw e (same_kind_self b)

-- a man of c that is no king
pub is_non_king_from : (c : Color) (man : Man) → same_color man.color c ≡ true → same_kind man.kind King ≡ false → is_non_king c (Some man) ≡ true
is_non_king_from c man own other = and_from (same_color man.color c) (not (same_kind man.kind King)) own (ap not other)
