-- Men once one of them has moved: each set loses two squares and may gain one; and what the sets say of the man on a square.
use Rattle.std.proofs.Common.{◌≡◌, ℕ, ◌<◌, Bool, true, false, not, ◌&&◌, ◌||◌, ◌==◌, if◌then◌else◌, List, Option, Some, None, length, slice_set, refl, sym, ap, ◌∙◌, length-set}
use Rattle.std.proofs.lemmas.Bool.{eqb-true}
use Rattle.cha_board.specs.declared.men.Color.{Color}
use Rattle.cha_board.specs.declared.men.Color.TheVariants.{White, Black}
use Rattle.cha_board.specs.declared.men.Kind.{Kind}
use Rattle.cha_board.specs.declared.men.Kind.TheVariants.{Pawn, Knight, Bishop, Rook, Queen, King}
use Rattle.cha_board.specs.declared.men.Man.{Man}
use Rattle.cha_board.specs.declared.placement.Men.TheInside.{Inside}
use Rattle.cha_board.specs.Men.{same_color, same_kind, is_of, is_kind}
use Rattle.cha_board.specs.Board.{man_at}
use Rattle.cha_board.specs.SquareSets.{set_of, has_square, empty_set, set_with, set_without, set_placed, set_joined, set_minus}
use Rattle.cha_board.specs.MenSets.{set_changed, sets_of}
use Rattle.cha_board.proofs.SetLaws.{same_set, has-set_of}
use Rattle.cha_board.proofs.Identity.{same_color_equal, same_kind_equal}
use Rattle.cha_board.proofs.Tidiness.{placed_all, sets_put}

-- the squares that a move leaves and enters, and the one that it enters
abbrev pub gone_of : ℕ → ℕ → List Bool
gone_of s t = set_with (set_with empty_set s) t

abbrev pub onto_of : ℕ → List Bool
onto_of t = set_with empty_set t

in_onto : (t u : ℕ) → u < 64 → has_square (onto_of t) u ≡ ((u == t) || false)
unfolding set_with
in_onto t u small = has-set_of (λ s. (s == t) || has_square empty_set s) u small ∙ ap (λ x. (u == t) || x) (has-set_of (λ _. false) u small)

in_gone : (s t u : ℕ) → u < 64 → has_square (gone_of s t) u ≡ ((u == t) || ((u == s) || false))
unfolding set_with
in_gone s t u small = has-set_of (λ v. (v == t) || has_square (onto_of s) v) u small ∙ ap (λ x. (u == t) || x) (in_onto s u small)

in_minus : (set gone : List Bool) (u : ℕ) → u < 64 → has_square (set_minus set gone) u ≡ (has_square set u && not (has_square gone u))
unfolding set_minus
in_minus set gone u small = has-set_of (λ v. has_square set v && not (has_square gone v)) u small

with_it : (x y h : Bool) → ((h && not (x || (y || false))) || (x || false)) ≡ (if x then true else (if y then false else h))
with_it true true true = refl
with_it true true false = refl
with_it true false true = refl
with_it true false false = refl
with_it false true true = refl
with_it false true false = refl
with_it false false true = refl
with_it false false false = refl

without_it : (x y h : Bool) → (h && not (x || (y || false))) ≡ (if x then false else (if y then false else h))
without_it true true true = refl
without_it true true false = refl
without_it true false true = refl
without_it true false false = refl
without_it false true true = refl
without_it false true false = refl
without_it false false true = refl
without_it false false false = refl

left_out : (set : List Bool) (s t : ℕ) → set_minus set (gone_of s t) ≡ set_placed (set_placed set s false) t false
unfolding set_minus set_placed
left_out set s t =
    same_set (λ u. has_square set u && not (has_square (gone_of s t) u)) (λ u. if u == t then false else has_square (set_placed set s false) u) (λ u small.
    rw (in_gone s t u small) (without_it (u == t) (u == s) (has_square set u))
    ∙ ap (λ x. if u == t then false else x) (sym (has-set_of (λ v. if v == s then false else has_square set v) u small)))

-- a set without the squares of a move, and with the one that it enters or not, is the set in which first the one and then
-- the other square is in or out
pub set_moved : (set : List Bool) (s t : ℕ) (inside : Bool) → set_changed set (gone_of s t) (onto_of t) inside ≡ set_placed (set_placed set s false) t inside
unfolding set_joined set_placed
set_moved set s t true =
    same_set (λ u. has_square (set_minus set (gone_of s t)) u || has_square (onto_of t) u) (λ u. if u == t then true else has_square (set_placed set s false) u) (λ u small.
    rw (in_minus set (gone_of s t) u small, in_gone s t u small, in_onto t u small) (with_it (u == t) (u == s) (has_square set u))
    ∙ ap (λ x. if u == t then true else x) (sym (has-set_of (λ v. if v == s then false else has_square set v) u small)))
set_moved set s t false = left_out set s t

stepped_test : (x y h : Bool) → (x || (not y && h)) ≡ (if x then true else (if y then false else h))
stepped_test true y h = refl
stepped_test false true h = refl
stepped_test false false h = refl

-- the same for a set that loses the one and gains the other
pub set_stepped : (set : List Bool) (s t : ℕ) → set_with (set_without set s) t ≡ set_placed (set_placed set s false) t true
unfolding set_with set_without set_placed
set_stepped set s t =
    same_set (λ u. (u == t) || has_square (set_without set s) u) (λ u. if u == t then true else has_square (set_placed set s false) u) (λ u small.
    ap (λ x. (u == t) || x) (has-set_of (λ v. not (v == s) && has_square set v) u small)
    ∙ stepped_test (u == t) (u == s) (has_square set u)
    ∙ ap (λ x. if u == t then true else x) (sym (has-set_of (λ v. if v == s then false else has_square set v) u small)))

stayed_test : (x y h : Bool) → (x ≡ true → h ≡ false) → (y ≡ true → h ≡ false) → h ≡ (if x then false else (if y then false else h))
stayed_test true y h f g = f refl
stayed_test false true h f g = g refl
stayed_test false false h f g = refl

-- and for a set that has neither
pub set_stayed : (set : List Bool) (p : ℕ → Bool) (s t : ℕ) → set ≡ set_of p → has_square set s ≡ false → has_square set t ≡ false → set ≡ set_placed (set_placed set s false) t false
unfolding set_placed
set_stayed set p s t are out out' =
    are ∙ same_set p (λ u. if u == t then false else has_square (set_placed set s false) u) (λ u small.
    let here : has_square set u ≡ p u = ap (λ (x : List Bool). has_square x u) are ∙ has-set_of p u small in
    sym here
    ∙ stayed_test (u == t) (u == s) (has_square set u) (λ e. ap (has_square set) (eqb-true u t e) ∙ out') (λ e. ap (has_square set) (eqb-true u s e) ∙ out)
    ∙ ap (λ x. if u == t then false else x) (sym (has-set_of (λ v. if v == s then false else has_square set v) u small)))

-- whether a square is among those on which something stands that passes a test
pub stands_so : (men : List (Option Man)) (test : Option Man → Bool) (set : List Bool) (s : ℕ) (o : Option Man) (b : Bool) → s < 64 → set ≡ set_of (λ u. test (man_at men u)) → man_at men s ≡ o → test o ≡ b → has_square set s ≡ b
stands_so men test set s o b small are found so =
    ap (λ (x : List Bool). has_square x s) are ∙ has-set_of (λ u. test (man_at men u)) s small ∙ ap test found ∙ so

-- the sets of men once one has moved
pub sets_moved : (a : Inside) (men : List (Option Man)) (s t : ℕ) (man : Man) → s < length men → t < length men → a ≡ sets_of men
    → placed_all (placed_all a s None) t (Some man) ≡ sets_of (slice_set (slice_set men s None) t (Some man))
sets_moved a men s t man from to e =
    let to' : t < length (slice_set men s None) = rw length-set to in
    sets_put (placed_all a s None) (slice_set men s None) t (Some man) to' (sets_put a men s None from e)

-- what the set of a kind says of the man on a square
pub kind_asked : (men : List (Option Man)) (k : Kind) (s : ℕ) (set : List Bool) (man : Man) (b : Bool) → s < 64 → set ≡ set_of (λ s. is_kind k (man_at men s)) → has_square set s ≡ b → man_at men s ≡ Some man → same_kind man.kind k ≡ b
kind_asked men k s set man b small all has found =
    sym (ap (is_kind k) found) ∙ sym (has-set_of (λ s. is_kind k (man_at men s)) s small) ∙ sym (ap (λ set. has_square set s) all) ∙ has

-- the kind whose set has the square of a man is that of the man
pub kind_told : (men : List (Option Man)) (k : Kind) (s : ℕ) (set : List Bool) (man : Man) → s < 64 → set ≡ set_of (λ s. is_kind k (man_at men s)) → has_square set s ≡ true → man_at men s ≡ Some man → k ≡ man.kind
kind_told men k s set man small all has found =
    sym (same_kind_equal man.kind k (kind_asked men k s set man true small all has found))

-- a man of no other kind is a king
pub king_left : (k : Kind) → same_kind k Pawn ≡ false → same_kind k Knight ≡ false → same_kind k Bishop ≡ false → same_kind k Rook ≡ false → same_kind k Queen ≡ false → King ≡ k
king_left King a b c d e = refl
king_left Pawn a b c d e = cc
king_left Knight a b c d e = cc
king_left Bishop a b c d e = cc
king_left Rook a b c d e = cc
king_left Queen a b c d e = cc

-- what the set of a side says of a square
pub side_asked : (men : List (Option Man)) (c : Color) (s : ℕ) (set : List Bool) (b : Bool) → s < 64 → set ≡ set_of (λ s. is_of c (man_at men s)) → has_square set s ≡ b → is_of c (man_at men s) ≡ b
side_asked men c s set b small all has =
    sym (has-set_of (λ s. is_of c (man_at men s)) s small) ∙ sym (ap (λ set. has_square set s) all) ∙ has

-- a man of a side, whose kind is told
pub man_told : (c : Color) (k : Kind) (o : Option Man) → is_of c o ≡ true → ((man : Man) → o ≡ Some man → k ≡ man.kind) → Some (record { color = c; kind = k }) ≡ o
man_told c k None own told = cc
man_told c k (Some man) own told =
    let color = sym (same_color_equal man.color c own) in
    let kind = told man refl in
    λ i. Some (record { color = color i; kind = kind i })

of_no_side : (c : Color) → same_color c White ≡ false → same_color c Black ≡ false → ⊥
of_no_side White white black = cc
of_no_side Black white black = cc

-- who is of no side is not there
pub no_man_told : (o : Option Man) → is_of White o ≡ false → is_of Black o ≡ false → None ≡ o
no_man_told None white black = refl
no_man_told (Some man) white black = absurd (of_no_side man.color white black)
