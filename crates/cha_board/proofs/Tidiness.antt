-- Men as sets: what they show, and that what is written keeps them tidy.
use Rattle.std.proofs.Common.{◌≡◌, ℕ, ◌+◌, ◌<◌, Bool, true, false, not, ◌&&◌, ◌||◌, ◌==◌, List, length, Option, None, Some, slice_set, slice_get, replicate, if◌then◌else◌, refl, sym, ap, ◌∙◌, arith, inl, inr, zero-add, get_or-set_other, get_or-set_same, length-set}
use Rattle.std.proofs.lemmas.Bool.{cases_eq, eq-eqb, ne_eqb}
use Rattle.std.proofs.lemmas.List.{ext_get_or, get_or-replicate, length-replicate}
use Rattle.std.proofs.lemmas.List.FromFn.{length-map-range_with_len, get_or-map-range_with_len}
use Rattle.cha_board.specs.declared.men.Color.{Color}
use Rattle.cha_board.specs.declared.men.Color.TheVariants.{White, Black}
use Rattle.cha_board.specs.declared.men.Kind.{Kind}
use Rattle.cha_board.specs.declared.men.Kind.TheVariants.{Pawn, Knight, Bishop, Rook, Queen, King}
use Rattle.cha_board.specs.declared.men.Man.{Man}
use Rattle.cha_board.specs.declared.placement.Men.TheInside.{Inside}
use Rattle.cha_board.specs.Men.{same_color, same_kind, is_vacant, is_of, is_kind, is_man, is_non_king}
use Rattle.cha_board.specs.Board.{man_at, is_empty, king_of, has_one_king}
use Rattle.cha_board.specs.Squares.{squares}
use Rattle.cha_board.specs.SquareSets.{set_of, squares_in, has_square, empty_set, set_placed, set_joined, set_common, set_minus}
use Rattle.cha_board.proofs.SetLaws.{same_set, has-set_of}
use Rattle.cha_board.proofs.Kings.{king_is, some_king}
use Rattle.cha_board.proofs.Firsts.{first_tells, none_tells}
use Rattle.cha_board.specs.MenSets.{first_kind, man_of, man_in, men_in, sets_of, AreTidy}

pub length-men_in : (a : Inside) → length (men_in a) ≡ 64
unfolding squares
length-men_in a = length-map-range_with_len (man_in a) 0 64

pub man_at-men_in : (a : Inside) (s : ℕ) → s < 64 → man_at (men_in a) s ≡ man_in a s
unfolding squares
man_at-men_in a s small = get_or-map-range_with_len (man_in a) 0 64 s s None small (zero-add s)

-- what a square shows, by what is asked of the man on it
shown : Option Man → Option Man
shown o =
    man_of (is_of White o) (is_of Black o) (first_kind (is_kind Pawn o) (is_kind Knight o) (is_kind Bishop o) (is_kind Rook o) (is_kind Queen o))

kind_again : (k : Kind) → first_kind (same_kind k Pawn) (same_kind k Knight) (same_kind k Bishop) (same_kind k Rook) (same_kind k Queen) ≡ k
kind_again Pawn = refl
kind_again Knight = refl
kind_again Bishop = refl
kind_again Rook = refl
kind_again Queen = refl
kind_again King = refl

man_again : (c : Color) (k : Kind) → man_of (same_color c White) (same_color c Black) k ≡ Some (record { color = c; kind = k })
man_again White k = refl
man_again Black k = refl

shown_again : (o : Option Man) → shown o ≡ o
unfolding shown
shown_again None = refl
shown_again (Some man) =
    ap (λ k. man_of (same_color man.color White) (same_color man.color Black) k) (kind_again man.kind) ∙ man_again man.color man.kind

man_in-sets_of : (men : List (Option Man)) (s : ℕ) → s < 64 → man_in (sets_of men) s ≡ man_at men s
unfolding man_in shown
man_in-sets_of men s small =
    rw (has-set_of (λ s. is_of White (man_at men s)) s small, has-set_of (λ s. is_of Black (man_at men s)) s small, has-set_of (λ s. is_kind Pawn (man_at men s)) s small, has-set_of (λ s. is_kind Knight (man_at men s)) s small, has-set_of (λ s. is_kind Bishop (man_at men s)) s small, has-set_of (λ s. is_kind Rook (man_at men s)) s small, has-set_of (λ s. is_kind Queen (man_at men s)) s small)
    (shown_again (man_at men s))

-- the sets of men show those men
pub men_in-sets_of : (men : List (Option Man)) → length men ≡ 64 → men_in (sets_of men) ≡ men
men_in-sets_of men size =
    let n = length-men_in (sets_of men) in
    ext_get_or None (men_in (sets_of men)) men (n ∙ sym size) (λ s inside.
    let small : s < 64 = omega (arith, n, inside) in
    man_at-men_in (sets_of men) s small ∙ man_in-sets_of men s small)

pub sets_are_tidy : (a : Inside) (men : List (Option Man)) → length men ≡ 64 → a ≡ sets_of men → AreTidy a
sets_are_tidy a men size e =
    record { same = ap (λ a. sets_of (men_in a)) e ∙ ap sets_of (men_in-sets_of men size) ∙ sym e }

pub sets_show : (a : Inside) (men : List (Option Man)) → length men ≡ 64 → a ≡ sets_of men → men_in a ≡ men
sets_show a men size e = ap men_in e ∙ men_in-sets_of men size

-- tidy sets are those of the men that they show
pub tidy : (a : Inside) (men : List (Option Man)) → men_in a ≡ men → AreTidy a → a ≡ sets_of men
tidy a men shown kept = sym kept.same ∙ ap sets_of shown

set_put : (p : Option Man → Bool) (men : List (Option Man)) (at : ℕ) (man : Option Man) → at < length men
    → set_placed (set_of (λ s. p (man_at men s))) at (p man) ≡ set_of (λ s. p (man_at (slice_set men at man) s))
unfolding set_placed
set_put p men at man inside =
    same_set (λ s. if s == at then p man else has_square (set_of (λ s. p (man_at men s))) s) (λ s. p (man_at (slice_set men at man) s)) (λ s small.
    elim (cases_eq s at) [
      | inl same ↦ rw (same, eq-eqb at at refl) (ap p (sym (get_or-set_same men at man None inside)))
      | inr other ↦ rw (ne_eqb s at other, has-set_of (λ s. p (man_at men s)) s small) (ap p (sym (get_or-set_other men at s man None other)))
    ])

pub same_inside : (a b : Inside) → a.white ≡ b.white → a.black ≡ b.black → a.pawns ≡ b.pawns → a.knights ≡ b.knights → a.bishops ≡ b.bishops → a.rooks ≡ b.rooks → a.queens ≡ b.queens → a.kings ≡ b.kings → a ≡ b
same_inside a b w d p n i r q k =
    λ x. record { white = w x; black = d x; pawns = p x; knights = n x; bishops = i x; rooks = r x; queens = q x; kings = k x }

-- the sets in which this stands on a square
abbrev pub placed_all : Inside → ℕ → Option Man → Inside
placed_all a at man = record {
  white = set_placed a.white at (is_of White man);
  black = set_placed a.black at (is_of Black man);
  pawns = set_placed a.pawns at (is_kind Pawn man);
  knights = set_placed a.knights at (is_kind Knight man);
  bishops = set_placed a.bishops at (is_kind Bishop man);
  rooks = set_placed a.rooks at (is_kind Rook man);
  queens = set_placed a.queens at (is_kind Queen man);
  kings = set_placed a.kings at (is_kind King man);
}

pub sets_put : (a : Inside) (men : List (Option Man)) (at : ℕ) (man : Option Man) → at < length men → a ≡ sets_of men → placed_all a at man ≡ sets_of (slice_set men at man)
sets_put a men at man inside e =
    same_inside (placed_all a at man) (sets_of (slice_set men at man))
    (ap (λ a. set_placed a.white at (is_of White man)) e ∙ set_put (is_of White) men at man inside)
    (ap (λ a. set_placed a.black at (is_of Black man)) e ∙ set_put (is_of Black) men at man inside)
    (ap (λ a. set_placed a.pawns at (is_kind Pawn man)) e ∙ set_put (is_kind Pawn) men at man inside)
    (ap (λ a. set_placed a.knights at (is_kind Knight man)) e ∙ set_put (is_kind Knight) men at man inside)
    (ap (λ a. set_placed a.bishops at (is_kind Bishop man)) e ∙ set_put (is_kind Bishop) men at man inside)
    (ap (λ a. set_placed a.rooks at (is_kind Rook man)) e ∙ set_put (is_kind Rook) men at man inside)
    (ap (λ a. set_placed a.queens at (is_kind Queen man)) e ∙ set_put (is_kind Queen) men at man inside)
    (ap (λ a. set_placed a.kings at (is_kind King man)) e ∙ set_put (is_kind King) men at man inside)

pub length_of_none : (none : Option Man) → length (replicate 64 none) ≡ 64
length_of_none none = length-replicate 64 none

no_men : (p : Option Man → Bool) → p None ≡ false → set_of (λ s. p (man_at (replicate 64 None) s)) ≡ empty_set
no_men p none = same_set (λ s. p (man_at (replicate 64 None) s)) (λ _. false) (λ s small. ap p (get_or-replicate 64 s None None small) ∙ none)

-- eight empty sets
abbrev pub empty_all : Inside
empty_all = record {
  white = empty_set;
  black = empty_set;
  pawns = empty_set;
  knights = empty_set;
  bishops = empty_set;
  rooks = empty_set;
  queens = empty_set;
  kings = empty_set;
}

pub sets_of_none : empty_all ≡ sets_of (replicate 64 None)
sets_of_none =
    same_inside empty_all (sets_of (replicate 64 None)) (sym (no_men (is_of White) refl)) (sym (no_men (is_of Black) refl)) (sym (no_men (is_kind Pawn) refl)) (sym (no_men (is_kind Knight) refl)) (sym (no_men (is_kind Bishop) refl)) (sym (no_men (is_kind Rook) refl)) (sym (no_men (is_kind Queen) refl)) (sym (no_men (is_kind King) refl))

of_both : (c : Color) (k : Kind) (o : Option Man) → (is_of c o && is_kind k o) ≡ is_man c k o
of_both c k None = refl
of_both c k (Some man) = refl

pub kinds_of_side : (men : List (Option Man)) (c : Color) (k : Kind)
    → set_common (set_of (λ s. is_of c (man_at men s))) (set_of (λ s. is_kind k (man_at men s))) ≡ set_of (λ s. is_man c k (man_at men s))
unfolding set_common
kinds_of_side men c k =
    same_set (λ s. has_square (set_of (λ s. is_of c (man_at men s))) s && has_square (set_of (λ s. is_kind k (man_at men s))) s) (λ s. is_man c k (man_at men s)) (λ s small.
    rw (has-set_of (λ s. is_of c (man_at men s)) s small, has-set_of (λ s. is_kind k (man_at men s)) s small) (of_both c k (man_at men s)))

of_others : (c : Color) (o : Option Man) → (is_of c o && not (is_kind King o)) ≡ is_non_king c o
of_others c None = refl
of_others c (Some man) = refl

pub others_of_side : (men : List (Option Man)) (c : Color)
    → set_minus (set_of (λ s. is_of c (man_at men s))) (set_of (λ s. is_kind King (man_at men s))) ≡ set_of (λ s. is_non_king c (man_at men s))
unfolding set_minus
others_of_side men c =
    same_set (λ s. has_square (set_of (λ s. is_of c (man_at men s))) s && not (has_square (set_of (λ s. is_kind King (man_at men s))) s)) (λ s. is_non_king c (man_at men s)) (λ s small.
    rw (has-set_of (λ s. is_of c (man_at men s)) s small, has-set_of (λ s. is_kind King (man_at men s)) s small) (of_others c (man_at men s)))

of_either : (c : Color) → (same_color c White || same_color c Black) ≡ true
of_either White = refl
of_either Black = refl

of_some_side : (o : Option Man) → (is_of White o || is_of Black o) ≡ not (is_vacant o)
of_some_side None = refl
of_some_side (Some man) = of_either man.color

pub either_side : (men : List (Option Man)) → set_joined (set_of (λ s. is_of White (man_at men s))) (set_of (λ s. is_of Black (man_at men s))) ≡ set_of (λ s. not (is_empty men s))
unfolding set_joined
either_side men =
    same_set (λ s. has_square (set_of (λ s. is_of White (man_at men s))) s || has_square (set_of (λ s. is_of Black (man_at men s))) s) (λ s. not (is_empty men s)) (λ s small.
    rw (has-set_of (λ s. is_of White (man_at men s)) s small, has-set_of (λ s. is_of Black (man_at men s)) s small) (of_some_side (man_at men s)))

-- the first square of the squares of a king is where it stands
pub king_first : (men : List (Option Man)) (c : Color) (s : ℕ) → length men ≡ 64 → slice_get (squares_in (set_of (λ s. is_man c King (man_at men s)))) 0 ≡ Some s → s ≡ king_of men c
king_first men c s size first =
    let p = λ (s : ℕ). is_man c King (man_at men s) in
    let found = first_tells (set_of p) s first in
    sym (king_is men c s (omega (arith, size, found.0)) (λ k before. sym (has-set_of p k (omega (arith, before, found.0))) ∙ found.2 k before) (sym (has-set_of p s found.0) ∙ found.1))

pub king_somewhere : (men : List (Option Man)) (c : Color) → length men ≡ 64 → has_one_king men c ≡ true → slice_get (squares_in (set_of (λ s. is_man c King (man_at men s)))) 0 ≡ None → ⊥
king_somewhere men c size one none =
    let p = λ (s : ℕ). is_man c King (man_at men s) in
    some_king men c one (λ k inside. let small : k < 64 = omega (arith, size, inside) in sym (has-set_of p k small) ∙ none_tells (set_of p) none k small)

-- the squares before n show what a list has
pub record Filled (men list : List (Option Man)) (n : ℕ) : Type 0 where
  pub size : length men ≡ 64
  pub same : (s : ℕ) → s < n → man_at men s ≡ man_at list s

pub filled_more : (men list next : List (Option Man)) (n at : ℕ) (found : Option Man) → Filled men list n → n < 64 → at ≡ n → found ≡ man_at list n → next ≡ slice_set men at found
    → Filled next list (n + 1)
filled_more men list next n at found filled small here there e =
    let inside : at < length men = omega (arith, small, here, filled.size) in
    record {
      size = ap length e ∙ length-set men at found ∙ filled.size;
      same = λ s less.
          elim (cases_eq s at) [
            | inl same ↦ ap (λ men. man_at men s) e ∙ ap (man_at (slice_set men at found)) same ∙ get_or-set_same men at found None inside ∙ there ∙ ap (man_at list) (sym here ∙ sym same)
            | inr other ↦ ap (λ men. man_at men s) e ∙ get_or-set_other men at s found None other ∙ filled.same s (omega (arith, less, other, here))
          ];
    }

pub filled_none : (men list : List (Option Man)) → length men ≡ 64 → Filled men list 0
filled_none men list size = record { size = size; same = λ s less. absurd (omega arith) }

pub filled_all : (men list : List (Option Man)) (n : ℕ) → n ≡ 64 → length list ≡ 64 → Filled men list n → men ≡ list
filled_all men list n last size filled =
    ext_get_or None men list (filled.size ∙ sym size) (λ s inside. filled.same s (omega (arith, inside, filled.size, last)))
