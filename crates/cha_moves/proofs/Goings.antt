-- The squares where men may go, as sets.
use Rattle.std.proofs.Common.{◌≡◌, ℕ, ◌+◌, ◌<◌, Bool, true, false, not, ◌&&◌, ◌||◌, ◌==◌, List, [], ◌∷◌, Option, Some, None, refl, sym, ◌∙◌, ap, arith, inl, inr}
use Rattle.std.specs.List.{Contains, list_all, filter}
use Rattle.std.proofs.lemmas.Bool.{and_parts, and_right, cases_Bool, cases_eq, eq-eqb, ne_eqb, eqb-true}
use Rattle.std.proofs.Math.Bool.{not-not}
use Rattle.cha_board.specs.declared.men.Color.{Color}
use Rattle.cha_board.specs.declared.men.Color.TheVariants.{White, Black}
use Rattle.cha_board.specs.declared.men.Kind.{Kind}
use Rattle.cha_board.specs.declared.men.Kind.TheVariants.{Pawn, Knight, Bishop, Rook, Queen, King}
use Rattle.cha_board.specs.declared.men.Man.{Man}
use Rattle.cha_board.specs.Men.{other_color, same_color, same_kind, is_of, is_man}
use Rattle.cha_board.specs.Squares.{squares, rank_of, files_apart, ranks_apart, steps_apart, is_rank_ahead, aims_at, lies_between, between}
use Rattle.cha_board.specs.Board.{Board, man_at, is_empty, is_clear}
use Rattle.cha_board.specs.SquareSets.{set_of, has_square, set_with, set_joined, set_common, set_minus}
use Rattle.cha_board.proofs.SetLaws.{has-set_of, same_set}
use Rattle.cha_board.specs.Aims.{is_open, aims_over, aimed}
use Rattle.cha_moves.specs.Moves.{is_pawn_capture, is_target, is_en_passant, may_enter}
use Rattle.cha_moves.proofs.Near.{near_clear, king_aims}
use Rattle.cha_moves.proofs.Contained.{Contains-cons_here, Contains-cons_there, Contains-filter_parts, Contains-squares_small}

-- what is done to sets, as what is done to their tests
pub joined_of : (a b : ℕ → Bool) → set_joined (set_of a) (set_of b) ≡ set_of (λ s. a s || b s)
unfolding set_joined
joined_of a b = same_set (λ s. has_square (set_of a) s || has_square (set_of b) s) (λ s. a s || b s) (λ s small. rw (has-set_of a s small, has-set_of b s small) refl)

pub joined_at : (a b : List Bool) (s : ℕ) → s < 64 → has_square (set_joined a b) s ≡ (has_square a s || has_square b s)
unfolding set_joined
joined_at a b s small = has-set_of (λ t. has_square a t || has_square b t) s small

pub common_of : (a b : ℕ → Bool) → set_common (set_of a) (set_of b) ≡ set_of (λ s. a s && b s)
unfolding set_common
common_of a b = same_set (λ s. has_square (set_of a) s && has_square (set_of b) s) (λ s. a s && b s) (λ s small. rw (has-set_of a s small, has-set_of b s small) refl)

pub minus_of : (a b : ℕ → Bool) → set_minus (set_of a) (set_of b) ≡ set_of (λ s. a s && not (b s))
unfolding set_minus
minus_of a b = same_set (λ s. has_square (set_of a) s && not (has_square (set_of b) s)) (λ s. a s && not (b s)) (λ s small. rw (has-set_of a s small, has-set_of b s small) refl)

pub with_of : (a : ℕ → Bool) (at : ℕ) → set_with (set_of a) at ≡ set_of (λ s. (s == at) || a s)
unfolding set_with
with_of a at = same_set (λ s. (s == at) || has_square (set_of a) s) (λ s. (s == at) || a s) (λ s small. rw (has-set_of a s small) refl)

-- the squares on which a man of c or the other king stands are those that c may not enter
barred_test : (c : Color) (o : Option Man) → (is_of c o || is_man (other_color c) King o) ≡ not (may_enter c o)
barred_test c None = refl
barred_test c (Some man) = barred_man c man.color man.kind
  where
    barred_man : (c d : Color) (k : Kind) → (same_color d c || (same_color d (other_color c) && same_kind k King)) ≡ not (not (same_color d c) && not (same_kind k King))
    barred_man White White k = refl
    barred_man White Black Pawn = refl
    barred_man White Black Knight = refl
    barred_man White Black Bishop = refl
    barred_man White Black Rook = refl
    barred_man White Black Queen = refl
    barred_man White Black King = refl
    barred_man Black Black k = refl
    barred_man Black White Pawn = refl
    barred_man Black White Knight = refl
    barred_man Black White Bishop = refl
    barred_man Black White Rook = refl
    barred_man Black White Queen = refl
    barred_man Black White King = refl

pub barred_of : (men : List (Option Man)) (c : Color) → set_joined (set_of (λ s. is_of c (man_at men s))) (set_of (λ s. is_man (other_color c) King (man_at men s))) ≡ set_of (λ s. not (may_enter c (man_at men s)))
barred_of men c =
    joined_of (λ s. is_of c (man_at men s)) (λ s. is_man (other_color c) King (man_at men s))
    ∙ same_set (λ s. is_of c (man_at men s) || is_man (other_color c) King (man_at men s)) (λ s. not (may_enter c (man_at men s))) (λ s small. barred_test c (man_at men s))

-- the squares on which something stands
abbrev pub occupied_in : List (Option Man) → List Bool
occupied_in men = set_of (λ s. not (is_empty men s))

all_alike : (p r : ℕ → Bool) (xs : List ℕ) → ((x : ℕ) → Contains xs x → p x ≡ r x) → list_all p xs ≡ list_all r xs
all_alike p r [] same = refl
all_alike p r (x ∷ xs) same = rw (same x (Contains-cons_here x xs x refl), all_alike p r xs (λ y inside. same y (Contains-cons_there x xs y inside))) refl

-- no occupied square lies between two squares where they see each other
pub open_is_clear : (men : List (Option Man)) (s t : ℕ) → is_open (occupied_in men) s t ≡ is_clear men s t
unfolding is_open is_clear between
open_is_clear men s t =
    all_alike (λ u. not (has_square (occupied_in men) u)) (λ u. is_empty men u) (filter (lies_between s t) squares) (λ u inside.
    let small = Contains-squares_small u (Contains-filter_parts (lies_between s t) squares u inside).0 in
    ap not (has-set_of (λ v. not (is_empty men v)) u small) ∙ not-not (is_empty men u))

-- where a man aims over the men of a position
pub aims_seen : (men : List (Option Man)) (c : Color) (k : Kind) (s : ℕ) → aimed c k s (occupied_in men) ≡ set_of (λ t. aims_at c k s t && is_clear men s t)
unfolding aimed aims_over
aims_seen men c k s =
    same_set (λ t. aims_at c k s t && is_open (occupied_in men) s t) (λ t. aims_at c k s t && is_clear men s t) (λ t small. ap (λ b. aims_at c k s t && b) (open_is_clear men s t))

-- a man that aims at the next square sees it
near_seen : (men : List (Option Man)) (c : Color) (k : Kind) (s t : ℕ) → (aims_at c k s t ≡ true → between s t ≡ []) → (aims_at c k s t && is_clear men s t) ≡ aims_at c k s t
unfolding is_clear
near_seen men c k s t near = elim (cases_Bool (aims_at c k s t)) [
  | inl e ↦ (let clear : list_all (λ u. is_empty men u) (between s t) ≡ true = ap (list_all (λ u. is_empty men u)) (near e) in rw (e, clear) refl)
  | inr e ↦ rw e refl
]

pub king_aimed : (men : List (Option Man)) (c : Color) (s : ℕ) → s < 64 → aimed c King s (occupied_in men) ≡ set_of (aims_at c King s)
king_aimed men c s small =
    aims_seen men c King s
    ∙ same_set (λ t. aims_at c King s t && is_clear men s t) (aims_at c King s) (λ t small'. near_seen men c King s t (λ h. near_clear s t small small' (king_aims c s t h)))

-- a pawn aims one step away
pub pawn_near : (c : Color) (s t : ℕ) → aims_at c Pawn s t ≡ true → (steps_apart s t == 1) ≡ true
unfolding aims_at is_rank_ahead steps_apart files_apart ranks_apart
pawn_near White s t h =
    let both = and_parts (rank_of t == rank_of s + 1) _ h in
    let rank = eqb-true (rank_of t) (rank_of s + 1) both.0 in
    let file = eqb-true _ 1 both.1 in
    eq-eqb (steps_apart s t) 1 (omega (arith, rank, file))
pawn_near Black s t h =
    let both = and_parts (rank_of s == rank_of t + 1) _ h in
    let rank = eqb-true (rank_of s) (rank_of t + 1) both.0 in
    let file = eqb-true _ 1 both.1 in
    eq-eqb (steps_apart s t) 1 (omega (arith, rank, file))

pub pawn_aimed : (men : List (Option Man)) (c : Color) (s : ℕ) → s < 64 → aimed c Pawn s (occupied_in men) ≡ set_of (aims_at c Pawn s)
pawn_aimed men c s small =
    aims_seen men c Pawn s
    ∙ same_set (λ t. aims_at c Pawn s t && is_clear men s t) (aims_at c Pawn s) (λ t small'. near_seen men c Pawn s t (λ h. near_clear s t small small' (pawn_near c s t h)))

-- a test that passes at one square alone
pub at_one : (t u : ℕ) (p : ℕ → Bool) → ((t == u) && p t) ≡ ((t == u) && p u)
at_one t u p = elim (cases_eq t u) [
  | inl e ↦ ap (λ x. (t == u) && p x) e
  | inr ne ↦ rw (ne_eqb t u ne) refl
]

-- the captures of a pawn, without and with one en passant
pub captures_plain : (q : Board) (s : ℕ) → q.target ≡ None → set_of (λ t. aims_at q.side Pawn s t && not (is_empty q.men t)) ≡ set_of (λ t. is_pawn_capture q s t || is_en_passant q s t)
unfolding is_pawn_capture is_en_passant
captures_plain q s none =
    same_set (λ t. aims_at q.side Pawn s t && not (is_empty q.men t)) (λ t. (aims_at q.side Pawn s t && not (is_empty q.men t)) || (aims_at q.side Pawn s t && is_target q.target t)) (λ t small. rw none (with_never (aims_at q.side Pawn s t) (not (is_empty q.men t))))
  where
    with_never : (a b : Bool) → (a && b) ≡ ((a && b) || (a && false))
    with_never true true = refl
    with_never true false = refl
    with_never false b = refl

with_one : (a b e x : Bool) → (e ≡ true → a ≡ x) → ((x && e) || (a && b)) ≡ ((a && b) || (a && e))
with_one true true true true h = refl
with_one true false true true h = refl
with_one false true true false h = refl
with_one false false true false h = refl
with_one true b true false h = (let e = h refl in cc)
with_one false b true true h = (let e = h refl in cc)
with_one true true false true h = refl
with_one true false false true h = refl
with_one true true false false h = refl
with_one true false false false h = refl
with_one false b false true h = refl
with_one false b false false h = refl

pub same_eqb : (t u : ℕ) → (t == u) ≡ (u == t)
same_eqb t u = elim (cases_eq t u) [
  | inl e ↦ eq-eqb t u e ∙ sym (eq-eqb u t (sym e))
  | inr ne ↦ ne_eqb t u ne ∙ sym (ne_eqb u t (λ e. ne (sym e)))
]

-- the captures of a pawn that aims at the target u, or does not
pub captures_passing : (q : Board) (s u : ℕ) (aims : Bool) → q.target ≡ Some u → aims_at q.side Pawn s u ≡ aims
    → set_of (λ t. (aims && (t == u)) || (aims_at q.side Pawn s t && not (is_empty q.men t))) ≡ set_of (λ t. is_pawn_capture q s t || is_en_passant q s t)
unfolding is_pawn_capture is_en_passant
captures_passing q s u aims target at =
    same_set (λ t. (aims && (t == u)) || (aims_at q.side Pawn s t && not (is_empty q.men t))) (λ t. (aims_at q.side Pawn s t && not (is_empty q.men t)) || (aims_at q.side Pawn s t && is_target q.target t)) (λ t small.
    rw (target, same_eqb u t) (with_one (aims_at q.side Pawn s t) (not (is_empty q.men t)) (t == u) aims (λ h. ap (aims_at q.side Pawn s) (eqb-true t u h) ∙ at)))

-- nothing stands on a square that is not among the occupied ones
pub empty_seen : (men : List (Option Man)) (s : ℕ) → s < 64 → not (has_square (occupied_in men) s) ≡ is_empty men s
empty_seen men s small = ap not (has-set_of (λ v. not (is_empty men v)) s small) ∙ not-not (is_empty men s)

pub stands_at : (men : List (Option Man)) (set : List Bool) (u s : ℕ) (b : Bool) → set ≡ occupied_in men → u ≡ s → s < 64 → b ≡ has_square set u → is_empty men s ≡ not b
stands_at men set u s b e f small here = sym (ap not here ∙ ap (λ (x : List Bool). not (has_square x u)) e ∙ ap (λ k. not (has_square (occupied_in men) k)) f ∙ empty_seen men s small)

-- a set with one more square, where that is so
pub where_so : (set : List Bool) (at : ℕ) (b : Bool) → b ≡ true → set_with set at ≡ set_of (λ t. (b && (t == at)) || has_square set t)
unfolding set_with
where_so set at b e = ap (λ x. set_of (λ t. (x && (t == at)) || has_square set t)) (sym e)

pub where_not : (set : List Bool) (p : ℕ → Bool) (at : ℕ) (b : Bool) → set ≡ set_of p → b ≡ false → set ≡ set_of (λ t. (b && (t == at)) || has_square set t)
where_not set p at b shown e =
    shown ∙ sym (same_set (has_square (set_of p)) p (λ t small. has-set_of p t small)) ∙ ap (λ (x : List Bool). set_of (has_square x)) (sym shown) ∙ ap (λ x. set_of (λ t. (x && (t == at)) || has_square set t)) (sym e)

pub where_is : (p : ℕ → Bool) (set now : List Bool) (at at' : ℕ) (b b' : Bool) → now ≡ set_of (λ t. (b && (t == at)) || has_square set t) → set ≡ set_of p → b ≡ b' → at ≡ at' → now ≡ set_of (λ t. (b' && (t == at')) || p t)
where_is p set now at at' b b' is shown e f =
    is ∙ ap (λ x. set_of (λ t. (x && (t == at)) || has_square set t)) e ∙ ap (λ x. set_of (λ t. (b' && (t == x)) || has_square set t)) f
    ∙ ap (λ (x : List Bool). set_of (λ t. (b' && (t == at')) || has_square x t)) shown
    ∙ same_set (λ t. (b' && (t == at')) || has_square (set_of p) t) (λ t. (b' && (t == at')) || p t) (λ t small. ap (λ x. (b' && (t == at')) || x) (has-set_of p t small))

-- a pawn captures en passant onto the target alone
pub never_passing : (q : Board) (s t : ℕ) → q.target ≡ None → is_en_passant q s t ≡ false
unfolding is_en_passant
never_passing q s t none = rw none (and_right (aims_at q.side Pawn s t) false refl)

pub passing_at_target : (q : Board) (s u t : ℕ) → q.target ≡ Some u → is_en_passant q s u ≡ false → is_en_passant q s t ≡ false
unfolding is_en_passant
passing_at_target q s u t target none = elim (cases_eq u t) [
  | inl e ↦ ap (λ k. aims_at q.side Pawn s k && is_target q.target k) (sym e) ∙ none
  | inr ne ↦ rw target (and_right (aims_at q.side Pawn s t) (u == t) (ne_eqb u t ne))
]
