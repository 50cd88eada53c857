-- What the parts of a ground are.
use Rattle.std.proofs.Common.{◌≡◌, ℕ, ◌<◌, Bool, true, false, not, ◌&&◌, ◌||◌, ◌==◌, List, Option, Some, None, refl, sym, ap, subst, ◌∙◌, inl, inr}
use Rattle.std.specs.List.{list_any}
use Rattle.std.proofs.lemmas.Bool.{and_parts, and_from, and_right, or_cases, both_ways, eq-eqb, eqb-true}
use Rattle.cha_board.specs.declared.men.Color.{Color}
use Rattle.cha_board.specs.declared.men.Kind.{Kind}
use Rattle.cha_board.specs.declared.men.Kind.TheVariants.{Pawn, Knight, Bishop, Rook, Queen, King}
use Rattle.cha_board.specs.declared.men.Man.{Man}
use Rattle.cha_board.specs.Men.{same_color, same_kind, is_man}
use Rattle.cha_board.specs.Squares.{squares, aims_at, steps_apart}
use Rattle.cha_board.specs.SquareSets.{set_of, empty_set, has_square, set_with, set_joined, set_common, set_minus}
use Rattle.cha_board.proofs.SetLaws.{has-set_of, same_set}
use Rattle.cha_board.specs.Board.{Board, man_at, is_empty}
use Rattle.cha_board.proofs.Scans.{any_square_at, any_alike}
use Rattle.cha_board.proofs.Contents.{some_square, same_test, in_empty}
use Rattle.cha_moves.specs.Moves.{is_target}
use Rattle.cha_moves.proofs.Goings.{joined_at}
use Rattle.cha_board.proofs.Identity.{same_kind_equal, same_kind_self}
use Rattle.mob_sets.specs.Mobility.{Sets}
use Rattle.mob_sets.specs.Rows.{kinds}
use Rattle.mob_sets.proofs.KindTests.{any_kind_at, some_kind}
use Rattle.mob_law.specs.Reach.{is_fixed, is_leaper, steps_to, guards_as, guards_from, is_guarded}
use Rattle.mob_check.specs.SingleSteps.{is_stepped_to, spread_of}
use Rattle.mob_check.specs.Grounds.{guards_with, is_target_for}

-- the fixed men are those that are not loose
pub fixed_are : (p : Board) (s : Sets) (loose occupied : List Bool) → loose ≡ set_of s.loose → occupied ≡ set_of (λ f. not (is_empty p.men f)) → set_minus occupied loose ≡ set_of (is_fixed p s)
unfolding set_minus is_fixed
fixed_are p s loose occupied loose_is occupied_is =
    same_set (λ f. has_square occupied f && not (has_square loose f)) (is_fixed p s) (λ f small.
    ap (λ b. b && not (has_square loose f)) (ap (λ x. has_square x f) occupied_is ∙ has-set_of (λ f. not (is_empty p.men f)) f small)
    ∙ ap (λ b. not (is_empty p.men f) && not b) (ap (λ x. has_square x f) loose_is ∙ has-set_of s.loose f small))

-- what the fixed men of a kind guard
pub guarded_with : (p : Board) (s : Sets) (c : Color) (k : Kind) (fixed : List Bool) → fixed ≡ set_of (is_fixed p s)
    → spread_of c k (set_common (set_of (λ f. is_man c k (man_at p.men f))) fixed) ≡ set_of (guards_with p s c k)
unfolding set_common is_stepped_to guards_with
guarded_with p s c k fixed is =
    let men = set_of (λ f. is_man c k (man_at p.men f)) in
    let both = λ (f : ℕ). has_square men f && has_square fixed f in
    same_set (is_stepped_to c k (set_of both)) (guards_with p s c k) (λ t small.
    any_alike (λ f. has_square (set_of both) f && steps_to c k f t) (λ f. is_man c k (man_at p.men f) && is_fixed p s f && steps_to c k f t) (λ f inside.
    ap (λ b. b && steps_to c k f t) (has-set_of both f inside
    ∙ ap (λ b. b && has_square fixed f) (has-set_of (λ f. is_man c k (man_at p.men f)) f inside)
    ∙ ap (λ b. is_man c k (man_at p.men f) && b) (ap (λ x. has_square x f) is ∙ has-set_of (is_fixed p s) f inside))))

man_guards : (c : Color) (k : Kind) (f t : ℕ) (o : Option Man) → is_man c k o ≡ true → steps_to c k f t ≡ true → guards_as c f t o ≡ true
unfolding guards_as steps_to
man_guards c k f t None is steps = cc
man_guards c k f t (Some man) is steps =
    let a = and_parts (same_color man.color c) (same_kind man.kind k) is in
    let P : Kind → Type 0 = λ j. (aims_at c j f t && (is_leaper j || (steps_apart f t == 1))) ≡ true in
    let b = and_parts (aims_at c man.kind f t) (is_leaper man.kind || (steps_apart f t == 1)) (subst P (sym (same_kind_equal man.kind k a.1)) steps) in
    and_from (same_color man.color c && aims_at c man.kind f t) (is_leaper man.kind || (steps_apart f t == 1)) (and_from (same_color man.color c) (aims_at c man.kind f t) a.0 b.0) b.1

guard_kind : (c : Color) (f t : ℕ) (o : Option Man) → guards_as c f t o ≡ true → (k : Kind) × (is_man c k o ≡ true) × (steps_to c k f t ≡ true)
unfolding guards_as steps_to
guard_kind c f t None h = cc
guard_kind c f t (Some man) h =
    let a = and_parts (same_color man.color c && aims_at c man.kind f t) (is_leaper man.kind || (steps_apart f t == 1)) h in
    let b = and_parts (same_color man.color c) (aims_at c man.kind f t) a.0 in
    (man.kind, and_from (same_color man.color c) (same_kind man.kind man.kind) b.0 (same_kind_self man.kind), and_from (aims_at c man.kind f t) (is_leaper man.kind || (steps_apart f t == 1)) b.1 a.1)

-- what is guarded is guarded by the fixed men of some kind
pub guarded_by_kind : (p : Board) (s : Sets) (c : Color) (t : ℕ) → list_any (λ k. guards_with p s c k t) kinds ≡ is_guarded p s c t
unfolding guards_with is_guarded guards_from
guarded_by_kind p s c t =
    let test = λ (k : Kind) (f : ℕ). is_man c k (man_at p.men f) && is_fixed p s f && steps_to c k f t in
    same_test (list_any (λ k. list_any (test k) squares) kinds) (list_any (guards_from p s c t) squares)
    (λ h. let k = some_kind (λ k. list_any (test k) squares) h in
    let f = some_square (test k.0) k.1 in
    let a = and_parts (is_man c k.0 (man_at p.men f.0) && is_fixed p s f.0) (steps_to c k.0 f.0 t) f.2 in
    let b = and_parts (is_man c k.0 (man_at p.men f.0)) (is_fixed p s f.0) a.0 in
    any_square_at (guards_from p s c t) f.0 f.1 (and_from (is_fixed p s f.0) (guards_as c f.0 t (man_at p.men f.0)) b.1 (man_guards c k.0 f.0 t (man_at p.men f.0) b.0 a.1)))
    (λ h. let f = some_square (guards_from p s c t) h in
    let a = and_parts (is_fixed p s f.0) (guards_as c f.0 t (man_at p.men f.0)) f.2 in
    let k = guard_kind c f.0 t (man_at p.men f.0) a.1 in
    any_kind_at (λ k. list_any (test k) squares) k.0 (any_square_at (test k.0) f.0 f.1
    (and_from (is_man c k.0 (man_at p.men f.0) && is_fixed p s f.0) (steps_to c k.0 f.0 t) (and_from (is_man c k.0 (man_at p.men f.0)) (is_fixed p s f.0) k.1 a.0) k.2)))

or_six : (a b c d e f : Bool) → (((((a || b) || c) || d) || e) || f) ≡ (a || (b || (c || (d || (e || (f || false))))))
or_six true b c d e f = refl
or_six false true c d e f = refl
or_six false false true d e f = refl
or_six false false false true e f = refl
or_six false false false false true f = refl
or_six false false false false false true = refl
or_six false false false false false false = refl

pub six_joined : (a b c d e f : List Bool)
    → set_joined (set_joined (set_joined (set_joined (set_joined a b) c) d) e) f
    ≡ set_of (λ s. has_square a s || (has_square b s || (has_square c s || (has_square d s || (has_square e s || (has_square f s || false))))))
unfolding set_joined
six_joined a b c d e f =
    let one = set_joined a b in
    let two = set_joined one c in
    let three = set_joined two d in
    let four = set_joined three e in
    let test = λ (s : ℕ). has_square a s || (has_square b s || (has_square c s || (has_square d s || (has_square e s || (has_square f s || false))))) in
    same_set (λ s. has_square four s || has_square f s) test (λ s small.
    ap (λ x. x || has_square f s) (joined_at three e s small ∙ ap (λ x. x || has_square e s) (joined_at two d s small ∙ ap (λ x. x || has_square d s) (joined_at one c s small ∙ ap (λ x. x || has_square c s) (joined_at a b s small))))
    ∙ or_six (has_square a s) (has_square b s) (has_square c s) (has_square d s) (has_square e s) (has_square f s))

-- what is in the sets of all kinds
pub kinds_joined : (f : Kind → ℕ → Bool) (a b d e g h : List Bool) → a ≡ set_of (f Pawn) → b ≡ set_of (f Knight) → d ≡ set_of (f Bishop) → e ≡ set_of (f Rook) → g ≡ set_of (f Queen) → h ≡ set_of (f King)
    → set_joined (set_joined (set_joined (set_joined (set_joined a b) d) e) g) h ≡ set_of (λ t. list_any (λ k. f k t) kinds)
kinds_joined f a b d e g h pawns knights bishops rooks queens kings =
    let at = λ (k : Kind) (x : List Bool) (is : x ≡ set_of (f k)) (t : ℕ) (small : t < 64). ap (λ y. has_square y t) is ∙ has-set_of (f k) t small in
    six_joined a b d e g h
    ∙ same_set (λ t. has_square a t || (has_square b t || (has_square d t || (has_square e t || (has_square g t || (has_square h t || false)))))) (λ t. list_any (λ k. f k t) kinds) (λ t small.
    rw (at Pawn a pawns t small, at Knight b knights t small, at Bishop d bishops t small, at Rook e rooks t small, at Queen g queens t small, at King h kings t small) refl)

pub guarded_are : (p : Board) (s : Sets) (c : Color) → set_of (λ t. list_any (λ k. guards_with p s c k t) kinds) ≡ set_of (is_guarded p s c)
guarded_are p s c = same_set (λ t. list_any (λ k. guards_with p s c k t) kinds) (is_guarded p s c) (λ t small. guarded_by_kind p s c t)

-- the target
pub no_target : (p : Board) (c : Color) → p.target ≡ None → empty_set ≡ set_of (is_target_for p c)
unfolding is_target_for
no_target p c none = same_set (λ _. false) (is_target_for p c) (λ t small. sym (ap (λ x. is_target x t && same_color c p.side) none))

pub target_of_other : (p : Board) (c : Color) → same_color c p.side ≡ false → empty_set ≡ set_of (is_target_for p c)
unfolding is_target_for
target_of_other p c other = same_set (λ _. false) (is_target_for p c) (λ t small. sym (and_right (is_target p.target t) (same_color c p.side) other))

pub target_of_own : (p : Board) (c : Color) (at : ℕ) → p.target ≡ Some at → same_color c p.side ≡ true → set_with empty_set at ≡ set_of (is_target_for p c)
unfolding is_target_for set_with
target_of_own p c at is own =
    same_set (λ s. (s == at) || has_square empty_set s) (is_target_for p c) (λ t small.
    same_test ((t == at) || has_square empty_set t) (is_target p.target t && same_color c p.side)
    (λ h. elim (or_cases (t == at) (has_square empty_set t) h) [
      | inl e ↦ and_from (is_target p.target t) (same_color c p.side) (ap (λ x. is_target x t) is ∙ eq-eqb at t (sym (eqb-true t at e))) own
      | inr none ↦ absurd (both_ways (has_square empty_set t) (in_empty t) none)
    ])
    (λ h. let e : (at == t) ≡ true = sym (ap (λ x. is_target x t) is) ∙ (and_parts (is_target p.target t) (same_color c p.side) h).0 in
    ap (λ b. b || has_square empty_set t) (eq-eqb t at (sym (eqb-true at t e)))))
