-- Which origins become loose.
use Rattle.std.proofs.Common.{◌≡◌, ℕ, ◌<◌, Bool, true, false, not, ◌&&◌, ◌||◌, ◌==◌, List, sym, ap, subst, ◌∙◌, inl, inr}
use Rattle.std.specs.List.{list_any}
use Rattle.std.proofs.lemmas.Bool.{and_parts, and_from, and_left, or_cases, or_left, both_ways, false_from_ne_true, not-true, not-false}
use Rattle.cha_board.specs.declared.men.Color.{Color}
use Rattle.cha_board.specs.declared.men.Kind.{Kind}
use Rattle.cha_board.specs.declared.men.Kind.TheVariants.{Pawn}
use Rattle.cha_board.specs.Men.{other_color, same_kind}
use Rattle.cha_board.specs.Squares.{squares}
use Rattle.cha_board.specs.SquareSets.{set_of, empty_set, has_square, set_with, set_joined, has_no_square}
use Rattle.cha_board.proofs.SetLaws.{has-set_of, same_set}
use Rattle.cha_board.specs.Shifts.{is_ahead}
use Rattle.cha_board.proofs.Scans.{any_square_at, no_square}
use Rattle.cha_board.proofs.Contents.{some_square, in_empty, in_single, single_has, same_test}
use Rattle.mob_check.specs.declared.ground.Ground.{Ground}
use Rattle.mob_check.specs.SingleSteps.{is_stepped_to, spread_of, stays}
use Rattle.mob_check.specs.Grounds.{side_in}
use Rattle.mob_check.specs.Rules.{is_barred, goes_on, is_entered, entered_from, comes_on, ends_on, is_struck, passes_on, is_passed, is_left, is_freed}

-- the squares that two sets share, and those of the first alone
abbrev meet : List Bool → List Bool → List Bool
meet a b = set_of (λ s. has_square a s && has_square b s)

abbrev minus : List Bool → List Bool → List Bool
minus a b = set_of (λ s. has_square a s && not (has_square b s))

-- whether a set has a square
none_in : (f : ℕ → Bool) (set : List Bool) → ((t : ℕ) → t < 64 → has_square set t ≡ f t) → has_no_square set ≡ true → list_any f squares ≡ false
unfolding has_no_square
none_in f set same none =
    let nothing = not-true (list_any (has_square set) squares) none in
    no_square f (λ t small. sym (same t small) ∙ false_from_ne_true (has_square set t) (λ h. both_ways (list_any (has_square set) squares) nothing (any_square_at (has_square set) t small h)))

some_in : (f : ℕ → Bool) (set : List Bool) → ((t : ℕ) → t < 64 → has_square set t ≡ f t) → has_no_square set ≡ false → list_any f squares ≡ true
unfolding has_no_square
some_in f set same some =
    let k = some_square (has_square set) (not-false (list_any (has_square set) squares) some) in
    any_square_at f k.0 k.1 (sym (same k.0 k.1) ∙ k.2)

-- the squares that are entered where a man stays what it is, and where it does not
pub comes_are : (g : Ground) (c : Color) (k : Kind) (from come set : List Bool) → come ≡ entered_from g c k from → set ≡ set_of (λ t. has_square come t && stays c k t) → set ≡ set_of (comes_on g c k from)
unfolding comes_on
comes_are g c k from come set is set_is =
    set_is ∙ same_set (λ t. has_square come t && stays c k t) (comes_on g c k from) (λ t small.
    ap (λ b. b && stays c k t) (ap (λ x. has_square x t) is ∙ has-set_of (is_entered g c k from) t small))

pub ends_are : (g : Ground) (c : Color) (k : Kind) (from come set : List Bool) → come ≡ entered_from g c k from → set ≡ set_of (λ t. has_square come t && not (stays c k t)) → set ≡ set_of (ends_on g c k from)
unfolding ends_on
ends_are g c k from come set is set_is =
    set_is ∙ same_set (λ t. has_square come t && not (stays c k t)) (ends_on g c k from) (λ t small.
    ap (λ b. b && not (stays c k t)) (ap (λ x. has_square x t) is ∙ has-set_of (is_entered g c k from) t small))

pub struck_are : (g : Ground) (c : Color) (k : Kind) (row prey barred free spread set : List Bool) → prey ≡ meet g.fixed (side_in g (other_color c)).men → ((t : ℕ) → t < 64 → has_square barred t ≡ is_barred g c k t)
    → free ≡ minus prey barred → spread ≡ spread_of c k row → set ≡ meet free spread → set ≡ set_of (is_struck g c k row)
unfolding is_struck
struck_are g c k row prey barred free spread set prey_is barred_is free_is spread_is set_is =
    set_is ∙ same_set (λ s. has_square free s && has_square spread s) (is_struck g c k row) (λ x small.
    let men = (side_in g (other_color c)).men in
    let a : has_square prey x ≡ (has_square g.fixed x && has_square men x) = ap (λ s. has_square s x) prey_is ∙ has-set_of (λ s. has_square g.fixed s && has_square men s) x small in
    let b : has_square barred x ≡ is_barred g c k x = barred_is x small in
    let f : has_square free x ≡ (has_square prey x && not (has_square barred x)) = ap (λ s. has_square s x) free_is ∙ has-set_of (λ s. has_square prey s && not (has_square barred s)) x small in
    let d : has_square spread x ≡ is_stepped_to c k row x = ap (λ s. has_square s x) spread_is ∙ has-set_of (is_stepped_to c k row) x small in
    ap (λ t. t && has_square spread x) (f ∙ ap (λ t. t && not (has_square barred x)) a ∙ ap (λ t. (has_square g.fixed x && has_square men x) && not t) b)
    ∙ ap (λ t. ((has_square g.fixed x && has_square men x) && not (is_barred g c k x)) && t) d)

pub passed_other : (g : Ground) (c : Color) (k : Kind) (row : List Bool) → same_kind k Pawn ≡ false → empty_set ≡ set_of (is_passed g c k row)
unfolding is_passed
passed_other g c k row other =
    same_set (λ _. false) (is_passed g c k row) (λ x small. sym (and_left (same_kind k Pawn) (is_ahead (other_color c) (set_of (passes_on g c k row)) x) other))

pub passed_pawn : (g : Ground) (c : Color) (k : Kind) (row spread onto set : List Bool) → same_kind k Pawn ≡ true → spread ≡ spread_of c k row → onto ≡ meet (side_in g c).target spread
    → set ≡ set_of (is_ahead (other_color c) onto) → set ≡ set_of (is_passed g c k row)
unfolding is_passed passes_on
passed_pawn g c k row spread onto set pawn spread_is onto_is set_is =
    let target = (side_in g c).target in
    let onto_all : onto ≡ set_of (passes_on g c k row) = onto_is ∙ same_set (λ s. has_square target s && has_square spread s) (passes_on g c k row) (λ t small.
    ap (λ b. has_square target t && b) (ap (λ s. has_square s t) spread_is ∙ has-set_of (is_stepped_to c k row) t small)) in
    set_is ∙ ap (λ (x : List Bool). set_of (is_ahead (other_color c) x)) onto_all
    ∙ same_set (is_ahead (other_color c) (set_of (passes_on g c k row))) (is_passed g c k row) (λ x small. sym (ap (λ b. b && is_ahead (other_color c) (set_of (passes_on g c k row)) x) pawn))

-- a man that may be on its origin goes from there
abbrev goes_home : Ground → ℕ → Color → Kind → List Bool → ℕ → Bool
goes_home g o c k row t = has_square row o && goes_on g c k o t

entered_from_home : (g : Ground) (o : ℕ) (c : Color) (k : Kind) (row one home : List Bool) → o < 64 → one ≡ set_with empty_set o → home ≡ meet row one → (t : ℕ) → t < 64
    → has_square (entered_from g c k home) t ≡ goes_home g o c k row t
unfolding is_entered
entered_from_home g o c k row one home small one_is home_is t small' =
    let from = λ (u : ℕ). has_square home u && goes_on g c k u t in
    let here = λ (u : ℕ) (inside : u < 64). ap (λ s. has_square s u) home_is ∙ has-set_of (λ s. has_square row s && has_square one s) u inside in
    has-set_of (is_entered g c k home) t small'
    ∙ same_test (list_any from squares) (has_square row o && goes_on g c k o t)
    (λ h. let x = some_square from h in
    let both = and_parts (has_square home x.0) (goes_on g c k x.0 t) x.2 in
    let two = and_parts (has_square row x.0) (has_square one x.0) (sym (here x.0 x.1) ∙ both.0) in
    let at : x.0 ≡ o = in_single o x.0 (sym (ap (λ s. has_square s x.0) one_is) ∙ two.1) in
    let P : ℕ → Type 0 = λ u. (has_square row u && goes_on g c k u t) ≡ true in
    subst P at (and_from (has_square row x.0) (goes_on g c k x.0 t) two.0 both.1))
    (λ h. let both = and_parts (has_square row o) (goes_on g c k o t) h in
    let one_has : has_square one o ≡ true = ap (λ s. has_square s o) one_is ∙ single_has o small in
    any_square_at from o small (and_from (has_square home o) (goes_on g c k o t) (here o small ∙ and_from (has_square row o) (has_square one o) both.0 one_has) both.1))

pub left_none : (g : Ground) (o : ℕ) (c : Color) (k : Kind) (row one home come : List Bool) → o < 64 → one ≡ set_with empty_set o → home ≡ meet row one → come ≡ entered_from g c k home
    → has_no_square come ≡ true → empty_set ≡ set_of (is_left g o c k row)
unfolding is_left
left_none g o c k row one home come small one_is home_is come_is none =
    let nothing = none_in (goes_home g o c k row) come (λ t inside. ap (λ s. has_square s t) come_is ∙ entered_from_home g o c k row one home small one_is home_is t inside) none in
    same_set (λ _. false) (is_left g o c k row) (λ x small'.
    sym (false_from_ne_true (is_left g o c k row x) (λ h.
    let a = and_parts ((x == o) && has_square row o) (list_any (goes_on g c k o) squares) h in
    let b = and_parts (x == o) (has_square row o) a.0 in
    let t = some_square (goes_on g c k o) a.1 in
    both_ways (list_any (goes_home g o c k row) squares) nothing (any_square_at (goes_home g o c k row) t.0 t.1 (and_from (has_square row o) (goes_on g c k o t.0) b.1 t.2)))))

pub left_some : (g : Ground) (o : ℕ) (c : Color) (k : Kind) (row one home come : List Bool) → o < 64 → one ≡ set_with empty_set o → home ≡ meet row one → come ≡ entered_from g c k home
    → has_no_square come ≡ false → set_with empty_set o ≡ set_of (is_left g o c k row)
unfolding is_left set_with
left_some g o c k row one home come small one_is home_is come_is some =
    let something = some_in (goes_home g o c k row) come (λ t inside. ap (λ s. has_square s t) come_is ∙ entered_from_home g o c k row one home small one_is home_is t inside) some in
    let t = some_square (goes_home g o c k row) something in
    let both = and_parts (has_square row o) (goes_on g c k o t.0) t.2 in
    let any : list_any (goes_on g c k o) squares ≡ true = any_square_at (goes_on g c k o) t.0 t.1 both.1 in
    same_set (λ s. (s == o) || has_square empty_set s) (is_left g o c k row) (λ x small'.
    same_test ((x == o) || has_square empty_set x) ((x == o) && has_square row o && list_any (goes_on g c k o) squares)
    (λ h. elim (or_cases (x == o) (has_square empty_set x) h) [
      | inl e ↦ and_from ((x == o) && has_square row o) (list_any (goes_on g c k o) squares) (and_from (x == o) (has_square row o) e both.0) any
      | inr none ↦ absurd (both_ways (has_square empty_set x) (in_empty x) none)
    ])
    (λ h. or_left (x == o) (has_square empty_set x) (and_parts (x == o) (has_square row o) (and_parts ((x == o) && has_square row o) (list_any (goes_on g c k o) squares) h).0).0))

pub freed_are : (g : Ground) (o : ℕ) (c : Color) (k : Kind) (row a b d ab set : List Bool) → a ≡ set_of (is_struck g c k row) → b ≡ set_of (is_passed g c k row) → d ≡ set_of (is_left g o c k row)
    → ab ≡ set_joined a b → set ≡ set_joined ab d → set ≡ set_of (is_freed g o c k row)
unfolding is_freed set_joined
freed_are g o c k row a b d ab set a_is b_is d_is ab_is set_is =
    set_is ∙ same_set (λ s. has_square ab s || has_square d s) (is_freed g o c k row) (λ x small.
    let e : has_square a x ≡ is_struck g c k row x = ap (λ s. has_square s x) a_is ∙ has-set_of (is_struck g c k row) x small in
    let f : has_square b x ≡ is_passed g c k row x = ap (λ s. has_square s x) b_is ∙ has-set_of (is_passed g c k row) x small in
    let h : has_square d x ≡ is_left g o c k row x = ap (λ s. has_square s x) d_is ∙ has-set_of (is_left g o c k row) x small in
    let i : has_square ab x ≡ (has_square a x || has_square b x) = ap (λ s. has_square s x) ab_is ∙ has-set_of (λ s. has_square a s || has_square b s) x small in
    ap (λ t. t || has_square d x) (i ∙ ap (λ t. t || has_square b x) e ∙ ap (λ t. is_struck g c k row x || t) f) ∙ ap (λ t. (is_struck g c k row x || is_passed g c k row x) || t) h)
