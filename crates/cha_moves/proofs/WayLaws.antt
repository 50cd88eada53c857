-- The legal moves are found among the ways of the men of the side to move.
use Rattle.std.proofs.Common.{◌≡◌, ◌≢◌, ℕ, ◌<◌, Bool, true, false, not, List, [], ◌∷◌, ◌++◌, Option, Some, None, inl, inr, refl, sym, ◌∙◌, ap, append_assoc, length, arith}
use Rattle.std.specs.List.{Contains, filter, flat_map}
use Rattle.std.proofs.lemmas.Bool.{and_from, and_left, both_ways, cases_Bool, false_from_ne_true}
use Rattle.std.proofs.lemmas.List.Elements.{filter-append}
use Rattle.cha_board.specs.declared.men.Kind.TheVariants.{Knight, Bishop, Rook, Queen}
use Rattle.cha_board.specs.declared.men.Man.{Man}
use Rattle.cha_board.specs.Men.{same_color, is_of}
use Rattle.cha_board.specs.Squares.{squares}
use Rattle.cha_board.specs.Board.{Board, man_at, in_check}
use Rattle.cha_board.specs.SquareSets.{set_of, has_square, squares_in}
use Rattle.cha_board.proofs.SetLaws.{has-set_of, same_set}
use Rattle.cha_moves.specs.Step.{Move}
use Rattle.cha_moves.specs.Moves.{goes, goes_as, may_enter, is_pseudo_legal, men_after, is_legal_in, moves_between, moves_from, all_moves, legal}
use Rattle.cha_moves.specs.Ways.{is_way, legal_between}
use Rattle.cha_moves.proofs.Made.{Mover, may_gives}
use Rattle.cha_moves.proofs.Contained.{Contains-cons_here, Contains-cons_there, Contains-squares_small}

-- what a filter keeps of the pieces of some squares alone, where the others have nothing that it keeps
filter_skips : {X : Type 0} (p : X → Bool) (f : ℕ → List X) (r : ℕ → Bool) (xs : List ℕ) → ((x : ℕ) → Contains xs x → r x ≡ false → filter p (f x) ≡ []) → filter p (flat_map f (filter r xs)) ≡ filter p (flat_map f xs)
filter_skips p f r [] none = refl
filter_skips p f r (x ∷ xs) none =
    let rest = filter_skips p f r xs (λ y inside h. none y (Contains-cons_there x xs y inside) h) in
    elim (cases_Bool (r x)) [
      | inl e ↦ rw e (filter-append p (f x) (flat_map f (filter r xs)) ∙ ap (λ ys. filter p (f x) ++ ys) rest ∙ sym (filter-append p (f x) (flat_map f xs)))
      | inr e ↦ rw e (rest ∙ ap (λ ys. ys ++ filter p (flat_map f xs)) (sym (none x (Contains-cons_here x xs x refl) e)) ∙ sym (filter-append p (f x) (flat_map f xs)))
    ]

-- the same for the squares of a set
pub filter_in_set : {X : Type 0} (p : X → Bool) (f : ℕ → List X) (test : ℕ → Bool) → ((x : ℕ) → x < 64 → test x ≡ false → filter p (f x) ≡ []) → filter p (flat_map f (squares_in (set_of test))) ≡ filter p (flat_map f squares)
filter_in_set p f test none =
    filter_skips p f (has_square (set_of test)) squares (λ x inside out.
    let small = Contains-squares_small x inside in
    none x small (sym (has-set_of test x small) ∙ out))

-- a filter of what is left of the pieces, from the next square on
pub filter_next : {X : Type 0} (p : X → Bool) (f : ℕ → List X) (old now all : List X) (left rest : List ℕ) (x : ℕ) → old ++ filter p (flat_map f left) ≡ all → left ≡ x ∷ rest → now ≡ old ++ filter p (f x)
    → now ++ filter p (flat_map f rest) ≡ all
filter_next p f old now all left rest x before next more =
    ap (λ xs. xs ++ filter p (flat_map f rest)) more
    ∙ append_assoc old (filter p (f x)) (filter p (flat_map f rest))
    ∙ ap (λ xs. old ++ xs) (sym (filter-append p (f x) (flat_map f rest)))
    ∙ ap (λ ys. old ++ filter p (flat_map f ys)) (sym next)
    ∙ before

-- the squares of a set, one after the other, each of which keeps nothing
pub filter_passed : {X : Type 0} (p : X → Bool) (f : ℕ → List X) (all : List X) (left rest : List ℕ) (x : ℕ) → all ≡ filter p (flat_map f left) → left ≡ x ∷ rest → filter p (f x) ≡ [] → all ≡ filter p (flat_map f rest)
filter_passed p f all left rest x before next none =
    before ∙ ap (λ ys. filter p (flat_map f ys)) next ∙ filter-append p (f x) (flat_map f rest) ∙ ap (λ ys. ys ++ filter p (flat_map f rest)) none

not_nothing : {X : Type 0} (a b : List X) → a ≢ [] → a ++ b ≢ []
not_nothing [] b some e = some refl
not_nothing (x ∷ a) b some e = cc

-- a square that keeps something
pub filter_found : {X : Type 0} (p : X → Bool) (f : ℕ → List X) (all : List X) (left rest : List ℕ) (x : ℕ) → all ≡ filter p (flat_map f left) → left ≡ x ∷ rest → filter p (f x) ≢ [] → all ≢ []
filter_found p f all left rest x before next some e =
    not_nothing (filter p (f x)) (filter p (flat_map f rest)) some (sym (before ∙ ap (λ ys. filter p (flat_map f ys)) next ∙ filter-append p (f x) (flat_map f rest)) ∙ e)

-- a pseudo-legal move is a way
pub way_of : (q : Board) (m : Move) (man : Man) → Mover q m man → is_way q m.from m.to ≡ true
unfolding is_way goes_as
way_of q m man may =
    and_from (goes_as q m.from m.to (man_at q.men m.from)) (may_enter q.side (man_at q.men m.to))
    (ap (goes_as q m.from m.to) may.found ∙ and_from (same_color man.color q.side) (goes q man.kind m.from m.to) may.own may.goes) may.enter

no_way_illegal : (q : Board) (m : Move) → is_way q m.from m.to ≡ false → is_legal_in q m ≡ false
unfolding is_legal_in
no_way_illegal q m h =
    and_left (is_pseudo_legal q m) (not (in_check (men_after q m) q.side)) (false_from_ne_true (is_pseudo_legal q m) (λ k. (
    let mover = may_gives q m k in
    both_ways (is_way q m.from m.to) h (way_of q m mover.0 mover.1))))

-- where there is no way, no move is legal
pub no_way_between : (q : Board) (s t : ℕ) → is_way q s t ≡ false → filter (is_legal_in q) (moves_between s t) ≡ []
no_way_between q s t h =
    let a = no_way_illegal q (record { from = s; to = t; promotion = None }) h in
    let b = no_way_illegal q (record { from = s; to = t; promotion = Some Queen }) h in
    let c = no_way_illegal q (record { from = s; to = t; promotion = Some Rook }) h in
    let d = no_way_illegal q (record { from = s; to = t; promotion = Some Bishop }) h in
    let e = no_way_illegal q (record { from = s; to = t; promotion = Some Knight }) h in
    rw (a, b, c, d, e) refl

-- the legal moves from a square are those among its ways
pub legal_by_ways : (q : Board) (s : ℕ) → filter (is_legal_in q) (flat_map (moves_between s) (squares_in (set_of (is_way q s)))) ≡ filter (is_legal_in q) (moves_from s)
unfolding moves_from
legal_by_ways q s = filter_in_set (is_legal_in q) (moves_between s) (is_way q s) (λ t small h. no_way_between q s t h)

own_way : (q : Board) (s t : ℕ) (o : Option Man) → is_of q.side o ≡ false → goes_as q s t o ≡ false
unfolding goes_as
own_way q s t None h = refl
own_way q s t (Some man) h = and_left (same_color man.color q.side) (goes q man.kind s t) h

no_own_way : (q : Board) (s t : ℕ) → is_of q.side (man_at q.men s) ≡ false → is_way q s t ≡ false
unfolding is_way
no_own_way q s t h = and_left (goes_as q s t (man_at q.men s)) (may_enter q.side (man_at q.men t)) (own_way q s t (man_at q.men s) h)

pub no_own_move : (q : Board) (s : ℕ) → is_of q.side (man_at q.men s) ≡ false → filter (is_legal_in q) (moves_from s) ≡ []
unfolding moves_from
no_own_move q s h = sym (legal_by_ways q s) ∙ filter_in_set (is_legal_in q) (moves_between s) (is_way q s) (λ t small e. no_way_between q s t e) ∙ all_empty (moves_between s) squares (λ t. no_way_between q s t (no_own_way q s t h))
  where
    all_empty : (f : ℕ → List Move) (xs : List ℕ) → ((t : ℕ) → filter (is_legal_in q) (f t) ≡ []) → filter (is_legal_in q) (flat_map f xs) ≡ []
    all_empty f [] none = refl
    all_empty f (x ∷ xs) none = filter-append (is_legal_in q) (f x) (flat_map f xs) ∙ rw (none x, all_empty f xs none) refl

-- the legal moves are those of the men of the side to move
pub legal_by_men : (q : Board) → filter (is_legal_in q) (flat_map moves_from (squares_in (set_of (λ s. is_of q.side (man_at q.men s))))) ≡ legal q
unfolding legal all_moves
legal_by_men q = filter_in_set (is_legal_in q) moves_from (λ s. is_of q.side (man_at q.men s)) (λ s small h. no_own_move q s h)

-- a square with no man has no way
pub no_ways : (q : Board) (s : ℕ) → is_of q.side (man_at q.men s) ≡ false → set_of (λ _. false) ≡ set_of (is_way q s)
no_ways q s h = same_set (λ _. false) (is_way q s) (λ t small. sym (no_own_way q s t h))

-- the moves of a square, from the next of its ways on
pub between_next : (q : Board) (s t : ℕ) (old now all : List Move) (left rest : List ℕ) → old ++ filter (is_legal_in q) (flat_map (moves_between s) left) ≡ all → left ≡ t ∷ rest → now ≡ old ++ legal_between q s t
    → now ++ filter (is_legal_in q) (flat_map (moves_between s) rest) ≡ all
unfolding legal_between
between_next q s t old now all left rest before next more = filter_next (is_legal_in q) (moves_between s) old now all left rest t before next more

pub between_found : (q : Board) (s t : ℕ) (all : List Move) (left rest : List ℕ) → all ≡ filter (is_legal_in q) (flat_map (moves_between s) left) → left ≡ t ∷ rest → legal_between q s t ≢ [] → all ≢ []
unfolding legal_between
between_found q s t all left rest before next some = filter_found (is_legal_in q) (moves_between s) all left rest t before next some
