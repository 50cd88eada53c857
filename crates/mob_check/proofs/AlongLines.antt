-- A piece that goes along a line goes there square by square.
use Rattle.std.proofs.Common.{◌≡◌, ℕ, ◌+◌, ◌-◌, ◌/◌, ◌<◌, Bool, true, false, not, ◌&&◌, ◌||◌, ◌==◌, ltb, if◌then◌else◌, cond, List, [], ◌∷◌, filter, refl, sym, ap, ◌∙◌, inl, inr}
use Rattle.std.specs.List.{list_all}
use Rattle.std.specs.Int.{abs_diff}
use Rattle.std.proofs.lemmas.Bool.{and_parts, ltb-true, cases_Bool, not-true}
use Rattle.cha_board.specs.declared.men.Color.{Color}
use Rattle.cha_board.specs.declared.men.Color.TheVariants.{White, Black}
use Rattle.cha_board.specs.declared.men.Kind.{Kind}
use Rattle.cha_board.specs.declared.men.Kind.TheVariants.{Bishop, Rook, Queen}
use Rattle.cha_board.specs.Squares.{squares, files_apart, ranks_apart, steps_apart, is_straight, is_diagonal, is_line, aims_at, is_within, lies_between, between}
use Rattle.cha_board.specs.Board.{Board}
use Rattle.cha_board.proofs.Identity.{if_at, if_from}
use Rattle.cha_board.proofs.Scans.{all_squares_at, pair_at, each_square}
use Rattle.mob_law.specs.Reach.{is_fixed, is_open}
use Rattle.mob_sets.specs.Mobility.{Sets}

-- the square next to t, as one comes from u
before : ℕ → ℕ → ℕ
before u t = (let d = abs_diff u t / steps_apart u t in if ltb u t then t - d else t + d)

goes_by : Kind → ℕ → ℕ → ℕ → Bool
goes_by k u t v =
    ltb v 64 && aims_at White k u v && aims_at White k v t && (steps_apart v t == 1) && ltb (steps_apart u v) (steps_apart u t)
    && lies_between u t v && list_all (lies_between u t) (between u v)

line_test : Kind → ℕ → ℕ → Bool
line_test k u t = not (aims_at White k u t && not (steps_apart u t == 1)) || goes_by k u t (before u t)

table : Kind → Bool
table k = list_all (λ u. list_all (line_test k u) squares) squares

bishop_table : table Bishop ≡ true
unfolding table line_test goes_by before aims_at between lies_between is_within is_straight is_diagonal is_line steps_apart files_apart ranks_apart squares
bishop_table = refl

rook_table : table Rook ≡ true
unfolding table line_test goes_by before aims_at between lies_between is_within is_straight is_diagonal is_line steps_apart files_apart ranks_apart squares
rook_table = refl

queen_table : table Queen ≡ true
unfolding table line_test goes_by before aims_at between lies_between is_within is_straight is_diagonal is_line steps_apart files_apart ranks_apart squares
queen_table = refl

abbrev pub is_slider : Kind → Bool
is_slider Bishop = true
is_slider Rook = true
is_slider Queen = true
is_slider k = false

tested : (k : Kind) → is_slider k ≡ true → table k ≡ true
tested Bishop h = bishop_table
tested Rook h = rook_table
tested Queen h = queen_table
tested k h = cc

-- all lines are the same for both sides
white_aims : (c : Color) (k : Kind) (u t : ℕ) → is_slider k ≡ true → aims_at White k u t ≡ aims_at c k u t
unfolding aims_at
white_aims White k u t h = refl
white_aims Black Bishop u t h = refl
white_aims Black Rook u t h = refl
white_aims Black Queen u t h = refl
white_aims Black k u t h = cc

-- the last step of the way
pub record LastStep (c : Color) (k : Kind) (u t : ℕ) : Type 0 where
  pub from : ℕ
  pub small : from < 64
  pub first : aims_at c k u from ≡ true
  pub last : aims_at c k from t ≡ true
  pub near : (steps_apart from t == 1) ≡ true
  pub less : steps_apart u from < steps_apart u t
  pub on_way : lies_between u t from ≡ true
  pub way : list_all (lies_between u t) (between u from) ≡ true

pub last_step : (c : Color) (k : Kind) (u t : ℕ) → is_slider k ≡ true → u < 64 → t < 64 → aims_at c k u t ≡ true → (steps_apart u t == 1) ≡ false → LastStep c k u t
unfolding table line_test goes_by
last_step c k u t slider small small' aims far =
    let v = before u t in
    let test = pair_at (line_test k) (tested k slider) u t small small' in
    let start : (aims_at White k u t && not (steps_apart u t == 1)) ≡ true = rw (white_aims c k u t slider ∙ aims, far) refl in
    let all = if_at (aims_at White k u t && not (steps_apart u t == 1)) (goes_by k u t v) test start in
    let a = and_parts (ltb v 64 && aims_at White k u v && aims_at White k v t && (steps_apart v t == 1) && ltb (steps_apart u v) (steps_apart u t) && lies_between u t v) (list_all (lies_between u t) (between u v)) all in
    let b = and_parts (ltb v 64 && aims_at White k u v && aims_at White k v t && (steps_apart v t == 1) && ltb (steps_apart u v) (steps_apart u t)) (lies_between u t v) a.0 in
    let d = and_parts (ltb v 64 && aims_at White k u v && aims_at White k v t && (steps_apart v t == 1)) (ltb (steps_apart u v) (steps_apart u t)) b.0 in
    let e = and_parts (ltb v 64 && aims_at White k u v && aims_at White k v t) (steps_apart v t == 1) d.0 in
    let f = and_parts (ltb v 64 && aims_at White k u v) (aims_at White k v t) e.0 in
    let g = and_parts (ltb v 64) (aims_at White k u v) f.0 in
    record {
      from = v;
      small = ltb-true v 64 g.0;
      first = sym (white_aims c k u v slider) ∙ g.1;
      last = sym (white_aims c k v t slider) ∙ f.1;
      near = e.1;
      less = ltb-true (steps_apart u v) (steps_apart u t) d.1;
      on_way = b.1;
      way = a.1;
    }

-- a test of what a filter leaves, as a test of all
filtered : (f q : ℕ → Bool) (xs : List ℕ) → list_all f (filter q xs) ≡ list_all (λ x. not (q x) || f x) xs
filtered f q [] = refl
filtered f q (x ∷ xs) =
    elim (cases_Bool (q x)) [
      | inl e ↦ ap (λ b. list_all f (cond b (x ∷ filter q xs) (filter q xs))) e ∙ ap (λ b. f x && b) (filtered f q xs) ∙ sym (ap (λ b. (not b || f x) && list_all (λ x. not (q x) || f x) xs) e)
      | inr e ↦ ap (λ b. list_all f (cond b (x ∷ filter q xs) (filter q xs))) e ∙ filtered f q xs ∙ sym (ap (λ b. (not b || f x) && list_all (λ x. not (q x) || f x) xs) e)
    ]

-- what lies between two squares passes a test that all between them pass
pub between_at : (f : ℕ → Bool) (u t x : ℕ) → list_all f (between u t) ≡ true → x < 64 → lies_between u t x ≡ true → f x ≡ true
unfolding between
between_at f u t x all small lies =
    if_at (lies_between u t x) (f x) (all_squares_at (λ x. not (lies_between u t x) || f x) x (sym (filtered f (lies_between u t) squares) ∙ all) small) lies

pub between_from : (f : ℕ → Bool) (u t : ℕ) → ((x : ℕ) → x < 64 → lies_between u t x ≡ true → f x ≡ true) → list_all f (between u t) ≡ true
unfolding between
between_from f u t each =
    filtered f (lies_between u t) squares ∙ each_square (λ x. not (lies_between u t x) || f x) (λ x small. if_from (lies_between u t x) (f x) (each x small))

-- the way to the last step is open, and nothing fixed stands there
pub last_open : (p : Board) (s : Sets) (c : Color) (k : Kind) (u t : ℕ) → is_open p s u t ≡ true → (l : LastStep c k u t) → (is_open p s u l.from ≡ true) × (is_fixed p s l.from ≡ false)
unfolding is_open
last_open p s c k u t open_way l =
    let free = λ (v : ℕ). not (is_fixed p s v) in (
      between_from free u l.from (λ x small lies. between_at free u t x open_way small (between_at (lies_between u t) u l.from x l.way small lies)),
      not-true (is_fixed p s l.from) (between_at free u t l.from open_way l.small l.on_way),
    )
