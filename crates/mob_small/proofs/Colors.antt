-- The colours of squares, and the squares beside a king, by tables over all pairs of squares.
use Rattle.std.proofs.Common.{◌≡◌, ℕ, ◌<◌, Bool, true, false, not, ◌&&◌, ◌||◌, ◌==◌, ltb, ◌⊎◌, refl, inl, inr}
use Rattle.std.specs.List.{list_all}
use Rattle.std.proofs.lemmas.Bool.{and_parts, and_from, both_ways, not-true, or_cases, eqb-true}
use Rattle.cha_board.specs.declared.men.Color.TheVariants.{White}
use Rattle.cha_board.specs.declared.men.Kind.TheVariants.{Knight, Bishop, Queen}
use Rattle.cha_board.specs.Men.{same_color}
use Rattle.cha_board.specs.Squares.{squares, files_apart, ranks_apart, steps_apart, is_straight, is_diagonal, is_line, aims_at, is_within, lies_between, between, color_of_square}
use Rattle.cha_board.proofs.Identity.{if_at}
use Rattle.cha_board.proofs.Scans.{all_squares_at, pair_at}
use Rattle.mob_small.proofs.BesideKing.{in_rank, in_file, along_rank, along_file, across}

-- two squares of one colour
abbrev pub is_one_color : ℕ → ℕ → Bool
is_one_color s t = same_color (color_of_square s) (color_of_square t)

-- a diagonal has one colour, and is no rank or file
unfoldable pub diagonal_test : ℕ → ℕ → Bool
diagonal_test s t = not (is_diagonal s t) || (is_one_color s t && is_one_color t s && not (is_straight s t))

diagonal_table : list_all (λ s. list_all (diagonal_test s) squares) squares ≡ true
unfolding diagonal_test color_of_square is_diagonal is_straight files_apart ranks_apart squares
diagonal_table = refl

pub record Diagonal (s t : ℕ) : Type 0 where
  pub same : is_one_color s t ≡ true
  pub back : is_one_color t s ≡ true
  pub no_line : is_straight s t ≡ false

pub diagonal : (s t : ℕ) → s < 64 → t < 64 → is_diagonal s t ≡ true → Diagonal s t
unfolding diagonal_test
diagonal s t small small' h =
    let all = if_at (is_diagonal s t) (is_one_color s t && is_one_color t s && not (is_straight s t)) (pair_at diagonal_test diagonal_table s t small small') h in
    let a = and_parts (is_one_color s t && is_one_color t s) (not (is_straight s t)) all in
    let b = and_parts (is_one_color s t) (is_one_color t s) a.0 in
    record { same = b.0; back = b.1; no_line = not-true (is_straight s t) a.1 }

-- what lies between two squares of a diagonal lies on it
pub between_diagonal : (u k y : ℕ) → u < 64 → k < 64 → is_diagonal u k ≡ true → lies_between u k y ≡ true → (is_diagonal u y ≡ true) × (is_diagonal y k ≡ true)
unfolding lies_between
between_diagonal u k y small small' d lies =
    let parts = and_parts (is_within u k y) ((is_straight u k && is_straight u y && is_straight y k) || (is_diagonal u k && is_diagonal u y && is_diagonal y k)) lies in
    elim (or_cases (is_straight u k && is_straight u y && is_straight y k) (is_diagonal u k && is_diagonal u y && is_diagonal y k) parts.1) [
      | inl x ↦ (
          let a = and_parts (is_straight u k && is_straight u y) (is_straight y k) x in
          let b = and_parts (is_straight u k) (is_straight u y) a.0 in
          absurd (both_ways (is_straight u k) (diagonal u k small small' d).no_line b.0))
      | inr x ↦ (
          let a = and_parts (is_diagonal u k && is_diagonal u y) (is_diagonal y k) x in
          let b = and_parts (is_diagonal u k) (is_diagonal u y) a.0 in
          (b.1, a.1))
    ]

-- a square beside ks towards a bishop on s is of the other colour, and next to the square on the diagonal
unfoldable pub side_test : (ℕ → ℕ → ℕ) → ℕ → ℕ → Bool
side_test n ks s = not (aims_at White Bishop s ks) || (not (is_one_color (n ks s) ks) && (steps_apart (n ks s) (across ks s) == 1))

pub side_tables : (list_all (λ ks. list_all (side_test along_rank ks) squares) squares ≡ true) × (list_all (λ ks. list_all (side_test along_file ks) squares) squares ≡ true)
unfolding side_test color_of_square across along_rank along_file in_rank in_file aims_at steps_apart is_diagonal files_apart ranks_apart squares
side_tables = (refl, refl)

pub record Side (ks s n : ℕ) : Type 0 where
  pub other : is_one_color n ks ≡ false
  pub touches : (steps_apart n (across ks s) == 1) ≡ true

pub side : (n : ℕ → ℕ → ℕ) → list_all (λ ks. list_all (side_test n ks) squares) squares ≡ true
    → (ks s : ℕ) → ks < 64 → s < 64 → aims_at White Bishop s ks ≡ true → Side ks s (n ks s)
unfolding side_test
side n table ks s small small' aims =
    let h = if_at (aims_at White Bishop s ks) (not (is_one_color (n ks s) ks) && (steps_apart (n ks s) (across ks s) == 1)) (pair_at (side_test n) table ks s small small') aims in
    let a = and_parts (not (is_one_color (n ks s) ks)) (steps_apart (n ks s) (across ks s) == 1) h in
    record { other = not-true (is_one_color (n ks s) ks) a.0; touches = a.1 }

-- what lies between a square beside ks and a knight on s that checks it is next to both, and a queen there aims at the knight
unfoldable pub is_next : ℕ → ℕ → ℕ → Bool
is_next ks s v = ltb v 64 && (steps_apart ks v == 1) && (steps_apart v s == 1) && aims_at White Queen v s

unfoldable pub way_test : (ℕ → ℕ → ℕ) → ℕ → ℕ → Bool
way_test n ks s = not (aims_at White Knight s ks) || list_all (is_next ks s) (between (n ks s) s)

pub way_tables : (list_all (λ ks. list_all (way_test along_rank ks) squares) squares ≡ true) × (list_all (λ ks. list_all (way_test along_file ks) squares) squares ≡ true)
unfolding way_test is_next along_rank along_file in_rank in_file aims_at between lies_between is_within is_straight is_diagonal is_line steps_apart files_apart ranks_apart squares
way_tables = (refl, refl)

pub way : (n : ℕ → ℕ → ℕ) → list_all (λ ks. list_all (way_test n ks) squares) squares ≡ true
    → (ks s : ℕ) → ks < 64 → s < 64 → aims_at White Knight s ks ≡ true → list_all (is_next ks s) (between (n ks s) s) ≡ true
unfolding way_test
way n table ks s small small' aims =
    if_at (aims_at White Knight s ks) (list_all (is_next ks s) (between (n ks s) s)) (pair_at (way_test n) table ks s small small') aims

-- a test of all squares, which is made only where it is asked for
unfoldable pub where_asked : Bool → (ℕ → Bool) → Bool
where_asked true test = list_all test squares
where_asked false test = true

asked_at : (asked : Bool) (test : ℕ → Bool) (s : ℕ) → where_asked asked test ≡ true → asked ≡ true → s < 64 → test s ≡ true
unfolding where_asked
asked_at true test s h yes' small = all_squares_at test s h small
asked_at false test s h yes' small = cc

-- with f between u and k on a diagonal: where f lies between s and k too, u is s, or one of them lies between the other and k;
-- and what lies between f and k lies between u and k
unfoldable pub ray_test : ℕ → ℕ → ℕ → ℕ → Bool
ray_test k u f s =
    (not (is_diagonal s k && lies_between s k f) || ((u == s) || lies_between u k s || lies_between s k u)) && (not (lies_between f k s) || lies_between u k s)

unfoldable pub rays_test : ℕ → ℕ → Bool
rays_test k u = where_asked (is_diagonal u k) (λ f. where_asked (lies_between u k f) (ray_test k u f))

rays_table : list_all (λ k. list_all (rays_test k) squares) squares ≡ true
unfolding rays_test where_asked ray_test lies_between is_within is_straight is_diagonal files_apart ranks_apart squares
rays_table = refl

-- three squares of which the first two are of a diagonal, and the third between them
pub record Ray (k u f : ℕ) : Type 0 where
  pub king : k < 64
  pub behind : u < 64
  pub front : f < 64
  pub line : is_diagonal u k ≡ true
  pub lies : lies_between u k f ≡ true

ray_at : (k u f s : ℕ) → Ray k u f → s < 64 → ray_test k u f s ≡ true
unfolding rays_test
ray_at k u f s r small =
    let line = asked_at (is_diagonal u k) (λ f. where_asked (lies_between u k f) (ray_test k u f)) f (pair_at rays_test rays_table k u r.king r.behind) r.line r.front in
    asked_at (lies_between u k f) (ray_test k u f) s line r.lies small

pub behind_one : (k u f s : ℕ) → Ray k u f → Ray k s f → (u ≡ s) ⊎ ((lies_between u k s ≡ true) ⊎ (lies_between s k u ≡ true))
unfolding ray_test
behind_one k u f s r o =
    let line = (u == s) || lies_between u k s || lies_between s k u in
    let both = and_parts (not (is_diagonal s k && lies_between s k f) || line) (not (lies_between f k s) || lies_between u k s) (ray_at k u f s r o.behind) in
    let h = if_at (is_diagonal s k && lies_between s k f) line both.0 (and_from (is_diagonal s k) (lies_between s k f) o.line o.lies) in
    elim (or_cases ((u == s) || lies_between u k s) (lies_between s k u) h) [
      | inr x ↦ inr (inr x)
      | inl x ↦ elim (or_cases (u == s) (lies_between u k s) x) [
        | inl e ↦ inl (eqb-true u s e)
        | inr y ↦ inr (inl y)
      ]
    ]

pub farther : (k u f y : ℕ) → Ray k u f → y < 64 → lies_between f k y ≡ true → lies_between u k y ≡ true
unfolding ray_test
farther k u f y r small lies =
    let line = (u == y) || lies_between u k y || lies_between y k u in
    let both = and_parts (not (is_diagonal y k && lies_between y k f) || line) (not (lies_between f k y) || lies_between u k y) (ray_at k u f y r small) in
    if_at (lies_between f k y) (lies_between u k y) both.1 lies
