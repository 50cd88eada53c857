-- The squares beside a king towards the man that checks it, by tables over all pairs of squares.
use Rattle.std.proofs.Common.{◌≡◌, ℕ, ◌+◌, ◌-◌, Bool, true, false, not, ◌&&◌, ◌||◌, ◌==◌, cond, ltb, refl}
use Rattle.std.specs.List.{list_all}
use Rattle.cha_board.specs.declared.men.Color.TheVariants.{White}
use Rattle.cha_board.specs.declared.men.Kind.{Kind}
use Rattle.cha_board.specs.declared.men.Kind.TheVariants.{Knight, Bishop, Rook, Queen}
use Rattle.cha_board.specs.Squares.{squares, file_of, rank_of, files_apart, ranks_apart, steps_apart, is_straight, is_diagonal, is_line, aims_at, is_within, lies_between, between}

-- the square beside another along the rank, up or down, and along the file
unfoldable pub in_rank : Bool → ℕ → ℕ
in_rank up ks = cond up (ks + 1) (ks - 1)

unfoldable pub in_file : Bool → ℕ → ℕ
in_file up ks = cond up (ks + 8) (ks - 8)

-- on which side of ks the square s lies
abbrev pub is_right : ℕ → ℕ → Bool
is_right ks s = ltb (file_of ks) (file_of s)

abbrev pub is_above : ℕ → ℕ → Bool
is_above ks s = ltb (rank_of ks) (rank_of s)

-- the squares beside ks towards s: along the rank, along the file, and on the diagonal
unfoldable pub along_rank : ℕ → ℕ → ℕ
along_rank ks s = in_rank (is_right ks s) ks

unfoldable pub along_file : ℕ → ℕ → ℕ
along_file ks s = in_file (is_above ks s) ks

unfoldable pub across : ℕ → ℕ → ℕ
across ks s = in_file (is_above ks s) (in_rank (is_right ks s) ks)

-- n is a square to which the king on ks could step, and the man on s does not aim at it
unfoldable pub flight_test : Kind → (ℕ → ℕ → ℕ) → ℕ → ℕ → Bool
flight_test k n ks s =
    not (aims_at White k s ks) || (ltb (n ks s) 64 && (steps_apart ks (n ks s) == 1) && not (aims_at White k s (n ks s)))

pub flight_tables : (list_all (λ ks. list_all (flight_test Knight along_rank ks) squares) squares ≡ true)
    × (list_all (λ ks. list_all (flight_test Knight along_file ks) squares) squares ≡ true)
    × (list_all (λ ks. list_all (flight_test Bishop along_rank ks) squares) squares ≡ true)
    × (list_all (λ ks. list_all (flight_test Bishop along_file ks) squares) squares ≡ true)
unfolding flight_test along_rank along_file in_rank in_file aims_at steps_apart files_apart ranks_apart is_diagonal squares
flight_tables = (refl, refl, refl, refl)

-- no king covers both squares beside ks that touch one corner, unless it stands on ks or next to it
unfoldable pub far_test : Bool → Bool → ℕ → ℕ → Bool
far_test right up ks wk =
    not ((steps_apart ks (in_rank right ks) == 1) && (steps_apart ks (in_file up ks) == 1) && (steps_apart wk (in_rank right ks) == 1) && (steps_apart wk (in_file up ks) == 1))
    || ((wk == ks) || (steps_apart ks wk == 1))

pub far_table : (right up : Bool) → list_all (λ ks. list_all (far_test right up ks) squares) squares ≡ true
unfolding far_test in_rank in_file steps_apart files_apart ranks_apart squares
far_table true true = refl
far_table true false = refl
far_table false true = refl
far_table false false = refl

-- v is next to ks, and neither s nor n
unfoldable pub is_hole : ℕ → ℕ → ℕ → ℕ → Bool
is_hole ks s n v = (steps_apart ks v == 1) && not (v == s) && not (v == n)

-- a man of kind i on n goes over holes to t, and either captures on s or steps between s and ks
unfoldable pub reply_test : Kind → Kind → (ℕ → ℕ → ℕ) → (ℕ → ℕ → ℕ) → ℕ → ℕ → Bool
reply_test k i n t ks s =
    not (aims_at White k s ks)
    || (ltb (t ks s) 64 && aims_at White i (n ks s) (t ks s) && list_all (is_hole ks s (n ks s)) (between (n ks s) (t ks s))
    && ((t ks s == s) || (is_hole ks s (n ks s) (t ks s) && lies_between s ks (t ks s))))

-- the square of the man that checks
unfoldable pub there : ℕ → ℕ → ℕ
there ks s = s

pub reply_tables : (list_all (λ ks. list_all (reply_test Knight Queen along_rank there ks) squares) squares ≡ true)
    × (list_all (λ ks. list_all (reply_test Knight Queen along_file there ks) squares) squares ≡ true)
    × (list_all (λ ks. list_all (reply_test Bishop Rook along_rank across ks) squares) squares ≡ true)
    × (list_all (λ ks. list_all (reply_test Bishop Rook along_file across ks) squares) squares ≡ true)
    × (list_all (λ ks. list_all (reply_test Bishop Queen along_rank across ks) squares) squares ≡ true)
    × (list_all (λ ks. list_all (reply_test Bishop Queen along_file across ks) squares) squares ≡ true)
unfolding reply_test is_hole there across along_rank along_file in_rank in_file aims_at between lies_between is_within is_straight is_diagonal is_line steps_apart files_apart ranks_apart squares
reply_tables = (refl, refl, refl, refl, refl, refl)
