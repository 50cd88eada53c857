-- The squares that a group reaches, row by row.
use Rattle.std.proofs.Common.{◌≡◌, ℕ, ◌+◌, ◌<◌, ◌==◌, Bool, true, false, ◌&&◌, ◌||◌, List, [], length, get_or, take, refl, ap, sym, ◌∙◌}
use Rattle.std.specs.List.{list_any}
use Rattle.std.proofs.lemmas.List.Folds.{list_any_more}
use Rattle.std.proofs.lemmas.Bool.{and_right}
use Rattle.std.proofs.Math.Bool.{or_comm, or-false, and-true}
use Rattle.cha_board.specs.declared.men.Color.{Color}
use Rattle.cha_board.specs.Board.{Board}
use Rattle.cha_board.specs.SquareSets.{set_of, has_square, empty_set, set_with, set_joined}
use Rattle.cha_board.proofs.SetLaws.{has-set_of, same_set}
use Rattle.mob_sets.specs.Rows.{Row}
use Rattle.mob_check.specs.declared.groups.Group.{Group}
use Rattle.mob_check.specs.Reaches.{is_row_of, reaches_by, reaches, reach_of, is_row_on, originates, origins_of}

pub none_reach : (p : Board) (group : Group) → empty_set ≡ reach_of p [] group
unfolding reach_of reaches
none_reach p group = refl

-- one row more
row_more : (p : Board) (rows : List Row) (group : Group) (i : ℕ) (d : Row) (u : ℕ) → i < length rows
    → reaches p (take (i + 1) rows) group u ≡ (reaches p (take i rows) group u || reaches_by p group u (get_or rows i d))
unfolding reaches
row_more p rows group i d u inside = list_any_more (reaches_by p group u) rows i d inside

pub joined_reach : (p : Board) (rows : List Row) (group : Group) (i : ℕ) (d : Row) → i < length rows → is_row_of p group (get_or rows i d) ≡ true
    → set_joined (reach_of p (take i rows) group) (get_or rows i d).squares ≡ reach_of p (take (i + 1) rows) group
unfolding reach_of set_joined reaches_by
joined_reach p rows group i d inside is =
    let before = reaches p (take i rows) group in
    let row = get_or rows i d in
    same_set (λ s. has_square (set_of before) s || has_square row.squares s) (reaches p (take (i + 1) rows) group) (λ s small.
    ap (λ b. b || has_square row.squares s) (has-set_of before s small) ∙ sym (row_more p rows group i d s inside ∙ rw is refl))

pub skipped_reach : (p : Board) (rows : List Row) (group : Group) (i : ℕ) (d : Row) → i < length rows → is_row_of p group (get_or rows i d) ≡ false
    → reach_of p (take i rows) group ≡ reach_of p (take (i + 1) rows) group
unfolding reach_of reaches_by
skipped_reach p rows group i d inside is =
    same_set (reaches p (take i rows) group) (reaches p (take (i + 1) rows) group) (λ s small.
    sym (row_more p rows group i d s inside ∙ rw is (or-false (reaches p (take i rows) group s))))

-- The men that are in reach on some squares, row by row.
pub none_originate : (p : Board) (c : Color) (on : List Bool) → empty_set ≡ origins_of p [] c on
unfolding origins_of
none_originate p c on = refl

pub one_origin : (p : Board) (rows : List Row) (c : Color) (on : List Bool) (i : ℕ) (d : Row) → i < length rows → is_row_on p c on (get_or rows i d) ≡ true
    → set_with (origins_of p (take i rows) c on) (get_or rows i d).origin ≡ origins_of p (take (i + 1) rows) c on
unfolding set_with origins_of originates
one_origin p rows c on i d inside is =
    let row = get_or rows i d in
    let test = λ (o : ℕ) (r : Row). (o == r.origin) && is_row_on p c on r in
    let before = λ (o : ℕ). list_any (test o) (take i rows) in
    same_set (λ o. (o == row.origin) || has_square (set_of before) o) (λ o. list_any (test o) (take (i + 1) rows)) (λ o small.
    ap (λ b. (o == row.origin) || b) (has-set_of before o small) ∙ or_comm (o == row.origin) (before o)
    ∙ sym (list_any_more (test o) rows i d inside ∙ ap (λ b. before o || b) (ap (λ b. (o == row.origin) && b) is ∙ and-true (o == row.origin))))

pub skipped_origin : (p : Board) (rows : List Row) (c : Color) (on : List Bool) (i : ℕ) (d : Row) → i < length rows → is_row_on p c on (get_or rows i d) ≡ false
    → origins_of p (take i rows) c on ≡ origins_of p (take (i + 1) rows) c on
unfolding origins_of originates
skipped_origin p rows c on i d inside is =
    let row = get_or rows i d in
    let test = λ (o : ℕ) (r : Row). (o == r.origin) && is_row_on p c on r in
    let before = λ (o : ℕ). list_any (test o) (take i rows) in
    same_set before (λ o. list_any (test o) (take (i + 1) rows)) (λ o small.
    sym (list_any_more (test o) rows i d inside ∙ ap (λ b. before o || b) (and_right (o == row.origin) (is_row_on p c on row) is) ∙ or-false (before o)))
