-- The squares of a group, and the men that are in reach there.
use Rattle.std.proofs.Common.{◌≡◌, ℕ, ◌<◌, ◌==◌, Bool, true, false, not, ◌&&◌, List, length, get_or, Option, None, refl, ap, sym, subst, ◌∙◌, arith, inl, inr}
use Rattle.std.specs.List.{list_any}
use Rattle.std.proofs.lemmas.Bool.{and_parts, and_from, both_ways, cases_lt, eq-eqb, eqb-true}
use Rattle.std.proofs.lemmas.List.{get_or_past}
use Rattle.std.proofs.lemmas.List.Folds.{Any-from_list_any, list_any_at}
use Rattle.cha_board.specs.declared.men.Color.{Color}
use Rattle.cha_board.specs.declared.men.Kind.{Kind}
use Rattle.cha_board.specs.declared.men.Kind.TheVariants.{Pawn, Knight, Bishop, Rook, Queen, King}
use Rattle.cha_board.specs.declared.men.Man.{Man}
use Rattle.cha_board.specs.Men.{same_kind, is_man, is_non_king}
use Rattle.cha_board.specs.Board.{Board, man_at}
use Rattle.cha_board.specs.Squares.{squares, steps_apart}
use Rattle.cha_board.specs.SquareSets.{set_of, has_square, set_common, has_no_square}
use Rattle.cha_board.proofs.SetLaws.{has-set_of}
use Rattle.cha_board.proofs.Scans.{any_square_at}
use Rattle.cha_board.proofs.Contents.{some_square}
use Rattle.mob_check.specs.Grounds.{has_own}
use Rattle.mob_law.specs.Threats.{KingOn, NonKingOn, HasAtMostOneMan, MayStandNear}
use Rattle.mob_sets.specs.Rows.{Row, SetRows, is_entry, has_entry, sets_of}
use Rattle.cha_board.proofs.Identity.{same_kind_self, same_kind_equal}
use Rattle.mob_sets.proofs.RowsShow.{entry_parts, entry_from}
use Rattle.mob_check.specs.declared.groups.Group.{Group}
use Rattle.mob_check.specs.declared.groups.Group.TheVariants.{KingOf, MenOf, MenAs}
use Rattle.mob_check.specs.Nearness.{next_to}
use Rattle.mob_check.specs.Reaches.{is_row_of, reaches_by, reaches, reach_of, is_row_on, originates, origins_of}
use Rattle.mob_check.specs.Scenes.{squares_as, reach_by_kind, has_at_most_one}
use Rattle.mob_check.proofs.AtMostOne.{at_most_one, several}
use Rattle.mob_check.proofs.NextTo.{near_has}

-- where men are in reach as a kind
pub squares_as_is : (p : Board) (rows : List Row) (c : Color) (k : Kind) → squares_as (reach_by_kind p rows c) k ≡ reach_of p rows (MenAs c k)
unfolding reach_by_kind
squares_as_is p rows c Pawn = refl
squares_as_is p rows c Knight = refl
squares_as_is p rows c Bishop = refl
squares_as_is p rows c Rook = refl
squares_as_is p rows c Queen = refl
squares_as_is p rows c King = refl

-- a row of a group that has a square
record RowOn (p : Board) (rows : List Row) (group : Group) (u : ℕ) : Type 0 where
  row : Row
  is : is_row_of p group row ≡ true
  square : has_square row.squares u ≡ true
  entry : (k : Kind) → row.kind ≡ k → has_entry rows row.origin k u ≡ true

row_on : (p : Board) (rows : List Row) (group : Group) (u : ℕ) → u < 64 → has_square (reach_of p rows group) u ≡ true → RowOn p rows group u
unfolding reach_of reaches reaches_by has_entry
row_on p rows group u small h =
    let found = Any-from_list_any (reaches_by p group u) rows (sym (has-set_of (reaches p rows group) u small) ∙ h) in
    let row = found.1 in
    let both = and_parts (is_row_of p group row) (has_square row.squares u) found.4 in
    record {
      row = row;
      is = both.0;
      square = both.1;
      entry = λ k e. list_any_at (is_entry row.origin k u) rows found.0 row found.2 (ap (is_entry row.origin k u) found.3 ∙ entry_from row.origin k u row refl e both.1);
    }

-- the square of a row is an entry
entry_at : (rows : List Row) (i : ℕ) (row : Row) → i < length rows → get_or rows i row ≡ row → (o : ℕ) (k : Kind) (u : ℕ) → row.origin ≡ o → has_square row.squares u ≡ true → has_entry rows o row.kind u ≡ true
unfolding has_entry
entry_at rows i row inside at o k u same here = list_any_at (is_entry o row.kind u) rows i row inside (ap (is_entry o row.kind u) at ∙ entry_from o row.kind u row same refl here)

twice_not : (b : Bool) → not (not b) ≡ true → b ≡ true
twice_not true h = refl
twice_not false h = cc

-- an entry whose row is of a group
on_row : (p : Board) (rows : List Row) (group : Group) (o : ℕ) (k : Kind) (u : ℕ) → u < 64 → has_entry rows o k u ≡ true → ((row : Row) → row.origin ≡ o → row.kind ≡ k → is_row_of p group row ≡ true) → has_square (reach_of p rows group) u ≡ true
unfolding reach_of reaches reaches_by has_entry
on_row p rows group o k u small reach of =
    let found = Any-from_list_any (is_entry o k u) rows reach in
    let row = found.1 in
    let parts = entry_parts o k u row found.4 in
    let passes = and_from (is_row_of p group row) (has_square row.squares u) (of row parts.origin parts.kind) parts.square in
    has-set_of (reaches p rows group) u small ∙ list_any_at (reaches_by p group u) rows found.0 row found.2 (ap (reaches_by p group u) found.3 ∙ passes)

-- For a position and rows:
module _ (p : Board) (r : SetRows) where
  pub king_gives : (c : Color) (u : ℕ) → u < 64 → has_square (reach_of p r.rows (KingOf c)) u ≡ true → KingOn p (sets_of r) c u
  unfolding is_row_of
  king_gives c u small h =
      let on = row_on p r.rows (KingOf c) u small h in
      let both = and_parts (same_kind on.row.kind King) (is_man c King (man_at p.men on.row.origin)) on.is in
      record { origin = on.row.origin; stood = both.1; reach = on.entry King (same_kind_equal on.row.kind King both.0); small = small }

  pub king_from : (c : Color) (u : ℕ) → KingOn p (sets_of r) c u → has_square (reach_of p r.rows (KingOf c)) u ≡ true
  unfolding is_row_of
  king_from c u k =
      on_row p r.rows (KingOf c) k.origin King u k.small k.reach (λ row e f.
      and_from (same_kind row.kind King) (is_man c King (man_at p.men row.origin)) (ap (λ x. same_kind x King) f) (ap (λ o. is_man c King (man_at p.men o)) e ∙ k.stood))

  pub man_gives : (c : Color) (k : Kind) (u : ℕ) → u < 64 → has_square (reach_of p r.rows (MenAs c k)) u ≡ true → NonKingOn p (sets_of r) c k u
  unfolding is_row_of
  man_gives c k u small h =
      let on = row_on p r.rows (MenAs c k) u small h in
      let both = and_parts (same_kind on.row.kind k) (is_non_king c (man_at p.men on.row.origin)) on.is in
      record { origin = on.row.origin; stood = both.1; reach = on.entry k (same_kind_equal on.row.kind k both.0); small = small }

  pub man_from : (c : Color) (k : Kind) (u : ℕ) → NonKingOn p (sets_of r) c k u → has_square (reach_of p r.rows (MenAs c k)) u ≡ true
  unfolding is_row_of
  man_from c k u m =
      on_row p r.rows (MenAs c k) m.origin k u m.small m.reach (λ row e f.
      and_from (same_kind row.kind k) (is_non_king c (man_at p.men row.origin)) (ap (λ x. same_kind x k) f ∙ same_kind_self k) (ap (λ o. is_non_king c (man_at p.men o)) e ∙ m.stood))

  pub any_gives : (c : Color) (u : ℕ) → u < 64 → has_square (reach_of p r.rows (MenOf c)) u ≡ true → (k : Kind) × NonKingOn p (sets_of r) c k u
  unfolding is_row_of
  any_gives c u small h =
      let on = row_on p r.rows (MenOf c) u small h in
      (on.row.kind, record { origin = on.row.origin; stood = on.is; reach = on.entry on.row.kind refl; small = small })

  pub any_from : (c : Color) (k : Kind) (u : ℕ) → NonKingOn p (sets_of r) c k u → has_square (reach_of p r.rows (MenOf c)) u ≡ true
  unfolding is_row_of
  any_from c k u m =
      on_row p r.rows (MenOf c) m.origin k u m.small m.reach (λ row e f. ap (λ o. is_non_king c (man_at p.men o)) e ∙ m.stood)

-- a man stands on the board
pub small_of : (men : List (Option Man)) (c : Color) (u : ℕ) → length men ≡ 64 → is_non_king c (man_at men u) ≡ true → u < 64
small_of men c u size h =
    elim (cases_lt u 64) [
      | inl small ↦ small
      | inr past ↦ (
          let none : is_non_king c (man_at men u) ≡ false = ap (is_non_king c) (get_or_past men u None (omega (arith, size, past))) in
          absurd (both_ways (is_non_king c (man_at men u)) none h))
    ]

-- the man of an origin that rows have on some square next to ks
pub near_gives : (p : Board) (r : SetRows) (c : Color) (ks o : ℕ) → o < 64 → has_square (origins_of p r.rows c (next_to ks)) o ≡ true → MayStandNear p (sets_of r) c ks o
unfolding origins_of originates is_row_on is_row_of has_no_square set_common
near_gives p r c ks o small h =
    let test = λ (o : ℕ) (row : Row). (o == row.origin) && (is_non_king c (man_at p.men row.origin) && not (not (list_any (has_square (set_of (λ s. has_square row.squares s && has_square (next_to ks) s))) squares))) in
    let found = Any-from_list_any (test o) r.rows (sym (has-set_of (λ o. list_any (test o) r.rows) o small) ∙ h) in
    let row = found.1 in
    let at = λ (s : ℕ). has_square row.squares s && has_square (next_to ks) s in
    let a = and_parts (o == row.origin) (is_non_king c (man_at p.men row.origin) && not (not (list_any (has_square (set_of at)) squares))) found.4 in
    let b = and_parts (is_non_king c (man_at p.men row.origin)) (not (not (list_any (has_square (set_of at)) squares))) a.1 in
    let n = some_square (has_square (set_of at)) (twice_not (list_any (has_square (set_of at)) squares) b.1) in
    let both = and_parts (has_square row.squares n.0) (has_square (next_to ks) n.0) (sym (has-set_of at n.0 n.1) ∙ n.2) in
    let same = eqb-true o row.origin a.0 in
    let P : ℕ → Type 0 = λ x. is_non_king c (man_at p.men x) ≡ true in
    record {
      stood = subst P (sym same) b.0;
      kind = row.kind;
      square = n.0;
      small = n.1;
      next = eqb-true (steps_apart ks n.0) 1 (sym (near_has ks n.0 n.1) ∙ both.1);
      reach = entry_at r.rows found.0 row found.2 found.3 o row.kind n.0 (sym same) both.0;
    }

pub near_from : (p : Board) (r : SetRows) (c : Color) (ks o : ℕ) → length p.men ≡ 64 → MayStandNear p (sets_of r) c ks o → has_square (origins_of p r.rows c (next_to ks)) o ≡ true
unfolding origins_of originates is_row_on is_row_of has_no_square set_common has_entry
near_from p r c ks o size m =
    let test = λ (o : ℕ) (row : Row). (o == row.origin) && (is_non_king c (man_at p.men row.origin) && not (not (list_any (has_square (set_of (λ s. has_square row.squares s && has_square (next_to ks) s))) squares))) in
    let found = Any-from_list_any (is_entry o m.kind m.square) r.rows m.reach in
    let row = found.1 in
    let parts = entry_parts o m.kind m.square row found.4 in
    let at = λ (s : ℕ). has_square row.squares s && has_square (next_to ks) s in
    let here = and_from (has_square row.squares m.square) (has_square (next_to ks) m.square) parts.square (near_has ks m.square m.small ∙ eq-eqb (steps_apart ks m.square) 1 m.next) in
    let some = any_square_at (has_square (set_of at)) m.square m.small (has-set_of at m.square m.small ∙ here) in
    let P : ℕ → Type 0 = λ x. is_non_king c (man_at p.men x) ≡ true in
    let b = and_from (is_non_king c (man_at p.men row.origin)) (not (not (list_any (has_square (set_of at)) squares))) (subst P (sym parts.origin) m.stood) (ap (λ x. not (not x)) some) in
    let passes = and_from (o == row.origin) (is_non_king c (man_at p.men row.origin) && not (not (list_any (has_square (set_of at)) squares))) (eq-eqb o row.origin (sym parts.origin)) b in
    has-set_of (λ o. list_any (test o) r.rows) o (small_of p.men c o size m.stood) ∙ list_any_at (test o) r.rows found.0 row found.2 (ap (test o) found.3 ∙ passes)

-- a side has at most one man beside its king, or more
pub one_from : (p : Board) (c : Color) → length p.men ≡ 64 → has_at_most_one (set_of (has_own p c)) ≡ true → HasAtMostOneMan p c
unfolding has_own
one_from p c size few u v here there =
    at_most_one (λ s. is_non_king c (man_at p.men s)) few u v (small_of p.men c u size here) (small_of p.men c v size there) here there

pub several_not_one : (p : Board) (c : Color) → has_at_most_one (set_of (has_own p c)) ≡ false → HasAtMostOneMan p c → ⊥
unfolding has_own
several_not_one p c more one =
    let two = several (λ s. is_non_king c (man_at p.men s)) more in
    two.apart (one two.first two.second two.here two.there)
