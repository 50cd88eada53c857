-- What rows show once squares have been joined to one of them, and that they stay tidy.
use Rattle.std.proofs.Common.{◌≡◌, ◌≢◌, ℕ, ◌<◌, Bool, true, false, not, ◌&&◌, ◌||◌, ◌==◌, List, length, get_or, set, refl, ap, sym, ◌∙◌, arith, inl, inr}
use Rattle.std.specs.List.{list_any, insert}
use Rattle.std.proofs.lemmas.Bool.{cases_lt, or_right, both_ways, false_from_ne_true, not-true}
use Rattle.std.proofs.Math.Bool.{or-false}
use Rattle.std.proofs.lemmas.List.{get_or_past, get_or_default, length-set}
use Rattle.std.proofs.lemmas.List.Elements.{All-set}
use Rattle.cha_board.specs.declared.men.Kind.{Kind}
use Rattle.cha_board.specs.declared.men.Kind.TheVariants.{Pawn}
use Rattle.cha_board.specs.Men.{same_kind}
use Rattle.cha_board.specs.Squares.{squares}
use Rattle.cha_board.specs.SquareSets.{empty_set, has_square, set_with, set_joined, has_no_square}
use Rattle.cha_board.proofs.SetLaws.{length-set_of, same_squares}
use Rattle.cha_board.proofs.Scans.{any_square_at, no_square}
use Rattle.mob_sets.specs.Rows.{Row, is_entry, has_entry, entries_joined, sets_with, sets_joined, row_joined, place_of, row_place}
use Rattle.mob_sets.specs.Tidy.{AreTidy, IsFull, IsThere, IsMissing}
use Rattle.mob_sets.proofs.Order.{place_tells}
use Rattle.cha_board.proofs.Contents.{in_empty, has-set_with, has-set_joined}
use Rattle.mob_sets.specs.Mobility.{Sets}
use Rattle.mob_sets.proofs.RowsShow.{any_replaced, any_inserted, shared}
use Rattle.mob_sets.proofs.Keeping.{inserted_tidy, place_kept}

joined_row : (row : Row) (o : ℕ) (k : Kind) (more : List Bool) (p : ℕ) (j : Kind) (v : ℕ) → length row.squares ≡ 64 → length more ≡ 64 → row.origin ≡ o → row.kind ≡ k
    → is_entry p j v (row_joined row more) ≡ (((o == p) && same_kind k j && has_square more v) || is_entry p j v row)
joined_row row o k more p j v width long e f =
    ap (λ b. (row.origin == p) && same_kind row.kind j && b) (has-set_joined more row.squares v long width)
    ∙ shared (row.origin == p) (same_kind row.kind j) (has_square more v) (has_square row.squares v)
    ∙ ap (λ x. ((x == p) && same_kind row.kind j && has_square more v) || is_entry p j v row) e
    ∙ ap (λ x. ((o == p) && same_kind x j && has_square more v) || is_entry p j v row) f

pub joined_entries : (rows : List Row) (i o : ℕ) (k : Kind) (more : List Bool) (d : Row) → AreTidy rows → IsThere rows i (place_of o k) → length more ≡ 64
    → has_entry (set rows i (row_joined (get_or rows i d) more)) ≡ entries_joined (has_entry rows) o k more
unfolding has_entry
joined_entries rows i o k more d tidy there long =
    let row = get_or rows i d in
    let it = place_tells row.origin o row.kind k (there.same d) in
    let each = λ (p : ℕ) (j : Kind) (v : ℕ).
    any_replaced (is_entry p j v) ((o == p) && same_kind k j && has_square more v) rows i (row_joined row more) d there.inside (joined_row row o k more p j v (tidy.full i d there.inside).width long it.0 it.1) in
    λ t p j v. each p j v t

pub placed_entries : (rows : List Row) (i o : ℕ) (k : Kind) (more : List Bool) → has_entry (insert rows i (record { origin = o; kind = k; squares = more })) ≡ entries_joined (has_entry rows) o k more
unfolding has_entry
placed_entries rows i o k more =
    let each = λ (p : ℕ) (j : Kind) (v : ℕ).
    any_inserted (is_entry p j v) ((o == p) && same_kind k j && has_square more v) rows i (record { origin = o; kind = k; squares = more }) refl in
    λ t p j v. each p j v t

-- no squares add nothing
none_has : (more : List Bool) → has_no_square more ≡ true → length more ≡ 64 → (v : ℕ) → has_square more v ≡ false
unfolding has_no_square
none_has more none long v =
    elim (cases_lt v 64) [
      | inl small ↦ false_from_ne_true (has_square more v) (λ h. both_ways (list_any (has_square more) squares) (not-true (list_any (has_square more) squares) none) (any_square_at (has_square more) v small h))
      | inr past ↦ get_or_past more v false (omega (arith, long, past))
    ]

nothing : (a b h : Bool) → ((a && b && false) || h) ≡ h
nothing true true h = refl
nothing true false h = refl
nothing false b h = refl

pub none_entries : (rows : List Row) (o : ℕ) (k : Kind) (more : List Bool) → has_no_square more ≡ true → length more ≡ 64 → has_entry rows ≡ entries_joined (has_entry rows) o k more
none_entries rows o k more none long =
    let each = λ (p : ℕ) (j : Kind) (v : ℕ).
    sym (ap (λ b. ((o == p) && same_kind k j && b) || has_entry rows p j v) (none_has more none long v) ∙ nothing (o == p) (same_kind k j) (has_entry rows p j v)) in
    λ t p j v. each p j v t

-- squares of which there are some are not the empty set
pub some_squares : (more : List Bool) → has_no_square more ≡ false → more ≢ empty_set
unfolding has_no_square
some_squares more some e =
    let none : list_any (has_square empty_set) squares ≡ false = no_square (has_square empty_set) (λ s small. in_empty s) in
    both_ways (not (list_any (has_square more) squares)) some (ap (λ x. not (list_any (has_square x) squares)) e ∙ ap not none)

full_joined : (row : Row) (more : List Bool) → IsFull row → length more ≡ 64 → IsFull (row_joined row more)
unfolding set_joined
full_joined row more full long = record {
  width = length-set_of (λ s. has_square more s || has_square row.squares s);
  some = λ e. full.some (same_squares row.squares empty_set full.width (length-set_of (λ _. false)) (λ s small.
      false_from_ne_true (has_square row.squares s) (λ h.
      both_ways (has_square (set_joined more row.squares) s) (ap (λ x. has_square x s) e ∙ in_empty s)
      (has-set_joined more row.squares s long full.width ∙ or_right (has_square more s) (has_square row.squares s) h)) ∙ sym (in_empty s)));
}

pub joined_tidy : (rows : List Row) (i : ℕ) (more : List Bool) (e : Row) → AreTidy rows → i < length rows → length more ≡ 64 → AreTidy (set rows i (row_joined (get_or rows i e) more))
joined_tidy rows i more e tidy inside wide =
    let y = row_joined (get_or rows i e) more in
    let long = length-set rows i y in
    record {
      ordered = λ a b d less within. (
          let up = tidy.ordered a b d less (omega (arith, long, within)) in
          let same : row_place y ≡ row_place (get_or rows i d) = ap row_place (get_or_default rows i e d inside) in
          let f = place_kept rows i y a d inside same in
          let g = place_kept rows i y b d inside same in
          omega (arith, up, f, g));
      full = All-set IsFull rows i y (full_joined (get_or rows i e) more (tidy.full i e inside) wide) tidy.full;
    }

pub placed_tidy : (rows : List Row) (i o : ℕ) (k : Kind) (more : List Bool) → AreTidy rows → IsMissing rows i (place_of o k) → length more ≡ 64 → more ≢ empty_set
    → AreTidy (insert rows i (record { origin = o; kind = k; squares = more }))
placed_tidy rows i o k more tidy missing long some =
    inserted_tidy rows i (record { origin = o; kind = k; squares = more }) tidy missing (record { width = long; some = some })

-- a row to stand where a list has none
abbrev pub no_row : Row
no_row = record { origin = 0; kind = Pawn; squares = empty_set }

-- one square more
pub joined_one : (s : Sets) (o : ℕ) (k : Kind) (u : ℕ) → u < 64 → sets_joined s o k (set_with empty_set u) ≡ sets_with s o k u
joined_one s o k u small =
    let each = λ (p : ℕ) (j : Kind) (v : ℕ).
    ap (λ b. ((o == p) && same_kind k j && b) || s.has p j v) (has-set_with empty_set u v (length-set_of (λ _. false)) small ∙ ap (λ b. (v == u) || b) (in_empty v) ∙ or-false (v == u)) in
    λ i. record { has = λ p j v. each p j v i; loose = s.loose }
