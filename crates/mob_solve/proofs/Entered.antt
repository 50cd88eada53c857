-- Sets into which others are entered.
use Rattle.std.proofs.Common.{◌≡◌, ℕ, ◌<◌, ◌≤◌, Bool, true, ◌&&◌, ◌==◌, List, [], length, refl, sym, ap, subst, arith, inl, inr}
use Rattle.std.proofs.lemmas.Bool.{and_parts, or_cases, or_left, or_right, and_from, both_ways, cases_lt, eq-eqb, eqb-true}
use Rattle.std.proofs.lemmas.List.{get_or_past}
use Rattle.cha_board.specs.declared.men.Kind.{Kind}
use Rattle.cha_board.specs.declared.men.Kind.TheVariants.{Pawn, Knight, Bishop, Rook, Queen, King}
use Rattle.cha_board.specs.Men.{same_kind}
use Rattle.cha_board.specs.SquareSets.{empty_set, has_square}
use Rattle.mob_sets.specs.Mobility.{Sets, IsWithin}
use Rattle.mob_sets.specs.Rows.{has_entry, sets_of, place_of, sets_joined, sets_loosened}
use Rattle.cha_board.proofs.Identity.{same_kind_self, same_kind_equal}
use Rattle.mob_solve.specs.declared.reach.Reach.{Reach}
use Rattle.mob_solve.specs.Least.{IsLeast}
use Rattle.mob_solve.specs.Reaching.{sets_in}
use Rattle.cha_board.specs.Board.{Board}
use Rattle.cha_board.proofs.Contents.{in_empty, same_test}

pub within_then : (s r t : Sets) → IsWithin s r → IsWithin r t → IsWithin s t
within_then s r t a b = record { has = λ o k u h. b.has o k u (a.has o k u h); loose = λ o h. b.loose o (a.loose o h) }

-- the empty sets lie within all
pub nothing_within : (r : Sets) → IsWithin (sets_of (record { rows = []; loose = empty_set })) r
unfolding has_entry
nothing_within r = record {
  has = λ o k u h. cc;
  loose = λ o h. absurd (both_ways (has_square empty_set o) (in_empty o) h);
}

-- more squares
pub joined_grows : (s new : Sets) (o : ℕ) (k : Kind) (more : List Bool) → new ≡ sets_joined s o k more → IsWithin s new
joined_grows s new o k more is =
    let P : Sets → Type 0 = λ x. IsWithin s x in
    subst P (sym is) (record { has = λ p j v h. or_right ((o == p) && same_kind k j && has_square more v) (s.has p j v) h; loose = λ p h. h })

pub joined_has : (s new : Sets) (o : ℕ) (k : Kind) (more : List Bool) → new ≡ sets_joined s o k more → (u : ℕ) → has_square more u ≡ true → new.has o k u ≡ true
joined_has s new o k more is u there =
    let P : Sets → Type 0 = λ x. x.has o k u ≡ true in
    subst P (sym is) (or_left ((o == o) && same_kind k k && has_square more u) (s.has o k u)
    (and_from ((o == o) && same_kind k k) (has_square more u) (and_from (o == o) (same_kind k k) (eq-eqb o o refl) (same_kind_self k)) there))

pub joined_within : (s new r : Sets) (o : ℕ) (k : Kind) (more : List Bool) → new ≡ sets_joined s o k more → ((u : ℕ) → has_square more u ≡ true → r.has o k u ≡ true) → IsWithin s r → IsWithin new r
joined_within s new r o k more is given within =
    let P : Sets → Type 0 = λ x. IsWithin x r in
    subst P (sym is) (record {
      has = λ p j v h. (
          elim (or_cases ((o == p) && same_kind k j && has_square more v) (s.has p j v) h) [
            | inl e ↦ (
                let a = and_parts ((o == p) && same_kind k j) (has_square more v) e in
                let b = and_parts (o == p) (same_kind k j) a.0 in
                let A : ℕ → Type 0 = λ x. r.has x j v ≡ true in
                let B : Kind → Type 0 = λ x. r.has o x v ≡ true in
                subst A (eqb-true o p b.0) (subst B (same_kind_equal k j b.1) (given v a.1)))
            | inr before ↦ within.has p j v before
          ]);
      loose = within.loose;
    })

-- one more loose origin
pub loosened_grows : (s new : Sets) (o : ℕ) → new ≡ sets_loosened s o → IsWithin s new
loosened_grows s new o is =
    let P : Sets → Type 0 = λ x. IsWithin s x in
    subst P (sym is) (record { has = λ p j v h. h; loose = λ p h. or_right (p == o) (s.loose p) h })

pub loosened_has : (s new : Sets) (o : ℕ) → new ≡ sets_loosened s o → new.loose o ≡ true
loosened_has s new o is =
    let P : Sets → Type 0 = λ x. x.loose o ≡ true in
    subst P (sym is) (or_left (o == o) (s.loose o) (eq-eqb o o refl))

pub loosened_inside : (s new r : Sets) (o : ℕ) → new ≡ sets_loosened s o → r.loose o ≡ true → IsWithin s r → IsWithin new r
loosened_inside s new r o is given within =
    let P : Sets → Type 0 = λ x. IsWithin x r in
    subst P (sym is) (record {
      has = within.has;
      loose = λ p h. (
          elim (or_cases (p == o) (s.loose p) h) [
            | inl e ↦ (let A : ℕ → Type 0 = λ x. r.loose x ≡ true in subst A (sym (eqb-true p o e)) given)
            | inr before ↦ within.loose p before
          ]);
    })

-- what has grown has only squares of the board as origins
pub origin_small : (reach : Reach) (o : ℕ) (k : Kind) (u : ℕ) → length reach.rows ≡ 384 → (sets_in reach).has o k u ≡ true → o < 64
origin_small reach o k u long h =
    elim (cases_lt o 64) [
      | inl small ↦ small
      | inr past ↦ (
          let beyond : length reach.rows ≤ place_of o k = omega (arith, long, past) in
          absurd (both_ways ((sets_in reach).has o k u) (ap (λ r. has_square r u) (get_or_past reach.rows (place_of o k) [] beyond)) h))
    ]

-- a fact for each kind
pub for_each_kind : (P : Kind → Type 0) → P Pawn → P Knight → P Bishop → P Rook → P Queen → P King → (k : Kind) → P k
for_each_kind P p n b r q k Pawn = p
for_each_kind P p n b r q k Knight = n
for_each_kind P p n b r q k Bishop = b
for_each_kind P p n b r q k Rook = r
for_each_kind P p n b r q k Queen = q
for_each_kind P p n b r q k King = k

-- sets within each other are the same
pub within_both : (s r : Sets) → IsWithin s r → IsWithin r s → s ≡ r
within_both s r a b =
    let each = λ (o : ℕ) (k : Kind) (u : ℕ). same_test (s.has o k u) (r.has o k u) (a.has o k u) (b.has o k u) in
    let loose = λ (o : ℕ). same_test (s.loose o) (r.loose o) (a.loose o) (b.loose o) in
    λ i. record { has = λ o k u. each o k u i; loose = λ o. loose o i }

pub least_entered : (p : Board) (s r : Sets) → IsWithin s r → IsWithin r s → IsLeast p s → IsLeast p r
least_entered p s r a b least = (let P : Sets → Type 0 = λ x. IsLeast p x in subst P (within_both s r a b) least)
