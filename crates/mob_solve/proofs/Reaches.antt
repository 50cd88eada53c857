-- Mobility sets as squares are added.
use Rattle.std.proofs.Common.{◌≡◌, ℕ, ◌*◌, ◌<◌, ◌≤◌, Bool, true, false, List, [], length, get_or, set, take, replicate, refl, sym, ap, subst, ◌∙◌, arith, inl, inr}
use Rattle.std.specs.List.{sum_by}
use Rattle.std.proofs.lemmas.Bool.{cases_eq, cases_lt, cases_Bool, true≢false}
use Rattle.std.proofs.lemmas.List.{get_or-set_same, get_or-set_other, get_or-replicate, length-replicate, get_or_past, get_or-take, length-take}
use Rattle.std.proofs.Math.Seq.{take-set-lt}
use Rattle.std.proofs.lemmas.List.Sums.{sum_by-set, sum_by-le}
use Rattle.cha_board.specs.declared.men.Kind.{Kind}
use Rattle.cha_board.specs.SquareSets.{empty_set, has_square, set_with, set_joined, is_subset}
use Rattle.mob_sets.specs.Mobility.{Sets, IsWithin}
use Rattle.mob_sets.specs.Rows.{place_of}
use Rattle.mob_sets.proofs.Order.{place_tells}
use Rattle.mob_solve.specs.declared.reach.Reach.{Reach}
use Rattle.mob_solve.specs.Reaching.{sets_in, size_of, total_of, Grew}
use Rattle.cha_board.proofs.Contents.{in_empty, in_joined, in_single, single_has}
use Rattle.mob_solve.proofs.Sizes.{joined_more, size_small}

-- rows of no square show nothing
pub none_in_reach : (n place u : ℕ) → has_square (get_or (replicate n empty_set) place []) u ≡ false
none_in_reach n place u =
    elim (cases_lt place n) [
      | inl inside ↦ ap (λ r. has_square r u) (get_or-replicate n place empty_set [] inside) ∙ in_empty u
      | inr past ↦ ap (λ r. has_square r u) (get_or_past (replicate n empty_set) place [] (omega (arith, length-replicate n empty_set, past)))
    ]

module _ (rows : List (List Bool)) (loose : List Bool) where
  -- a row is joined with squares
  pub joined_within : (o : ℕ) (k : Kind) (squares row : List Bool) (at : ℕ) (r : Sets) → at ≡ place_of o k → at < length rows → row ≡ set_joined (get_or rows at []) squares
      → ((u : ℕ) → has_square squares u ≡ true → r.has o k u ≡ true) → IsWithin (sets_in (record { rows = rows; loose = loose })) r
      → IsWithin (sets_in (record { rows = set rows at row; loose = loose })) r
  joined_within o k squares row at r place inside new given within = record {
    has = λ p j u h. (
        elim (cases_eq (place_of p j) at) [
          | inl e ↦ (
              let it = place_tells p o j k (e ∙ place) in
              let here : has_square row u ≡ true = sym (ap (λ x. has_square x u) (ap (λ x. get_or (set rows at row) x []) e ∙ get_or-set_same rows at row [] inside)) ∙ h in
              let both = in_joined (get_or rows at []) squares u (sym (ap (λ x. has_square x u) new) ∙ here) in
              let P : ℕ → Type 0 = λ x. r.has x j u ≡ true in
              let Q : Kind → Type 0 = λ x. r.has o x u ≡ true in
              let shown : r.has o k u ≡ true = elim both [
                | inl before ↦ within.has o k u (ap (λ x. has_square (get_or rows x []) u) (sym place) ∙ before)
                | inr now ↦ given u now
              ] in
              subst P (sym it.0) (subst Q (sym it.1) shown))
          | inr ne ↦ within.has p j u (sym (ap (λ x. has_square x u) (get_or-set_other rows at (place_of p j) row [] ne)) ∙ h)
        ]);
    loose = within.loose;
  }

  -- origins are loosened
  pub loosened_within : (origins new : List Bool) (r : Sets) → new ≡ set_joined loose origins → ((o : ℕ) → has_square origins o ≡ true → r.loose o ≡ true)
      → IsWithin (sets_in (record { rows = rows; loose = loose })) r → IsWithin (sets_in (record { rows = rows; loose = new })) r
  loosened_within origins new r is given within = record {
    has = within.has;
    loose = λ o h. (
        elim (in_joined loose origins o (sym (ap (λ x. has_square x o) is) ∙ h)) [
          | inl before ↦ within.loose o before
          | inr now ↦ given o now
        ]);
  }

  pub joined_total : (squares row : List Bool) (at : ℕ) → at < length rows → at < 384 → row ≡ set_joined (get_or rows at []) squares → is_subset squares (get_or rows at []) ≡ false
      → total_of (record { rows = rows; loose = loose }) < total_of (record { rows = set rows at row; loose = loose })
  unfolding total_of
  joined_total squares row at inside bound is new =
      let more : size_of (get_or rows at []) < size_of row = rw is (joined_more (get_or rows at []) squares new) in
      let few = take 384 rows in
      let long : at < length few = (let n = length-take 384 rows in omega (arith, n)) in
      let sums = sum_by-set size_of few at row [] long in
      let same : size_of (get_or few at []) ≡ size_of (get_or rows at []) = ap size_of (get_or-take 384 rows at [] bound) in
      let next : sum_by size_of (take 384 (set rows at row)) ≡ sum_by size_of (set few at row) = ap (sum_by size_of) (take-set-lt 384 rows at row bound) in
      omega (arith, more, sums, same, next)

  pub loosened_total : (origins new : List Bool) → new ≡ set_joined loose origins → is_subset origins loose ≡ false
      → total_of (record { rows = rows; loose = loose }) < total_of (record { rows = rows; loose = new })
  unfolding total_of
  loosened_total origins new is some =
      let more : size_of loose < size_of new = rw is (joined_more loose origins some) in
      omega (arith, more)

-- there are at most so many
pub total_small : (reach : Reach) → total_of reach ≤ 24640
unfolding total_of
total_small reach =
    let few = take 384 reach.rows in
    let rows = sum_by-le size_of 64 few (λ k d inside. size_small (get_or few k d)) in
    let loose = size_small reach.loose in
    let n = length-take 384 reach.rows in
    let most : length few * 64 ≤ 384 * 64 = omega (arith, n) in
    omega (arith, rows, loose, most)

-- what holds of the set of one square holds of its square, and back
pub single_inside : (set : List Bool) (at : ℕ) (inside : ℕ → Bool) → set ≡ set_with empty_set at → inside at ≡ true → (u : ℕ) → has_square set u ≡ true → inside u ≡ true
single_inside set at inside is holds u h =
    let P : ℕ → Type 0 = λ x. inside x ≡ true in
    subst P (sym (in_single at u (sym (ap (λ x. has_square x u) is) ∙ h))) holds

pub single_there : (set : List Bool) (at : ℕ) → set ≡ set_with empty_set at → at < 64 → has_square set at ≡ true
single_there set at is small = ap (λ x. has_square x at) is ∙ single_has at small

-- what is shown by sets is shown by equal ones
pub has_before : (old new : Reach) (o : ℕ) (k : Kind) (u : ℕ) → new ≡ old → (sets_in new).has o k u ≡ true → (sets_in old).has o k u ≡ true
has_before old new o k u same h = (let P : Reach → Type 0 = λ x. (sets_in x).has o k u ≡ true in subst P same h)

pub loose_before : (old new : Reach) (o : ℕ) → new ≡ old → (sets_in new).loose o ≡ true → (sets_in old).loose o ≡ true
loose_before old new o same h = (let P : Reach → Type 0 = λ x. (sets_in x).loose o ≡ true in subst P same h)

-- one step after another
grew_le : (a b : Reach) (x : Bool) → Grew a b x → total_of a ≤ total_of b
grew_le a b x g =
    elim (cases_Bool x) [
      | inl e ↦ (let more = g.more e in omega (arith, more))
      | inr e ↦ (let same = ap total_of (g.still e) in omega (arith, same))
    ]

pub grew_yes : (a b d : Reach) (x y : Bool) → Grew a b x → Grew b d y → y ≡ true → Grew a d true
grew_yes a b d x y g h e = record {
  still = λ f. absurd (true≢false f);
  more = λ f. (let low = grew_le a b x g in let more = h.more e in omega (arith, low, more));
}

pub grew_no : (a b d : Reach) (x y : Bool) → Grew a b x → Grew b d y → y ≡ false → Grew a d x
grew_no a b d x y g h e = record {
  still = λ f. h.still e ∙ g.still f;
  more = λ f. (let same = ap total_of (h.still e) in let more = g.more f in omega (arith, same, more));
}

pub grew_none : (a : Reach) → Grew a a false
grew_none a = record { still = λ e. refl; more = λ e. absurd (true≢false (sym e)) }
