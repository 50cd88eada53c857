-- How a set of squares is filled.
use Rattle.std.proofs.Common.{◌≡◌, ℕ, ◌<◌, Bool, true, ◌&&◌, List, ◌∙◌, inl, inr}
use Rattle.std.proofs.lemmas.Bool.{and_parts, and_from}
use Rattle.cha_board.specs.declared.men.Color.{Color}
use Rattle.cha_board.specs.declared.men.Kind.{Kind}
use Rattle.cha_board.specs.SquareSets.{set_of, has_square, set_joined, is_subset}
use Rattle.cha_board.proofs.SetLaws.{has-set_of}
use Rattle.cha_board.proofs.Scans.{any_square_at}
use Rattle.cha_board.proofs.Contents.{some_square, in_set_of, in_joined, joined_left, subset_at}
use Rattle.mob_check.specs.declared.ground.Ground.{Ground}
use Rattle.mob_check.specs.SingleSteps.{stays}
use Rattle.mob_check.specs.Rules.{goes_on, is_entered, comes_on, StaysIn}
use Rattle.mob_solve.specs.Filled.{IsFilled}

-- the squares that are entered from a set as what they are
abbrev pub next_of : Ground → Color → Kind → List Bool → List Bool
next_of g c k set = set_of (comes_on g c k set)

pub in_next : (g : Ground) (c : Color) (k : Kind) (set : List Bool) (u t : ℕ) → u < 64 → t < 64 → has_square set u ≡ true → goes_on g c k u t ≡ true → stays c k t ≡ true → has_square (next_of g c k set) t ≡ true
unfolding comes_on is_entered
in_next g c k set u t small small' inside goes stay =
    let from : is_entered g c k set t ≡ true = any_square_at (λ x. has_square set x && goes_on g c k x t) u small (and_from (has_square set u) (goes_on g c k u t) inside goes) in
    has-set_of (comes_on g c k set) t small' ∙ and_from (is_entered g c k set t) (stays c k t) from stay

pub next_within : (g : Ground) (c : Color) (k : Kind) (set : List Bool) (inside : ℕ → Bool) → ((u : ℕ) → has_square set u ≡ true → inside u ≡ true) → StaysIn g c k inside
    → (t : ℕ) → has_square (next_of g c k set) t ≡ true → inside t ≡ true
unfolding comes_on is_entered
next_within g c k set inside holds closed t h =
    let here = in_set_of (comes_on g c k set) t h in
    let both = and_parts (is_entered g c k set t) (stays c k t) here.1 in
    let from = some_square (λ x. has_square set x && goes_on g c k x t) both.0 in
    let two = and_parts (has_square set from.0) (goes_on g c k from.0 t) from.2 in
    closed from.0 t from.1 here.0 (holds from.0 two.0) two.1 both.1

-- what has been found so far
pub record Fills (g : Ground) (c : Color) (k : Kind) (set found : List Bool) : Type 0 where
  pub more : (u : ℕ) → u < 64 → has_square set u ≡ true → has_square found u ≡ true
  pub least : (inside : ℕ → Bool) → ((u : ℕ) → has_square set u ≡ true → inside u ≡ true) → StaysIn g c k inside
      → (u : ℕ) → has_square found u ≡ true → inside u ≡ true

pub fills_begin : (g : Ground) (c : Color) (k : Kind) (set : List Bool) → Fills g c k set set
fills_begin g c k set = record { more = λ u small h. h; least = λ inside holds closed u h. holds u h }

pub fills_more : (g : Ground) (c : Color) (k : Kind) (set found next new : List Bool) → Fills g c k set found → next ≡ next_of g c k found → new ≡ set_joined found next → Fills g c k set new
fills_more g c k set found next new f is joined = rw (joined, is) (record {
  more = λ u small h. joined_left found (next_of g c k found) u small (f.more u small h);
  least = λ inside holds closed u h. (
      elim (in_joined found (next_of g c k found) u h) [
        | inl before ↦ f.least inside holds closed u before
        | inr now ↦ next_within g c k found inside (f.least inside holds closed) closed u now
      ]);
})

pub fills_all : (g : Ground) (c : Color) (k : Kind) (set found next : List Bool) → Fills g c k set found → next ≡ next_of g c k found → is_subset next found ≡ true → IsFilled g c k set found
fills_all g c k set found next f is nothing = record {
  more = f.more;
  closed = λ u t small small' inside goes stay. subset_at (next_of g c k found) found (rw is at nothing) t small' (in_next g c k found u t small small' inside goes stay);
  least = f.least;
}
