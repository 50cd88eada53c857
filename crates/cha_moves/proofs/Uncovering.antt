-- Men that alone stand between a square and a man that aims at it, gathered one after another.
use Rattle.std.proofs.Common.{◌≡◌, ℕ, ◌<◌, Bool, true, not, ◌&&◌, List, [], ◌∷◌, Option, ◌⊎◌, inl, inr, sym, ◌∙◌, ap, subst}
use Rattle.std.specs.List.{Contains}
use Rattle.std.proofs.lemmas.Bool.{and_parts, and_from, not-true}
use Rattle.cha_board.specs.declared.men.Color.{Color}
use Rattle.cha_board.specs.declared.men.Man.{Man}
use Rattle.cha_board.specs.Squares.{lies_between}
use Rattle.cha_board.specs.Board.{man_at, is_empty}
use Rattle.cha_board.specs.SquareSets.{set_of, squares_in, has_square, set_joined, set_common}
use Rattle.cha_board.proofs.SetLaws.{has-set_of}
use Rattle.cha_board.proofs.Contents.{joined_left, joined_right}
use Rattle.cha_moves.specs.Shields.{aims_as}
use Rattle.cha_moves.specs.Checks.{IsAlone}
use Rattle.cha_moves.proofs.Contained.{Contains-cons_cases}
use Rattle.cha_moves.proofs.MateMoves.{in_squares, none_left}

-- the men that aim at a square
pub aimers_left : (c : Color) (k : ℕ) (men : List (Option Man)) (set : List Bool) (u : ℕ) → u < 64 → set ≡ set_of (λ u. aims_as c k u (man_at men u)) → aims_as c k u (man_at men u) ≡ true → Contains (squares_in set) u
aimers_left c k men set u small is aims = in_squares set u small (ap (λ x. has_square x u) is ∙ has-set_of (λ u. aims_as c k u (man_at men u)) u small ∙ aims)

-- one more line
pub line_added : (left next lines now line : List Bool) (by u s : ℕ) → s < 64 → squares_in left ≡ by ∷ squares_in next → (by ≡ u → has_square line s ≡ true) → now ≡ set_joined lines line
    → Contains (squares_in left) u ⊎ (has_square lines s ≡ true) → Contains (squares_in next) u ⊎ (has_square now s ≡ true)
line_added left next lines now line by u s small is on_line now_is (inr there) = inr (ap (λ x. has_square x s) now_is ∙ joined_left lines line s small there)
line_added left next lines now line by u s small is on_line now_is (inl there) =
    elim (Contains-cons_cases by (squares_in next) u (subst (λ (l : List ℕ). Contains l u) is there)) [
      | inr later ↦ inl later
      | inl here ↦ inr (ap (λ x. has_square x s) now_is ∙ joined_right lines line s small (on_line here))
    ]

pub all_lines : (left : List Bool) (u : ℕ) (b : Bool) → squares_in left ≡ [] → Contains (squares_in left) u ⊎ (b ≡ true) → b ≡ true
all_lines left u b is (inl there) = absurd (none_left left u is there)
all_lines left u b is (inr h) = h

-- the men between two squares
way_has : (men : List (Option Man)) (u k : ℕ) (line occupied way : List Bool) (y : ℕ) → y < 64 → line ≡ set_of (lies_between u k) → occupied ≡ set_of (λ x. not (is_empty men x)) → way ≡ set_common line occupied → has_square way y ≡ (lies_between u k y && not (is_empty men y))
unfolding set_common
way_has men u k line occupied way y small line_is occupied_is way_is =
    ap (λ x. has_square x y) way_is ∙ has-set_of (λ s. has_square line s && has_square occupied s) y small
    ∙ ap (λ b. b && has_square occupied y) (ap (λ x. has_square x y) line_is ∙ has-set_of (lies_between u k) y small)
    ∙ ap (λ b. lies_between u k y && b) (ap (λ x. has_square x y) occupied_is ∙ has-set_of (λ x. not (is_empty men x)) y small)

-- a man that alone stands between two squares is the only one there
pub alone_there : (men : List (Option Man)) (u k s : ℕ) (line occupied way : List Bool) → s < 64 → line ≡ set_of (lies_between u k) → occupied ≡ set_of (λ x. not (is_empty men x)) → way ≡ set_common line occupied → lies_between u k s ≡ true → IsAlone men u k s
    → (has_square way s ≡ true) × ((y : ℕ) → y < 64 → has_square way y ≡ true → y ≡ s)
alone_there men u k s line occupied way small line_is occupied_is way_is lies alone = (
  way_has men u k line occupied way s small line_is occupied_is way_is ∙ and_from (lies_between u k s) (not (is_empty men s)) lies (ap not alone.stands),
  λ y low h.
      let both = and_parts (lies_between u k y) (not (is_empty men y)) (sym (way_has men u k line occupied way y low line_is occupied_is way_is) ∙ h) in
      alone.only y low both.0 (not-true (is_empty men y) both.1),
)
