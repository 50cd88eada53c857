-- What the sets of men tell of the men that stand there.
use Rattle.std.proofs.Common.{◌≡◌, ℕ, ◌<◌, ◌==◌, Bool, true, false, not, ◌&&◌, List, length, Option, Some, None, slice_get, ◌↔◌, IsTrue, sym, ap, ◌∙◌, inl, inr}
use Rattle.std.specs.List.{list_any}
use Rattle.std.proofs.lemmas.Bool.{and_from, and_parts, both_ways, cases_eq, eqb-false, ne_eqb, false_from_ne_true, not-true}
use Rattle.cha_board.specs.declared.men.Color.{Color}
use Rattle.cha_board.specs.declared.men.Color.TheVariants.{White, Black}
use Rattle.cha_board.specs.declared.men.Kind.{Kind}
use Rattle.cha_board.specs.declared.men.Kind.TheVariants.{King}
use Rattle.cha_board.specs.declared.men.Man.{Man}
use Rattle.cha_board.specs.Men.{is_man, is_non_king}
use Rattle.cha_board.specs.Squares.{squares}
use Rattle.cha_board.specs.SquareSets.{set_of, has_square, squares_in, set_without, has_no_square, is_subset}
use Rattle.cha_board.specs.Board.{man_at}
use Rattle.cha_board.proofs.SetLaws.{has-set_of}
use Rattle.cha_board.proofs.Contents.{in_set_of, some_square, subset_at, subset_from}
use Rattle.cha_board.proofs.Scans.{any_square_at}
use Rattle.cha_board.proofs.Firsts.{first_tells, none_tells}
use Rattle.mob_small.specs.Small.{HasOneBeside}
use Rattle.mob_small.proofs.Scene.{non_king_inside, non_king_man}
use Rattle.mob_small.specs.Lone.{HasOnly, HasMenOn, HasOneColor}

-- a side has only such men where their squares are among those of such men
pub only_within : (men : List (Option Man)) (c : Color) (test : ℕ → Option Man → Bool) → length men ≡ 64 → (b : Bool)
    → b ≡ is_subset (set_of (λ u. is_non_king c (man_at men u))) (set_of (λ u. test u (man_at men u))) → IsTrue b ↔ HasOnly men c test
only_within men c test size b e =
    let has : ℕ → Bool = λ u. is_non_king c (man_at men u) in
    let passes : ℕ → Bool = λ u. test u (man_at men u) in (
      λ h u there. (
          let small : u < 64 = rw size at (non_king_inside men c u there) in
          sym (has-set_of passes u small) ∙ subset_at (set_of has) (set_of passes) (sym e ∙ h) u small (has-set_of has u small ∙ there)),
      λ only. e ∙ subset_from (set_of has) (set_of passes) (λ u small there. has-set_of passes u small ∙ only u (in_set_of has u there).1),
    )

-- With the squares of the men of c and kind k, and those of its men other than kings:
module _ (men : List (Option Man)) (c : Color) (k : Kind) (size : length men ≡ 64) (no_king : (k ≡ King → ⊥)) (set : List Bool) (is : set ≡ set_of (λ u. is_man c k (man_at men u))) where
  -- if there is no first such man, none stands beside the king
  pub no_one : slice_get (squares_in set) 0 ≡ None → IsTrue false ↔ HasOneBeside men c k
  no_one none = (
    λ h. cc,
    λ one. (
        let small : one.square < 64 = rw size at (non_king_inside men c one.square (non_king_man (man_at men one.square) c k one.stands no_king)) in
        let here : has_square set one.square ≡ true = ap (λ x. has_square x one.square) is ∙ has-set_of (λ u. is_man c k (man_at men u)) one.square small ∙ one.stands in
        absurd (both_ways (has_square set one.square) (none_tells set none one.square small) here)),
  )

  -- and else it is alone where no other man stands there
  module _ (all : List Bool) (all_is : all ≡ set_of (λ u. is_non_king c (man_at men u))) (at : ℕ) (first : slice_get (squares_in set) 0 ≡ Some at) where
    stands : is_man c k (man_at men at) ≡ true
    stands = (in_set_of (λ u. is_man c k (man_at men u)) at (sym (ap (λ x. has_square x at) is) ∙ (first_tells set at first).1)).1

    pub one_alone : (b : Bool) → b ≡ has_no_square (set_without all at) → IsTrue b ↔ HasOneBeside men c k
    unfolding set_without has_no_square
    one_alone b e =
        let other : ℕ → Bool = λ u. not (u == at) && has_square all u in
        let some : Bool = list_any (has_square (set_of other)) squares in (
          λ h. record {
            square = at;
            stands = stands;
            no_king = no_king;
            alone = λ u there. elim (cases_eq u at) [
              | inl same ↦ same
              | inr apart ↦ (
                  let small : u < 64 = rw size at (non_king_inside men c u there) in
                  let inside : has_square all u ≡ true = ap (λ x. has_square x u) all_is ∙ has-set_of (λ x. is_non_king c (man_at men x)) u small ∙ there in
                  let found : other u ≡ true = and_from (not (u == at)) (has_square all u) (ap not (ne_eqb u at apart)) inside in
                  let here : has_square (set_of other) u ≡ true = has-set_of other u small ∙ found in
                  absurd (both_ways some (not-true some (sym e ∙ h)) (any_square_at (has_square (set_of other)) u small here)))
            ];
          },
          λ one. (
              let none : some ≡ false = false_from_ne_true some (λ h. (
              let v = some_square (has_square (set_of other)) h in
              let both = and_parts (not (v.0 == at)) (has_square all v.0) (in_set_of other v.0 v.2).1 in
              let there = (in_set_of (λ x. is_non_king c (man_at men x)) v.0 (sym (ap (λ x. has_square x v.0) all_is) ∙ both.1)).1 in
              let here = one.alone at (non_king_man (man_at men at) c k stands no_king) in
              eqb-false v.0 at (not-true (v.0 == at) both.0) (one.alone v.0 there ∙ sym here))) in
              e ∙ ap not none),
        )

-- where the squares are not of the one colour, they are of the other
pub either_square : (men : List (Option Man)) (w : Color) (a b : Bool) → a ≡ false → IsTrue a ↔ HasMenOn White men w → IsTrue b ↔ HasMenOn Black men w → IsTrue b ↔ HasOneColor men w
either_square men w a b out white black = (λ h. (Black, black.0 h), λ has. other_square has.0 has.1)
  where
    other_square : (square : Color) → HasMenOn square men w → IsTrue b
    other_square White has = absurd (both_ways a out (white.1 has))
    other_square Black has = black.1 has
