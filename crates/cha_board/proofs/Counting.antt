-- What is counted and found on the squares, by sets.
use Rattle.std.proofs.Common.{◌≡◌, ℕ, suc, ◌<◌, Bool, true, false, not, ◌&&◌, ◌||◌, ◌==◌, List, [], ◌∷◌, length, map, filter, Option, Some, None, cond, refl, sym, ap, ◌∙◌, arith}
use Rattle.std.specs.List.{count_by, list_any}
use Rattle.std.proofs.lemmas.List.{length-map, get_or-map, ext_get_or}
use Rattle.std.proofs.lemmas.List.Sums.{length-filter}
use Rattle.cha_board.specs.declared.men.Color.{Color}
use Rattle.cha_board.specs.declared.men.Color.TheVariants.{White, Black}
use Rattle.cha_board.specs.declared.men.Kind.TheVariants.{Pawn}
use Rattle.cha_board.specs.declared.men.Man.{Man}
use Rattle.cha_board.specs.Men.{same_color, is_kind, is_pawn}
use Rattle.cha_board.specs.Squares.{squares, rank_of}
use Rattle.cha_board.specs.Board.{man_at, is_pawn_at_end, has_pawn_at_end}
use Rattle.cha_board.specs.SquareSets.{set_of, has_square, squares_in, set_joined, set_common, has_no_square}
use Rattle.cha_board.proofs.SetLaws.{length-set_of, has-set_of, same_set}
use Rattle.cha_board.proofs.Scans.{any_alike}

one_more : {X : Type 0} (b c : Bool) (x : X) (xs : List X) (ys : List Bool) → length xs ≡ length ys → length (cond b (x ∷ xs) xs) ≡ length (cond b (c ∷ ys) ys)
one_more true c x xs ys e = ap suc e
one_more false c x xs ys e = e

-- as many pass a test as of its answers are true
as_many : {X : Type 0} (p : X → Bool) (xs : List X) → length (filter p xs) ≡ length (filter (λ b. b) (map p xs))
as_many p [] = refl
as_many p (x ∷ xs) = one_more (p x) (p x) x (filter p xs) (filter (λ b. b) (map p xs)) (as_many p xs)

answers : (men : List (Option Man)) (p : Option Man → Bool) → length men ≡ 64 → map p men ≡ set_of (λ s. p (man_at men s))
answers men p size =
    ext_get_or false (map p men) (set_of (λ s. p (man_at men s))) (length-map men p ∙ size ∙ sym (length-set_of (λ s. p (man_at men s))))
    (λ s inside. let n = length-map men p in let few : s < length men = omega (arith, inside, n) in let small : s < 64 = omega (arith, few, size) in
    get_or-map p men s None false few ∙ sym (has-set_of (λ s. p (man_at men s)) s small))

-- the squares on which men pass a test are as many as the men that do
pub counted : (men : List (Option Man)) (p : Option Man → Bool) → length men ≡ 64 → length (squares_in (set_of (λ s. p (man_at men s)))) ≡ count_by p men
counted men p size =
    let test : ℕ → Bool = λ s. p (man_at men s) in
    let all = set_of test in
    let same : map (has_square all) squares ≡ map p men = same_set (has_square all) test (has-set_of test) ∙ sym (answers men p size) in
    as_many (has_square all) squares ∙ ap (λ bs. length (filter (λ b. b) bs)) same ∙ sym (as_many p men) ∙ length-filter p men

one_of_two : (c : Color) (b : Bool) → ((same_color c White && b) || (same_color c Black && b)) ≡ b
one_of_two White true = refl
one_of_two White false = refl
one_of_two Black true = refl
one_of_two Black false = refl

pawn_of_some_side : (found : Option Man) → is_pawn found ≡ is_kind Pawn found
pawn_of_some_side None = refl
pawn_of_some_side (Some man) = one_of_two man.color (is_kind Pawn (Some man))

-- a pawn stands at an end where the pawns and the squares of the two ends have a square in common
pub pawns_at_ends : (men : List (Option Man)) (pawns first last ends both : List Bool) → pawns ≡ set_of (λ s. is_kind Pawn (man_at men s))
    → first ≡ set_of (λ s. rank_of s == 0) → last ≡ set_of (λ s. rank_of s == 7) → ends ≡ set_joined first last → both ≡ set_common pawns ends
    → not (has_no_square both) ≡ has_pawn_at_end men
unfolding set_joined set_common has_no_square is_pawn_at_end has_pawn_at_end
pawns_at_ends men pawns first last ends both p f l e b =
    twice_not (list_any (has_square both) squares) ∙ any_alike (has_square both) (λ s. is_pawn_at_end men s) here
  where
    twice_not : (a : Bool) → not (not a) ≡ a
    twice_not true = refl
    twice_not false = refl

    here : (s : ℕ) → s < 64 → has_square both s ≡ is_pawn_at_end men s
    here s small =
        let pawn : has_square pawns s ≡ is_pawn (man_at men s) = ap (λ a. has_square a s) p ∙ has-set_of (λ s. is_kind Pawn (man_at men s)) s small ∙ sym (pawn_of_some_side (man_at men s)) in
        let low : has_square first s ≡ (rank_of s == 0) = ap (λ a. has_square a s) f ∙ has-set_of (λ s. rank_of s == 0) s small in
        let high : has_square last s ≡ (rank_of s == 7) = ap (λ a. has_square a s) l ∙ has-set_of (λ s. rank_of s == 7) s small in
        let end : has_square ends s ≡ (has_square first s || has_square last s) = ap (λ a. has_square a s) e ∙ has-set_of (λ s. has_square first s || has_square last s) s small in
        let here : has_square both s ≡ (has_square pawns s && has_square ends s) = ap (λ a. has_square a s) b ∙ has-set_of (λ s. has_square pawns s && has_square ends s) s small in
        rw (here, pawn, end, low, high) refl
