-- Where the king of a side stands.
use Rattle.std.proofs.Common.{◌≡◌, ℕ, ◌<◌, true, false, List, length, Option, None, ap, ◌∙◌, arith}
use Rattle.std.specs.List.{count_by}
use Rattle.std.proofs.lemmas.Bool.{eqb-true}
use Rattle.std.proofs.lemmas.List.{get_or_default}
use Rattle.std.proofs.lemmas.List.Sums.{position_or_len_is}
use Rattle.cha_board.specs.declared.men.Color.{Color}
use Rattle.cha_board.specs.declared.men.Kind.TheVariants.{King}
use Rattle.cha_board.specs.declared.men.Man.{Man}
use Rattle.cha_board.specs.Men.{is_man}
use Rattle.cha_board.specs.Board.{king_of, has_one_king, man_at}
use Rattle.cha_board.proofs.Scans.{none_counted}

-- the first square with a king of c is where its king stands
pub king_is : (men : List (Option Man)) (c : Color) (s : ℕ) → s < length men → ((k : ℕ) → k < s → is_man c King (man_at men k) ≡ false) → is_man c King (man_at men s) ≡ true
    → king_of men c ≡ s
unfolding king_of
king_is men c s inside before here = position_or_len_is (is_man c King) men s None (omega arith) before (λ _. here)

-- a side with one king has it on some square
pub some_king : (men : List (Option Man)) (c : Color) → has_one_king men c ≡ true → ((k : ℕ) → k < length men → is_man c King (man_at men k) ≡ false) → ⊥
unfolding has_one_king
some_king men c one none =
    let e : count_by (is_man c King) men ≡ 1 = eqb-true _ _ one in
    let fails = λ (k : ℕ) (d : Option Man) (inside : k < length men). ap (is_man c King) (get_or_default men k d None inside) ∙ none k inside in
    let f : count_by (is_man c King) men ≡ 0 = none_counted (is_man c King) men None fails in
    omega (arith, e, f)
