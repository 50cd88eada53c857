-- Where the king of a side stands.
use Rattle.std.proofs.Common.{◌≡◌, List, length, Option, None, true, inl, inr, arith}
use Rattle.std.specs.List.{position_or_len}
use Rattle.std.proofs.lemmas.Bool.{cases_lt}
use Rattle.std.proofs.lemmas.List.Sums.{fails_before_first, passes_at_first}
use Rattle.cha_board.specs.declared.men.Color.{Color}
use Rattle.cha_board.specs.declared.men.Kind.TheVariants.{King}
use Rattle.cha_board.specs.declared.men.Man.{Man}
use Rattle.cha_board.specs.Men.{is_man}
use Rattle.cha_board.specs.Board.{man_at, king_of, has_one_king}
use Rattle.cha_board.proofs.Kings.{some_king}

-- the king of a side that has one stands there
pub king_stands : (men : List (Option Man)) (c : Color) → has_one_king men c ≡ true → is_man c King (man_at men (king_of men c)) ≡ true
unfolding king_of
king_stands men c one =
    elim (cases_lt (position_or_len (is_man c King) men) (length men)) [
      | inl inside ↦ passes_at_first (is_man c King) men None inside
      | inr past ↦ absurd (some_king men c one (λ k inside. fails_before_first (is_man c King) men k None (omega arith)))
    ]
