-- Why the men alone show that a side cannot mate: the law, and the words.
use Rattle.std.proofs.Common.{◌≡◌, nat_lt, true, Some, refl}
use Rattle.std.specs.List.{list_all}
use Rattle.cha_board.specs.declared.men.Color.{Color}
use Rattle.cha_board.specs.Board.{Board, IsValid}
use Rattle.cha_moves.specs.Ends.{IsUnwinnable}
use Rattle.mob_small.specs.declared.reasons.Reason.{Reason}
use Rattle.mob_small.specs.declared.reasons.Reason.TheVariants.{Small, Lone}
use Rattle.mob_small.specs.Reasons.{ReasonHolds, reason_word, reason_named}
use Rattle.mob_small.proofs.Keeping.{small_bounded}
use Rattle.mob_small.proofs.LoneKeeping.{lone_bounded}

-- what one of them shows is unwinnable
pub bounded : (p : Board) (w : Color) (reason : Reason) → IsValid p → ReasonHolds p w reason → IsUnwinnable p w
bounded p w Small valid holds = small_bounded p w valid holds
bounded p w Lone valid holds = lone_bounded p w valid holds

-- each is found again by its word,
pub named_again : (reason : Reason) → reason_named (reason_word reason) ≡ Some reason
named_again Small = refl
named_again Lone = refl

-- in which there is neither a blank nor the end of a line
pub word_big : (reason : Reason) → list_all (λ b. nat_lt 32 b) (reason_word reason) ≡ true
word_big Small = refl
word_big Lone = refl
