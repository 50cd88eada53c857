-- Why the men alone show that a side cannot mate (this project).
use Rattle.std.specs.Prelude.{ℕ, if◌then◌else◌, nat_eq, List, Option, Some, None, codes}
use lib.Pointwise.{pointwise}
use Rattle.cha_board.specs.declared.men.Color.{Color}
use Rattle.cha_board.specs.Board.{Board}
use Rattle.mob_small.specs.declared.reasons.Reason.{Reason}
use Rattle.mob_small.specs.declared.reasons.Reason.TheVariants.{Small, Lone}
use Rattle.mob_small.specs.Small.{IsSmallUnwinnable}
use Rattle.mob_small.specs.Lone.{IsLoneUnwinnable}

-- a reason shows that w cannot mate from p
abbrev pub ReasonHolds : Board → Color → Reason → Type 0
ReasonHolds p w Small = IsSmallUnwinnable p w
ReasonHolds p w Lone = IsLoneUnwinnable p w

-- its word in a certificate
abbrev pub reason_word : Reason → List ℕ
reason_word Small = codes "small"
reason_word Lone = codes "lone"

-- the reason that has a word
abbrev pub reason_named : List ℕ → Option Reason
reason_named word =
    if pointwise nat_eq word (codes "small") then Some Small
    else (if pointwise nat_eq word (codes "lone") then Some Lone else None)

-- its name in a report
abbrev pub reason_name : Reason → List ℕ
reason_name Small = codes "material"
reason_name Lone = codes "lone pieces"
